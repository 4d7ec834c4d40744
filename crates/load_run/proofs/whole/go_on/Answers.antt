use Rattle.load_run.proofs.Loading.{load_counted}
use Rattle.load_run.proofs.whole.go_on.Goals as goal

pub counted-core-requires : goal.counted-core-requires
counted-core-requires c = let after = rw c.in-Ok.is at c.send_all-core.ensures in record { rested = after.rests }

pub returns-in-Ok : goal.returns-in-Ok
returns-in-Ok c =
    load_counted c.args.schema.now c.args.seed c.args.messages c.send_all-core.result.0 c.send_all-core.result.1 c.counted-core.result.1
    (rw c.in-Ok.is at c.send_all-core.ensures) c.counted-core.ensures.legal c.counted-core.ensures.counted
