use Rattle.std.proofs.Common.{Bool, subst, sym}
use Rattle.load_run.specs.steps.Doing.{HasBoth}
use Rattle.load_run.proofs.Loading.{over_first}
use Rattle.load_run.proofs.Pairing.{on_ok_both}
use Rattle.load_run.proofs.whole.send_first.Goals as goal

pub send-core-requires-clause-rested : goal.send-core-requires-clause-rested
send-core-requires-clause-rested c = subst (λ (b : Bool). HasBoth c.args.core b c.args.pairs.first) (sym c.requires.whose) c.requires.rested.first

pub returns-clause-rested : goal.returns-clause-rested
returns-clause-rested c =
    on_ok_both c.send-core.result.2
    (over_first c.args.schema.now c.args.message c.args.core c.send-core.result.0 c.args.pairs c.send-core.result.1 c.requires.whose c.requires.rested)
    c.send-core.ensures.went c.send-core.ensures.rested
