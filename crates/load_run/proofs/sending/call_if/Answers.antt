use Rattle.load_run.proofs.OneMessage.{went_stays}
use Rattle.load_run.proofs.sending.call_if.Goals as goal

pub call_out-requires-clause-prepared : goal.call_out-requires-clause-prepared
call_out-requires-clause-prepared c = rw c.in-Some.is at c.requires.prepared

pub returns-in-None-clause-went : goal.returns-in-None-clause-went
returns-in-None-clause-went c =
    went_stays c.args.schema.now c.args.message c.args.targets c.requires.targets c.args.core (rw c.in-None.is at c.requires.prepared)
