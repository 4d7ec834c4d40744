use Rattle.script_run.proofs.Ending.{have_called}
use Rattle.script_run.proofs.desks.wake.Goals as goal

pub wake_one-requires-clause-called : goal.wake_one-requires-clause-called
wake_one-requires-clause-called c = have_called c.args.core c.args.seq c.args.rests.now c.requires.rested
