use Rattle.mojo_tool.proofs.Loads.{not_loaded}
use Rattle.mojo_tool.proofs.load.decide_load.Goals as goal

pub load_text-requires : goal.load_text-requires
load_text-requires c = c.args.messages.few

pub load_refused-requires : goal.load_refused-requires
load_refused-requires c = c.in-Err.ensures.given

pub returns-in-Err-clause-stop : goal.returns-in-Err-clause-stop
returns-in-Err-clause-stop c = not_loaded c.in-Err.error c.load_refused.result c.in-Err.ensures.refused c.load_refused.ensures
