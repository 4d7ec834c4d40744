use Rattle.load_run.specs.Commands.{caller, taker}
use Rattle.load_run.proofs.Loading.{fresh}
use Rattle.load_run.proofs.whole.new_pair.Goals as goal

pub returns : goal.returns
returns c = λ schema second. record {
  caller = fresh schema (caller second) c.new-caller.result c.new-caller.ensures.kept;
  taker = fresh schema (taker second) c.new-taker.result c.new-taker.ensures.kept;
}
