use Rattle.std.proofs.Common.{false, true}
use Rattle.load_run.proofs.whole.new_pairs.Goals as goal

pub returns : goal.returns
returns c = λ schema. record { first = c.new_pair-first.ensures schema false; second = c.new_pair-second.ensures schema true }
