use Rattle.std.proofs.Common.{◌≡◌, ◌++◌, take}
use Rattle.std.specs.List.{flat_map}
use Rattle.history_text.specs.History.{left_line}
use Rattle.history_text.proofs.history.push_left.Given as goal

abbrev pub invariant-loop-thing : goal.invariant-loop-thing
invariant-loop-thing l = l.out.items ≡ l.initial.out.items ++ flat_map left_line (take l.thing-index l.left)
