use Rattle.std.proofs.Common.{◌≡◌, drop}
use Rattle.handle_table.specs.Things.{has}
use Rattle.core_state.proofs.things.contains.Given as goal

-- it is in what is left
abbrev pub invariant-loop-other : goal.invariant-loop-other
invariant-loop-other l = has (drop l.other-index l.things) l.thing ≡ has l.things l.thing
