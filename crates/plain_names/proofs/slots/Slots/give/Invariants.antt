use Rattle.std.proofs.Common.{◌≡◌}
use Rattle.script_names.specs.Tables.{given}
use Rattle.plain_names.proofs.slots.Slots.give.Given as goal

-- to give what is left comes to the same as to give all
abbrev pub invariant-loop-one : goal.invariant-loop-one
invariant-loop-one g l = record {
  rest : given l.names l.left.items l.self.items.items ≡ given l.names l.fn.things.items l.fn.self.items.items;
}

abbrev pub decreases-loop-one : goal.decreases-loop-one
decreases-loop-one g l = goal.left-loop-one g l
