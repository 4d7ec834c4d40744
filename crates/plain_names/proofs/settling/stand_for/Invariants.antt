use Rattle.std.proofs.Common.{◌≡◌, ◌≤◌, length, take}
use Rattle.script_names.specs.Tables.{given}
use Rattle.plain_names.proofs.settling.stand_for.Given as goal

-- what is left comes under the names
abbrev pub invariant-loop-left : goal.invariant-loop-left
invariant-loop-left l = record {
  rest : given l.names (take l.left l.things) l.stands.things.items ≡ given l.names l.things l.fn.stands.things.items;
  most : l.left ≤ length l.things;
}

abbrev pub decreases-loop-left : goal.decreases-loop-left
decreases-loop-left l = l.left
