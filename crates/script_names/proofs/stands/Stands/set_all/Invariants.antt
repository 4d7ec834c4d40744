use Rattle.std.proofs.Common.{◌≡◌, ◌≤◌, length, take}
use Rattle.script_names.specs.Tables.{given}
use Rattle.script_names.proofs.stands.Stands.set_all.Given as goal

-- what is left comes under the names
abbrev pub invariant-loop-left : goal.invariant-loop-left
invariant-loop-left l = record {
  rest : given l.names (take l.left l.handles) l.self.things.items ≡ given l.names l.handles l.fn.self.things.items;
  most : l.left ≤ length l.handles;
}

abbrev pub decreases-loop-left : goal.decreases-loop-left
decreases-loop-left l = l.left
