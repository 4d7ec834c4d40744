use Rattle.std.proofs.Common.{◌≡◌, drop}
use Rattle.script_names.specs.Tables.{left_by}
use Rattle.plain_names.proofs.slots.Slots.clear_all.Given as goal

-- with those that are left it comes to the same
abbrev pub invariant-loop-name : goal.invariant-loop-name
invariant-loop-name g l = record {
  left : left_by l.fn.self.items.items l.names ≡ left_by l.self.items.items (drop l.name-index l.names);
}
