use Rattle.std.proofs.Common.{◌≡◌, ◌≤◌, ◌++◌, drop, length}
use Rattle.std.specs.Prelude.{vec_len, vec_capacity}
use Rattle.std.specs.Option.{option_map}
use Rattle.script_names.specs.Tables.{given, taken_from, left_by}
use Rattle.plain_names.proofs.slots.Slots.take_all.Given as goal

-- what was taken, and then what is taken from the names left, is all; to give back what was taken undoes it
abbrev pub invariant-loop-name : goal.invariant-loop-name
invariant-loop-name g l = record {
  count : vec_len l.taken ≡ l.name-index;
  things : taken_from l.fn.self.items.items l.names
      ≡ option_map (λ more. l.taken.items ++ more) (taken_from l.self.items.items (drop l.name-index l.names));
  left : left_by l.fn.self.items.items l.names ≡ left_by l.self.items.items (drop l.name-index l.names);
  back : given l.names l.taken.items l.self.items.items ≡ l.fn.self.items.items;
  space : length l.names ≤ vec_capacity l.taken;
}
