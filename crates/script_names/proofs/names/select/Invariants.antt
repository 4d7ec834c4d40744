use Rattle.std.proofs.Common.{◌≡◌, ◌++◌, drop}
use Rattle.std.specs.Prelude.{filter, is_some}
use Rattle.call_script.specs.declared.script.NameId.{NameId}
use Rattle.script_names.specs.Needs.{chosen}
use Rattle.script_names.specs.Held.{held_at}
use Rattle.script_names.proofs.names.select.Given as goal

-- what was selected, and then what is of the names left, is all
abbrev pub invariant-loop-name : goal.invariant-loop-name
invariant-loop-name l = record {
  all : l.selected.items ++ filter (λ (n : NameId). chosen (λ m. is_some (held_at l.stands.things.items m)) l.stand n) (drop l.name-index l.names)
      ≡ filter (λ (n : NameId). chosen (λ m. is_some (held_at l.stands.things.items m)) l.stand n) l.names;
}
