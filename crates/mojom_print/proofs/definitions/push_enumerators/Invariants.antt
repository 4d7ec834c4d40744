use Rattle.std.proofs.Common.{◌≡◌, ◌++◌, take}
use Rattle.std.specs.List.{flat_map}
use Rattle.mojom_print.specs.Definitions.{enumerator_text}
use Rattle.mojom_print.proofs.definitions.push_enumerators.Given as goal

abbrev pub invariant-loop-enumerator : goal.invariant-loop-enumerator
invariant-loop-enumerator l = l.out.items ≡ l.initial.out.items ++ flat_map (enumerator_text l.depth) (take l.enumerator-index l.enumerators)
