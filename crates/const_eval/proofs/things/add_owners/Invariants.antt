use Rattle.std.proofs.Common.{◌≡◌, drop, map, ◌++◌}
use Rattle.mojom_ast.specs.declared.definitions.Enumerator.{Enumerator}
use Rattle.mojom_files.specs.Definitions.{enumerators_of}
use Rattle.const_eval.specs.Things.{owners_in}
use Rattle.const_eval.proofs.things.add_owners.Given as goal

abbrev pub invariant-loop-enumerator : goal.invariant-loop-enumerator
invariant-loop-enumerator l =
    l.owners.items ++ map (λ (e : Enumerator). l.number) (drop l._enumerator-index (enumerators_of l.definition.item))
    ≡ l.fn.owners.items ++ owners_in l.number l.definition
