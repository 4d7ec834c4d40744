use Rattle.std.proofs.Common.{◌≡◌, drop, map, ◌++◌}
use Rattle.mojom_ast.specs.declared.definitions.Enumerator.{Enumerator}
use Rattle.const_meanings.specs.declared.origin.Origin.TheVariants.{Next}
use Rattle.const_eval.specs.Origins.{origin_of_value, origin_or, origins_in_order}
use Rattle.const_eval.proofs.origins.Scope.add_in_order.Given as goal

abbrev pub invariant-loop-enumerator : goal.invariant-loop-enumerator
invariant-loop-enumerator l =
    l.origins.items
    ++ map (λ (e : Enumerator). origin_or Next (origin_of_value l.self.things.now l.place.files l.place.file l.place.enclosing) e.value)
    (drop l.enumerator-index l.rest)
    ≡ l.fn.origins.items
    ++ origins_in_order (origin_of_value l.self.things.now l.place.files l.place.file l.place.enclosing) l.enumerators
