use Rattle.std.proofs.Common.{◌≡◌, take, map}
use Rattle.module_resolver.specs.NamesOf.{sort_of_item}
use Rattle.module_resolver.proofs.gather.sorts.Given as goal

abbrev pub invariant-loop-view : goal.invariant-loop-view
invariant-loop-view l = l.sorts.items ≡ map (λ d. sort_of_item d.item) (take l.view-index l.views)
