use Rattle.std.proofs.Common.{map, ◌∙◌, ap}
use Rattle.std.specs.List.{flat_map}
use Rattle.mojom_files.specs.Definitions.{Defined, enumerator_names}
use Rattle.module_resolver.specs.NamesOf.{sort_of_item}
use Rattle.module_resolver.proofs.gather.defined.Goals as goal

pub returns-clause-names : goal.returns-clause-names
returns-clause-names c = c.in_ok-full_names.ensures ∙ ap (map (λ (d : Defined). d.full)) (c.as_slice-views.ensures.value ∙ c.in_ok-found.ensures)

pub returns-clause-sorts : goal.returns-clause-sorts
returns-clause-sorts c = c.in_ok-sorts.ensures ∙ ap (map (λ (d : Defined). sort_of_item d.item)) (c.as_slice-views.ensures.value ∙ c.in_ok-found.ensures)

pub returns-clause-enumerators : goal.returns-clause-enumerators
returns-clause-enumerators c = c.in_ok-enumerator_names.ensures ∙ ap (flat_map enumerator_names) (c.as_slice-views.ensures.value ∙ c.in_ok-found.ensures)
