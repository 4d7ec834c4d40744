use Rattle.std.proofs.Common.{◌≡◌, ℕ, List, ◌∙◌}
use Rattle.module_resolver.specs.declared.target.DefinitionSort.{DefinitionSort}
use Rattle.module_resolver.specs.declared.file_names.FileNames.{FileNames}
use Rattle.module_resolver.proofs.gather.names_in.Goals as goal

abbrev names : List (List ℕ) → List DefinitionSort → List (List ℕ) → List ℕ → List (List ℕ) → FileNames
names definitions sorts enumerators seen fronts = record { definitions = definitions; sorts = sorts; enumerators = enumerators; seen = seen; fronts = fronts }

same : (d e : List (List ℕ)) (s t : List DefinitionSort) (n m : List (List ℕ)) (i j : List ℕ) (f g : List (List ℕ))
    → d ≡ e → s ≡ t → n ≡ m → i ≡ j → f ≡ g → names d s n i f ≡ names e t m j g
same d e s t n m i j f g one two three four five = rw (one, two, three, four, five)

pub returns : goal.returns
returns c = same _ _ _ _ _ _ _ _ _ _ c.in_ok-names.ensures.names c.in_ok-names.ensures.sorts c.in_ok-names.ensures.enumerators
    (c.in_ok-known.ensures ∙ c.in_ok-numbers.ensures) c.in_ok-fronts.ensures
