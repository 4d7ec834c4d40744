-- What a set of names is, as contracts see it.
use Rattle.std.specs.Prelude.{ℕ, Bool, false, List, Option, is_some}
use Rattle.std.specs.Option.{option_map_or}
use Rattle.std.specs.Str.{bytes_eq}
use Rattle.indexmap.specs.IndexMap.{get_by_text}
use Rattle.name_refusals.specs.declared.name_set.NameSet.{NameSet}

-- the set has the name
abbrev pub holds : NameSet → List ℕ → Bool
holds set name = is_some (get_by_text set.names name)

-- there is a name, and it is this one
abbrev pub is_name : Option (List ℕ) → List ℕ → Bool
is_name known name = option_map_or (λ (one : List ℕ). bytes_eq one name) known false
