-- What a name means where it stands (Mojom IDL, "Modules" and "Nested types": names are looked up from the inside out).
use Rattle.std.specs.Prelude.{ℕ, List, [], ◌∷◌, ◌++◌, map, slice_get, Option, None, option_and_then}
use Rattle.std.specs.Option.{option_map, option_or, option_to_list}
use Rattle.mj_base.specs.Names.{within}
use Rattle.mojom_files.specs.Refusals.{first_of}
use Rattle.import_order.specs.Numbers.{number_of}
use Rattle.module_resolver.specs.declared.target.Target.{Target}
use Rattle.module_resolver.specs.declared.target.Target.TheVariants.{Definition, Enumerator}
use Rattle.module_resolver.specs.declared.target.DefinitionSort.{DefinitionSort}
use Rattle.module_resolver.specs.declared.file_names.FileNames.{FileNames}

-- the first definition of this full name in a file
abbrev pub defined_in : List FileNames → List ℕ → ℕ → Option Target
defined_in files full file =
    option_map (λ (n : ℕ). Definition file n) (option_and_then (λ (f : FileNames). number_of full f.definitions) (slice_get files file))

-- the first enumerator of this full name in a file
abbrev pub enumerated_in : List FileNames → List ℕ → ℕ → Option Target
enumerated_in files full file =
    option_map (λ (n : ℕ). Enumerator file n) (option_and_then (λ (f : FileNames). number_of full f.enumerators) (slice_get files file))

-- what has this full name in the files that are seen: a definition, or else an enumerator
abbrev pub meant_by : List FileNames → List ℕ → List ℕ → Option Target
meant_by files seen full = option_or (first_of (defined_in files full) seen) (first_of (enumerated_in files full) seen)

-- the full names that a name may stand for: within the enclosing definition, within the module and each shorter front of it, and alone
abbrev pub candidates : Option (List ℕ) → List (List ℕ) → List ℕ → List (List ℕ)
candidates enclosing fronts name = map (λ (outer : List ℕ). within outer name) (option_to_list enclosing ++ fronts) ++ name ∷ []

-- what a name means in a file: the first of its candidates that anything has
abbrev pub look_up_from : List FileNames → FileNames → Option (List ℕ) → List ℕ → Option Target
look_up_from files here enclosing name = first_of (meant_by files here.seen) (candidates enclosing here.fronts name)

-- what a name means in the file of this number
abbrev pub look_up : List FileNames → ℕ → Option (List ℕ) → List ℕ → Option Target
look_up files file enclosing name =
    option_and_then (λ (here : FileNames). look_up_from files here enclosing name) (slice_get files file)

-- what the definition is that a name means, where it means a definition
abbrev pub sort_of : List FileNames → Target → Option DefinitionSort
sort_of files (Definition file number) = option_and_then (λ (f : FileNames). slice_get f.sorts number) (slice_get files file)
sort_of files (Enumerator file number) = None
