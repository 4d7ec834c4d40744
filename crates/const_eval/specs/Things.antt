-- The things of files, which are their definitions and their enumerators, by number.
use Rattle.std.specs.Prelude.{ℕ, ◌+◌, nat_lt, if◌then◌else◌, List, [], ◌∷◌, ◌++◌, map, length, slice_get, Option, Some, None, option_and_then}
use Rattle.mojom_ast.specs.declared.definitions.Enumerator.{Enumerator}
use Rattle.mojom_files.specs.declared.named_file.NamedFile.{NamedFile}
use Rattle.mojom_files.specs.Definitions.{Defined, definitions_of, enumerators_of}
use Rattle.module_resolver.specs.declared.target.Target.{Target}
use Rattle.module_resolver.specs.declared.target.Target.TheVariants as targets
use Rattle.const_eval.specs.declared.file_things.FileThings.{FileThings}

-- what is said of each, where the first has this number and each other the next one
abbrev pub numbered : {A B : Type 0} → (ℕ → A → List B) → ℕ → List A → List B
numbered say number [] = []
numbered say number (x ∷ xs) = say number x ++ numbered say (number + 1) xs

-- numbers

-- of each enumerator of a definition, this number
abbrev pub owners_in : ℕ → Defined → List ℕ
owners_in number definition = map (λ (e : Enumerator). number) (enumerators_of definition.item)

-- of each enumerator, the number of its enum
abbrev pub owners : List Defined → List ℕ
owners definitions = numbered owners_in 0 definitions

-- where the things of a file of these definitions stand, the first of them here
abbrev pub things_at : ℕ → List Defined → FileThings
things_at first definitions = record {
  definitions = first;
  enumerators = first + length definitions;
  end = first + length definitions + length (owners definitions);
  owners = owners definitions;
}

-- where the things of files stand, the first of them here
abbrev pub things_from : ℕ → List NamedFile → List FileThings
things_from first [] = []
things_from first (file ∷ files) =
    things_at first (definitions_of file.tree) ∷ things_from (things_at first (definitions_of file.tree)).end files

-- where the things of all files stand
abbrev pub things_of_files : List NamedFile → List FileThings
things_of_files files = things_from 0 files

-- the thing of this number in a row of things; none past its end
abbrev pub thing_within : ℕ → ℕ → ℕ → Option ℕ
thing_within first end number = if nat_lt (first + number) end then Some (first + number) else None

-- the thing that a name means
abbrev pub thing_of : List FileThings → Target → Option ℕ
thing_of files (targets.Definition file number) =
    option_and_then (λ (f : FileThings). thing_within f.definitions f.enumerators number) (slice_get files file)
thing_of files (targets.Enumerator file number) =
    option_and_then (λ (f : FileThings). thing_within f.enumerators f.end number) (slice_get files file)

-- the number of the enum of an enumerator, among the definitions of its file
abbrev pub owner_of : List FileThings → ℕ → ℕ → Option ℕ
owner_of files file enumerator = option_and_then (λ (f : FileThings). slice_get f.owners enumerator) (slice_get files file)
