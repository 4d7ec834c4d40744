-- The resolved order of files, in which each comes after those that it imports; and why files have none (Mojom IDL, "Imports").
use Rattle.std.specs.Prelude.{ℕ, ◌≡◌, ◌==◌, ◌⊎◌, Bool, false, List, [], ◌++◌, map, take, drop, length, get_or, slice_get, find, Option, Some, None, is_none, option_and_then}
use Rattle.std.specs.List.{flat_map, list_any, range_with_len}
use Rattle.std.specs.Option.{option_map, option_map_or, option_to_list}
use Rattle.std.specs.Str.{bytes_eq}
use Rattle.mojom_ast.specs.declared.file.Import.{Import}
use Rattle.mojom_files.specs.declared.named_file.NamedFile.{NamedFile}
use Rattle.mojom_files.specs.Causes.{NoFile, CircularImport, DuplicateName}
use Rattle.mojom_files.specs.declared.refusal.Refusal.{Refusal}
use Rattle.mojom_files.specs.Refusals.{where_true, first_refusal}
use Rattle.import_order.specs.Numbers.{number_of}
use Rattle.import_order.specs.Imports.{IsTakenWhole, IsOrder, IsCircle, import_left}

-- the names of files
abbrev pub file_names : List NamedFile → List (List ℕ)
file_names files = map (λ (f : NamedFile). f.name) files

-- the number of the file that an import names, among files of these names
abbrev pub imported : List (List ℕ) → Import → Option ℕ
imported names one = number_of one.path.bytes names

-- the numbers of the files that a file imports, in the order of its imports
abbrev pub imports_of : List (List ℕ) → NamedFile → List ℕ
imports_of names file = flat_map (λ (one : Import). option_to_list (imported names one)) file.tree.imports

-- the same for each file
abbrev pub all_imports : List NamedFile → List (List ℕ)
all_imports files = map (imports_of (file_names files)) files

-- the refusal of an import of this file, where it names no file
abbrev pub missing_import : ℕ → Import → Refusal
missing_import number one = record { file = number; at = one.path.span.start; cause = NoFile one.path.bytes }

-- an import that names no file
abbrev pub missing : List (List ℕ) → ℕ → Import → List Refusal
missing names number one = where_true (is_none (imported names one)) (missing_import number one)

-- a file of this name was given before the one of this number
abbrev pub is_given_before : List (List ℕ) → ℕ → List ℕ → Bool
is_given_before names number name = list_any (bytes_eq name) (take number names)

-- what is refused of a file before any order: that it was given before, and imports that name no file
abbrev pub given_refusals : List (List ℕ) → ℕ → NamedFile → List Refusal
given_refusals names number file =
    where_true (is_given_before names number file.name) (record { file = number; at = 0; cause = DuplicateName file.name })
    ++ flat_map (missing names number) file.tree.imports

-- the same by the number of the file
abbrev pub given_refusals_at : List NamedFile → ℕ → List Refusal
given_refusals_at files number = option_map_or (given_refusals (file_names files) number) (slice_get files number) []

-- the first refusal of all files in the order in which they were given
abbrev pub given_refusal : List NamedFile → Option Refusal
given_refusal files = first_refusal (given_refusals_at files) (range_with_len 0 (length files))

-- the import names the file of this number
abbrev pub names_file : List (List ℕ) → ℕ → Import → Bool
names_file names number one = option_map_or (λ (other : ℕ). other == number) (imported names one) false

-- where a file first imports another
abbrev pub import_place : List (List ℕ) → ℕ → NamedFile → Option ℕ
import_place names other file = option_map (λ (one : Import). one.path.span.start) (find (names_file names other) file.tree.imports)

-- the names of files of these numbers
abbrev pub names_at : List (List ℕ) → List ℕ → List (List ℕ)
names_at names numbers = map (λ (n : ℕ). get_or names n []) numbers

-- the import of a file that leads on, its first whose file isn't taken, stands at this place
pub record LeadsOnAt (files : List NamedFile) (taken : List ℕ) (file at : ℕ) : Type 0 where
  pub next : ℕ
  pub leads : import_left (all_imports files) taken file ≡ Some next
  pub place : option_and_then (import_place (file_names files) next) (slice_get files file) ≡ Some at

-- files are left, none of which can be taken: the refusal has the names of the circle, and stands in its first file, at the import that
-- leads on
pub record IsCircular (files : List NamedFile) (refusal : Refusal) : Type 0 where
  pub taken : List ℕ
  pub whole : IsTakenWhole (all_imports files) taken
  pub path : List ℕ
  pub first : ℕ
  pub circle : IsCircle (all_imports files) taken path first
  pub file : refusal.file ≡ get_or path first 0
  pub at : LeadsOnAt files taken refusal.file refusal.at
  pub cause : refusal.cause ≡ CircularImport (names_at (file_names files) (drop first path))

-- files that have an order, and none of which is refused before
pub record IsOrdered (files : List NamedFile) (order : List ℕ) : Type 0 where
  pub none : given_refusal files ≡ None
  pub is : IsOrder (all_imports files) order

-- why files have no order: the first refusal of what was given, or a circle where there is none
abbrev pub IsDisordered : List NamedFile → Refusal → Type 0
IsDisordered files refusal = (given_refusal files ≡ Some refusal) ⊎ ((given_refusal files ≡ None) × IsCircular files refusal)

-- files have just one order or just one refusal, and never both
pub record OneOrder (files : List NamedFile) : Type 0 where
  pub one_order : (order other : List ℕ) → IsOrdered files order → IsOrdered files other → order ≡ other
  pub one_refusal : (refusal other : Refusal) → IsDisordered files refusal → IsDisordered files other → refusal ≡ other
  pub never_both : (order : List ℕ) (refusal : Refusal) → IsOrdered files order → IsDisordered files refusal → ⊥
