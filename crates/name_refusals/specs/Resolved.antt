-- What the names of files are, and why they are refused.
use Rattle.std.specs.Prelude.{◌≡◌, ℕ, List, Some, None}
use Rattle.mojom_files.specs.declared.named_file.NamedFile.{NamedFile}
use Rattle.mojom_files.specs.declared.refusal.Refusal.{Refusal}
use Rattle.module_resolver.specs.declared.file_names.Names.{Names}
use Rattle.module_resolver.specs.NamesOf.{names_of}
use Rattle.name_refusals.specs.NameRefusals.{names_refusal}

-- the names of files, none of which is refused
pub record AreNames (files : List NamedFile) (order : List ℕ) (names : Names) : Type 0 where
  pub are : names ≡ names_of files order
  pub none_refused : names_refusal files order ≡ None

-- the first refusal of the names of files
abbrev pub IsRefused : List NamedFile → List ℕ → Refusal → Type 0
IsRefused files order refusal = names_refusal files order ≡ Some refusal
