-- What files are evaluated to, and which refusal is the answer.
use Rattle.std.specs.Prelude.{ℕ, ◌≡◌, List, [], ◌++◌, slice_get, Option, Some, None}
use Rattle.std.specs.Option.{option_map_or}
use Rattle.mojom_files.specs.declared.named_file.NamedFile.{NamedFile}
use Rattle.mojom_files.specs.declared.refusal.Refusal.{Refusal}
use Rattle.mojom_files.specs.Definitions.{definitions_of}
use Rattle.mojom_files.specs.Refusals.{first_refusal}
use Rattle.module_resolver.specs.declared.file_names.FileNames.{FileNames}
use Rattle.name_refusals.specs.NameRefusals.{of_file}
use Rattle.const_eval.specs.declared.consts.Consts.{Consts}
use Rattle.const_eval.specs.declared.file_things.FileThings.{FileThings}
use Rattle.const_eval.specs.Things.{numbered}
use Rattle.const_eval.specs.Consts.{AreConsts}
use Rattle.const_eval.specs.Refused.{Site, refused_definition, refused_enumerators}

-- all that is refused of a file whose things stand here
abbrev pub refused_things : Site → NamedFile → FileThings → List Refusal
refused_things site file things =
    numbered (refused_definition site) things.definitions (definitions_of file.tree)
    ++ refused_enumerators site things.enumerators (definitions_of file.tree)

-- all that is refused of a file
abbrev pub refused_in : Site → NamedFile → List Refusal
refused_in site file = option_map_or (refused_things site file) (slice_get site.consts.files site.file) []

-- all that is refused of the file of this number
abbrev pub const_refusals : List NamedFile → List FileNames → Consts → ℕ → List Refusal
const_refusals files names consts number = of_file (refused_in (record { consts = consts; names = names; file = number })) (slice_get files number)

-- the first refusal of all files: the one that comes first in the first file, in resolved order, that has any
abbrev pub const_refusal : List NamedFile → List ℕ → List FileNames → Consts → Option Refusal
const_refusal files order names consts = first_refusal (const_refusals files names consts) order

-- what the constants and enumerators of files mean, where nothing is refused
pub record IsEvaluated (files : List NamedFile) (order : List ℕ) (names : List FileNames) (consts : Consts) : Type 0 where
  pub are : AreConsts files names consts
  pub none : const_refusal files order names consts ≡ None

-- the first that is refused, by what the constants and enumerators of files mean
pub record IsConstRefused (files : List NamedFile) (order : List ℕ) (names : List FileNames) (refusal : Refusal) : Type 0 where
  pub consts : Consts
  pub are : AreConsts files names consts
  pub first : const_refusal files order names consts ≡ Some refusal
