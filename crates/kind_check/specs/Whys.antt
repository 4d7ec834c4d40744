-- Why files have no tables.
use Rattle.std.specs.Prelude.{ℕ, ◌≡◌, List, Some}
use Rattle.mojom_files.specs.declared.named_file.NamedFile.{NamedFile}
use Rattle.module_resolver.specs.declared.file_names.FileNames.{FileNames}
use Rattle.const_eval.specs.declared.consts.Consts.{Consts}
use Rattle.kind_check.specs.declared.error.KindError.{KindError}
use Rattle.kind_check.specs.declared.error.KindError.TheVariants.{Refused, Memory}
use Rattle.kind_refusals.specs.KindRefusals.{kinds_refusal}

-- why files have no tables: their first refusal, or want of memory
abbrev pub IsWhy : List FileNames → Consts → List NamedFile → List ℕ → KindError → Type 0
IsWhy names consts files order (Refused refusal) = kinds_refusal names consts files order ≡ Some refusal
IsWhy names consts files order Memory = Unit {0}
