-- What the stages refuse of files: each stage comes where none before it refuses anything.
use Rattle.std.specs.Prelude.{ℕ, ◌≡◌, ◌⊎◌, List, Some}
use Rattle.mojom_files.specs.declared.named_file.NamedFile.{NamedFile}
use Rattle.mojom_files.specs.declared.refusal.Refusal.{Refusal}
use Rattle.module_resolver.specs.declared.file_names.Names.{Names}
use Rattle.import_order.specs.Order.{IsOrdered, IsDisordered}
use Rattle.name_refusals.specs.Resolved.{AreNames, IsRefused}
use Rattle.const_eval.specs.declared.consts.Consts.{Consts}
use Rattle.const_eval.specs.Evaluated.{IsEvaluated, IsConstRefused}
use Rattle.kind_refusals.specs.KindRefusals.{kinds_refusal}
use Rattle.schema_laws.specs.Passed.{IsPassed}

-- the first refusal of names
pub record IsNamesRefusal (files : List NamedFile) (refusal : Refusal) : Type 0 where
  pub order : List ℕ
  pub ordered : IsOrdered files order
  pub refused : IsRefused files order refusal

-- the first refusal of constants and numbers
pub record IsConstsRefusal (files : List NamedFile) (refusal : Refusal) : Type 0 where
  pub order : List ℕ
  pub names : Names
  pub ordered : IsOrdered files order
  pub named : AreNames files order names
  pub refused : IsConstRefused files order names.files refusal

-- the first refusal of kinds, ordinals and versions
pub record IsKindsRefusal (files : List NamedFile) (refusal : Refusal) : Type 0 where
  pub order : List ℕ
  pub names : Names
  pub consts : Consts
  pub ordered : IsOrdered files order
  pub named : AreNames files order names
  pub evaluated : IsEvaluated files order names.files consts
  pub refused : kinds_refusal names.files consts files order ≡ Some refusal

-- what the first stage that refuses anything refuses: order, names, constants, kinds
abbrev pub IsStageRefusal : List NamedFile → Refusal → Type 0
IsStageRefusal files refusal =
    IsDisordered files refusal ⊎ (IsNamesRefusal files refusal ⊎ (IsConstsRefusal files refusal ⊎ IsKindsRefusal files refusal))

-- no stage refuses anything
pub record Passes (files : List NamedFile) : Type 0 where
  pub order : List ℕ
  pub names : Names
  pub consts : Consts
  pub passed : IsPassed files order names consts

-- files pass all stages, or one stage refuses them
abbrev pub HasAnswer : List NamedFile → Type 0
HasAnswer files = Passes files ⊎ ((refusal : Refusal) × IsStageRefusal files refusal)
