-- Laws of what files are evaluated to.
use Rattle.std.specs.Prelude.{ℕ, ◌≡◌, List, [], slice_get, Some}
use Rattle.mojom_files.specs.declared.named_file.NamedFile.{NamedFile}
use Rattle.mojom_files.specs.declared.refusal.Refusal.{Refusal}
use Rattle.module_resolver.specs.declared.file_names.FileNames.{FileNames}
use Rattle.const_eval.specs.declared.consts.Consts.{Consts}
use Rattle.const_eval.specs.Consts.{AreConsts}
use Rattle.const_eval.specs.Evaluated.{const_refusals, IsEvaluated, IsConstRefused}

-- the constants and enumerators of files mean one thing
abbrev pub HasOneConsts : Type 0
HasOneConsts =
    (files : List NamedFile) (names : List FileNames) (one two : Consts) → AreConsts files names one → AreConsts files names two → one ≡ two

-- one refusal is the first
abbrev pub HasOneRefusal : Type 0
HasOneRefusal =
    (files : List NamedFile) (order : List ℕ) (names : List FileNames) (one two : Refusal) → IsConstRefused files order names one
    → IsConstRefused files order names two → one ≡ two

-- no files are both evaluated and refused
abbrev pub NeverBoth : Type 0
NeverBoth =
    (files : List NamedFile) (order : List ℕ) (names : List FileNames) (consts : Consts) (refusal : Refusal) → IsEvaluated files order names consts
    → ¬ IsConstRefused files order names refusal

-- of files that are evaluated nothing is refused in any file of the order
abbrev pub NothingRefused : Type 0
NothingRefused =
    (files : List NamedFile) (order : List ℕ) (names : List FileNames) (consts : Consts) → IsEvaluated files order names consts → (k number : ℕ)
    → slice_get order k ≡ Some number → const_refusals files names consts number ≡ []
