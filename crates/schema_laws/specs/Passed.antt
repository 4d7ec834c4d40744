-- Files of which no stage refuses anything.
use Rattle.std.specs.Prelude.{ℕ, ◌≡◌, List, None}
use Rattle.mojom_files.specs.declared.named_file.NamedFile.{NamedFile}
use Rattle.module_resolver.specs.declared.file_names.Names.{Names}
use Rattle.import_order.specs.Order.{IsOrdered}
use Rattle.name_refusals.specs.Resolved.{AreNames}
use Rattle.const_eval.specs.declared.consts.Consts.{Consts}
use Rattle.const_eval.specs.Evaluated.{IsEvaluated}
use Rattle.kind_refusals.specs.KindRefusals.{kinds_refusal}

-- the files have this resolved order and these names, their constants and enumerators mean this, and nothing is refused of their kinds
pub record IsPassed (files : List NamedFile) (order : List ℕ) (names : Names) (consts : Consts) : Type 0 where
  pub ordered : IsOrdered files order
  pub named : AreNames files order names
  pub evaluated : IsEvaluated files order names.files consts
  pub kinds : kinds_refusal names.files consts files order ≡ None
