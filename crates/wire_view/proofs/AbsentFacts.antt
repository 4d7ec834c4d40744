-- A field that a version lacks holds no object.
use Rattle.std.proofs.Common.{◌≡◌, Bool, true, false, Option, Some, None, refl}
use Rattle.mj_schema.specs.KindTrees as kinds
use Rattle.mj_schema.specs.KindTrees.{KindTree}
use Rattle.mj_schema.specs.declared.rows.Literal.{Literal}
use Rattle.mj_schema.specs.declared.rows.Literal.TheVariants as literals
use Rattle.mj_schema.specs.declared.schema.Schema.{Schema}
use Rattle.wire_model.specs.Absent.{absent_field, absent_kind, null_or}
use Rattle.wire_model.specs.Trees.{Tree}
use Rattle.wire_view.specs.Parts.{held}

or_held : (x : Bool) (t : Tree) → None ≡ held t → None ≡ held (null_or x t)
or_held true t e = refl
or_held false t e = e

kind_held : (schema : Schema) (k : KindTree) → None ≡ held (absent_kind schema k)
kind_held schema (kinds.BoolKind x) = or_held x _ refl
kind_held schema (kinds.IntKind w s x) = or_held x _ refl
kind_held schema (kinds.EnumKind n x) = or_held x _ refl
kind_held schema k = refl

pub absent_held : (schema : Schema) (default : Option Literal) (k : KindTree) → None ≡ held (absent_field schema default k)
absent_held schema None k = kind_held schema k
absent_held schema (Some (literals.Bool b)) k = refl
absent_held schema (Some (literals.Whole n)) k = refl
absent_held schema (Some (literals.Text t)) k = refl
