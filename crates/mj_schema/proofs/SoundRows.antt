-- Worked rows that a schema may have, beside such as files are refused for.
use Rattle.std.proofs.Common.{◌≡◌, ℕ, true, false, List, [], ◌∷◌, codes, refl}
use Rattle.std.specs.Prelude.{ℤ, pos, negsuc, Option, Some, None}
use Rattle.mj_schema.specs.KindTrees as kinds
use Rattle.mj_schema.specs.KindTrees.{KindTree}
use Rattle.mj_schema.specs.declared.kind.Width.TheVariants.{Bits8}
use Rattle.mj_schema.specs.declared.rows.DefinitionRow.{DefinitionRow}
use Rattle.mj_schema.specs.declared.rows.DraftField.{DraftField}
use Rattle.mj_schema.specs.declared.rows.DraftStruct.{DraftStruct}
use Rattle.mj_schema.specs.declared.rows.EnumRow.{EnumRow}
use Rattle.mj_schema.specs.declared.rows.Literal.{Literal}
use Rattle.mj_schema.specs.declared.rows.Literal.TheVariants as literals
use Rattle.mj_schema.specs.declared.rows.RowSort.TheVariants as sorts
use Rattle.mj_schema.specs.Sound.{is_of_kind, is_default_of, has_default, is_sound_field, is_sound_struct, is_sound_enum, is_listed}

abbrev int8 : KindTree
int8 = kinds.IntKind Bits8 true false

-- an enum of one member of this number
abbrev one_member : ℤ → EnumRow
one_member number = record {
  name = codes "e";
  extensible = true;
  members = record { name = codes "A"; number = number } ∷ [];
  default = None;
  stable = false;
}

-- a field since a version
abbrev since : ℕ → KindTree → Option Literal → DraftField
since version kind default = record { name = codes "a"; kind = kind; min_version = version; default = default }

-- a struct of fields
abbrev of_fields : List DraftField → DraftStruct
of_fields fields = record { name = codes "s"; fields = fields; stable = false }

-- the struct of this number
abbrev struct_at : ℕ → DefinitionRow
struct_at number = record { sort = sorts.Struct; number = number }

an_int8 : (is_of_kind int8 (literals.Whole (pos 127)) ≡ true) × (is_of_kind int8 (literals.Whole (negsuc 127)) ≡ true)
an_int8 = (refl, refl)

no_int8 : (is_of_kind int8 (literals.Whole (pos 128)) ≡ false) × (is_of_kind int8 (literals.Bool true) ≡ false)
no_int8 = (refl, refl)

a_member : is_default_of (one_member (pos 3) ∷ []) (kinds.EnumKind 0 false) (literals.Whole (pos 3)) ≡ true
a_member = refl

no_member : is_default_of (one_member (pos 3) ∷ []) (kinds.EnumKind 0 false) (literals.Whole (pos 2)) ≡ false
no_member = refl

a_default_of_a_bool_that_may_be_null : has_default [] (kinds.BoolKind true) (Some (literals.Bool true)) ≡ false
a_default_of_a_bool_that_may_be_null = refl

a_later_bool : is_sound_field [] (since 1 (kinds.BoolKind false) None) ≡ true
a_later_bool = refl

a_later_struct : (is_sound_field [] (since 1 (kinds.StructKind 0 true) None) ≡ true) × (is_sound_field [] (since 1 (kinds.StructKind 0 false) None) ≡ false)
a_later_struct = (refl, refl)

one_name_of_two_fields : is_sound_struct [] (of_fields (since 0 int8 None ∷ since 0 int8 None ∷ [])) ≡ false
one_name_of_two_fields = refl

a_number_of_more_than_32_bits : (is_sound_enum (one_member (pos 2147483647)) ≡ true) × (is_sound_enum (one_member (pos 2147483648)) ≡ false)
a_number_of_more_than_32_bits = (refl, refl)

two_structs : (is_listed (struct_at 0 ∷ struct_at 1 ∷ []) sorts.Struct 2 ≡ true) × (is_listed (struct_at 0 ∷ []) sorts.Struct 2 ≡ false)
two_structs = (refl, refl)

one_struct_twice : is_listed (struct_at 0 ∷ struct_at 0 ∷ []) sorts.Struct 2 ≡ false
one_struct_twice = refl
