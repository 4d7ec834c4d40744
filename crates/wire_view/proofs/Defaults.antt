-- Texts that fields have by default are UTF-8.
use Rattle.std.proofs.Common.{◌≡◌, ℕ, zero, suc, true, List, [], ◌∷◌, length, map, Some, subst}
use Rattle.std.specs.Prelude.{slice_get}
use Rattle.std.specs.List.{list_all}
use Rattle.std.specs.Option.{option_map_or}
use Rattle.std.specs.Str.{is_utf8}
use Rattle.std.proofs.lemmas.Bool.{and_parts}
use Rattle.std.proofs.lemmas.Str.{utf8_valid_len-IsUtf8, IsUtf8-from_is_utf8}
use Rattle.mj_schema.specs.Layout.{draft_field, draft_of}
use Rattle.mj_schema.specs.Sound.{has_texts, is_text}
use Rattle.mj_schema.specs.declared.rows.DraftField.{DraftField}
use Rattle.mj_schema.specs.declared.rows.FieldRow.{FieldRow}
use Rattle.mj_schema.specs.declared.rows.StructRow.{StructRow}
use Rattle.mj_schema.specs.declared.schema.Schema.{Schema}
use Rattle.mj_schema.proofs.Clauses.{texts_sound}
use Rattle.wire_model.specs.Texts.{valid_len}

-- all of a text that is UTF-8
pub whole_text : (bytes : List ℕ) → is_utf8 bytes ≡ true → valid_len bytes ≡ length bytes
unfolding valid_len
whole_text bytes e = utf8_valid_len-IsUtf8 bytes (IsUtf8-from_is_utf8 bytes e)

-- the default of one of these fields
pub default_text : (fields : List FieldRow) (i : ℕ) (f : FieldRow)
    → list_all (λ (field : DraftField). option_map_or is_text field.default true) (map draft_field fields) ≡ true
    → Some f ≡ slice_get fields i → option_map_or is_text f.default true ≡ true
default_text [] i f h e = absurd cc
default_text (g ∷ gs) zero f h e =
    let is : g ≡ f = cc in
    let rest = list_all (λ (field : DraftField). option_map_or is_text field.default true) (map draft_field gs) in
    subst (λ (x : FieldRow). option_map_or is_text x.default true ≡ true) is (and_parts (option_map_or is_text g.default true) rest h).0
default_text (g ∷ gs) (suc i) f h e =
    let rest = list_all (λ (field : DraftField). option_map_or is_text field.default true) (map draft_field gs) in
    default_text gs i f (and_parts (option_map_or is_text g.default true) rest h).1 e

struct_texts : (rows : List StructRow) (i : ℕ) (row : StructRow) → list_all has_texts (map draft_of rows) ≡ true → Some row ≡ slice_get rows i
    → has_texts (draft_of row) ≡ true
struct_texts [] i row h e = absurd cc
struct_texts (r ∷ rs) zero row h e =
    let is : r ≡ row = cc in
    subst (λ (x : StructRow). has_texts (draft_of x) ≡ true) is (and_parts (has_texts (draft_of r)) (list_all has_texts (map draft_of rs)) h).0
struct_texts (r ∷ rs) (suc i) row h e =
    struct_texts rs i row (and_parts (has_texts (draft_of r)) (list_all has_texts (map draft_of rs)) h).1 e

-- those of a schema's struct
pub row_texts : (schema : Schema) (i : ℕ) (row : StructRow) → Some row ≡ slice_get schema.structs i → has_texts (draft_of row) ≡ true
row_texts schema i row e = struct_texts schema.structs i row (texts_sound schema) e
