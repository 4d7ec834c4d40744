-- What a view of a struct keeps is of the row of that struct.
use Rattle.std.proofs.Common.{◌≡◌, ℕ, ◌+◌, ◌<◌, ◌≤◌, zero, suc, List, [], ◌∷◌, length, get_or, take, Option, Some, None, refl, sym, ap, subst, ◌∙◌, arith}
use Rattle.std.specs.Prelude.{slice_get, unwrap_or}
use Rattle.std.specs.Option.{option_map}
use Rattle.std.proofs.lemmas.List.Elements.{All-get_or}
use Rattle.std.proofs.lemmas.Option.{slice_get_within, unwrap_or-slice_get}
use Rattle.mj_base.specs.Bytes.{number32}
use Rattle.mj_schema.specs.declared.rows.FieldRow.{FieldRow}
use Rattle.mj_schema.specs.declared.rows.StructRow.{StructRow}
use Rattle.mj_schema.specs.declared.schema.Schema.{Schema}
use Rattle.wire_model.specs.Marks.{visit, struct_marks}
use Rattle.wire_model.specs.Readable.{IsReadableRow, IsReadableVersion}
use Rattle.wire_model.specs.Rows.{row_for, row_of}
use Rattle.wire_model.specs.Values.{value, struct_value}
use Rattle.wire_laws.proofs.GoodRows.{readable_schema}
use Rattle.schema_rows.proofs.Sound.{row_is_present}
use Rattle.readable_marks.specs.Readable.{AreReadable}
use Rattle.wire_view.specs.Known.{fields_of, known_of}
use Rattle.wire_view.specs.Ons.{on_kind}
use Rattle.wire_view.specs.Parts.{kind_at}
use Rattle.wire_view.specs.Views.{tree_of}
use Rattle.wire_view.specs.declared.on.On.TheVariants as ons
use Rattle.wire_view.specs.declared.view.View.{View}
use Rattle.wire_view.proofs.PartKinds.{struct_kind}
use Rattle.wire_view.proofs.Standing.{struct_readable, struct_tree, row_there}

-- the fields of each version of a struct of a schema lie within its bytes
readable_at : (schema : Schema) (i : ℕ) (row : StructRow) → Some row ≡ slice_get schema.structs i → IsReadableRow row
readable_at schema i row e =
    let is : get_or schema.structs i row ≡ row = sym (unwrap_or-slice_get schema.structs i row) ∙ ap (λ o. unwrap_or o row) (sym e) in
    subst IsReadableRow is (All-get_or IsReadableRow schema.structs i row (slice_get_within schema.structs i row (sym e)) (readable_schema schema).structs)

-- the fields that a version has are the first
pub known_first : (n i : ℕ) (fields : List FieldRow) (f : FieldRow) → i < n → Some f ≡ slice_get fields i → Some f ≡ slice_get (take n fields) i
known_first zero i fields f lt e = absurd (omega (arith, lt))
known_first (suc n) i [] f lt e = absurd cc
known_first (suc n) zero (x ∷ xs) f lt e = e
known_first (suc n) (suc i) (x ∷ xs) f lt e = known_first n i xs f (omega (arith, lt)) e

pub lacked_behind : (n i : ℕ) (fields : List FieldRow) → n ≤ i → None ≡ slice_get (take n fields) i
lacked_behind zero i fields le = refl
lacked_behind (suc n) i [] le = refl
lacked_behind (suc n) zero (x ∷ xs) le = absurd (omega (arith, le))
lacked_behind (suc n) (suc i) (x ∷ xs) le = lacked_behind n i xs (omega (arith, le))

pub none_known : (n i : ℕ) (fields : List FieldRow) → None ≡ slice_get fields i → None ≡ slice_get (take n fields) i
none_known zero i fields e = refl
none_known (suc n) i [] e = refl
none_known (suc n) zero (x ∷ xs) e = absurd cc
none_known (suc n) (suc i) (x ∷ xs) e = none_known n i xs e

module _ (v : View) (number : ℕ) (is : v.on ≡ ons.Struct number) where
  pub struct_row : (row : StructRow) × (Some row ≡ slice_get v.schema.now.structs number)
  struct_row = row_there (value v.left v.schema.now v.bytes.now) v.schema.now v.bytes.now v.at v.on number is v.whole

  -- the row of the struct
  abbrev pub the_row : StructRow
  the_row = struct_row.0

  pub found : Some the_row ≡ slice_get v.schema.now.structs number
  found = struct_row.1

  of_kind : row_of v.schema.now (on_kind v.on) ≡ Some the_row
  of_kind = ap (λ o. row_of v.schema.now (on_kind o)) is ∙ sym found

  -- its fields are those that are kept
  pub fields_are : v.fields.now ≡ the_row.fields
  fields_are = v.kept ∙ ap fields_of of_kind

  -- as many are known as its version has
  pub known_are : v.known ≡ (row_for the_row.versions (number32 v.bytes.now (v.at + 4))).fields
  known_are = v.counted ∙ ap (λ (o : Option StructRow). known_of o (number32 v.bytes.now (v.at + 4))) of_kind

  pub row_stands : AreReadable (length v.bytes.now)
      (struct_marks (visit v.left v.schema.now v.bytes.now) v.schema.now v.bytes.now v.at the_row)
  row_stands =
      struct_readable (length v.bytes.now) (visit v.left v.schema.now v.bytes.now) v.schema.now v.bytes.now v.at v.on v.readable number the_row is found

  pub version_stands : IsReadableVersion the_row (row_for the_row.versions (number32 v.bytes.now (v.at + 4)))
  version_stands = row_is_present the_row (number32 v.bytes.now (v.at + 4)) (readable_at v.schema.now number the_row found)

  pub tree_is : struct_value (value v.left v.schema.now v.bytes.now) v.schema.now v.bytes.now v.at the_row (number32 v.bytes.now (v.at + 4)) ≡ tree_of v
  tree_is = struct_tree (value v.left v.schema.now v.bytes.now) v.schema.now v.bytes.now v.at v.on number the_row is found

  pub kind_is : (i : ℕ) → option_map (λ (field : FieldRow). field.kind) (slice_get the_row.fields i) ≡ kind_at v.schema.now (on_kind v.on) i
  kind_is i = struct_kind v.schema.now v.on i number the_row is found
