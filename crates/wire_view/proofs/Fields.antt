-- Where the parts of objects lie that were checked.
use Rattle.std.proofs.Common.{◌≡◌, ℕ, suc, zero, ◌+◌, ◌-◌, ◌*◌, ◌/◌, ◌%◌, ◌<◌, ◌≤◌, true, false, List, [], ◌∷◌, length, take, drop, map, Option, Some, None, refl, sym, ap, subst, ◌∙◌, arith}
use Rattle.std.specs.Prelude.{All, slice_get}
use Rattle.std.specs.Option.{option_map}
use Rattle.mj_base.specs.Bytes.{number32}
use Rattle.mj_schema.specs.KindTrees.{KindTree}
use Rattle.mj_schema.specs.Parts.{flag_place}
use Rattle.mj_schema.specs.Sizes.{size_of}
use Rattle.mj_schema.specs.declared.rows.FieldRow.{FieldRow}
use Rattle.mj_schema.specs.declared.rows.StructRow.{StructRow}
use Rattle.mj_schema.specs.declared.schema.Schema.{Schema}
use Rattle.wire_model.specs.Absent.{absent_field, absent_values}
use Rattle.wire_model.specs.Marks.{visit, has_value, slot_marks, content_marks, struct_marks}
use Rattle.wire_model.specs.Readable.{EndsWithin}
use Rattle.wire_model.specs.Rows.{row_for}
use Rattle.wire_model.specs.Slots.{element_bytes, element_slots, field_slot}
use Rattle.wire_model.specs.Trees.{Tree, Null, none}
use Rattle.wire_model.specs.Values.{value, value_if, slot_value, slots_value}
use Rattle.wire_laws.proofs.Elements.{content_as_slots}
use Rattle.readable_marks.specs.Readable.{AreReadable}
use Rattle.readable_marks.specs.steps.Rooms.{EndsIn}
use Rattle.readable_marks.proofs.Reading.{ReadableStruct, readable_struct, fits_long}
use Rattle.readable_marks.proofs.Rooms.{within_bytes, element_room}
use Rattle.wire_view.specs.Parts.{nth}
use Rattle.wire_view.specs.steps.Placed.{IsSlot}
use Rattle.wire_view.proofs.Nths.{value_readable, field_within, lacking, nth_here, nth_behind, nth_element, nth_absent, nth_none, field_readable, element_readable}

-- a field that a version has is one of the struct's
taken : (n i : ℕ) (fields : List FieldRow) (f : FieldRow) → Some f ≡ slice_get (take n fields) i → Some f ≡ slice_get fields i
taken zero i fields f e = absurd cc
taken (suc n) i [] f e = absurd cc
taken (suc n) zero (x ∷ xs) f e = e
taken (suc n) (suc i) (x ∷ xs) f e = taken n i xs f e

module _ (left : ℕ) (schema : Schema) (bytes : List ℕ) (at : ℕ) (row : StructRow)
    (readable : AreReadable (length bytes) (struct_marks (visit left schema bytes) schema bytes at row)) where
  pub facts : ReadableStruct (length bytes) (visit left schema bytes) schema bytes at row
  facts = readable_struct (length bytes) (visit left schema bytes) schema bytes at row readable

  abbrev version : ℕ
  version = number32 bytes (at + 4)

  abbrev pub known : List FieldRow
  known = take (row_for row.versions version).fields row.fields

  abbrev rest : List FieldRow
  rest = drop (row_for row.versions version).fields row.fields

  abbrev found : ℕ → Option Tree
  found i = nth (slots_value (value left schema bytes) schema bytes (at + 8) (map field_slot known) (absent_values schema rest)) i

  all_within : All (EndsWithin (row_for row.versions version).bytes) known → All (EndsIn (at + 8) (length bytes)) known
  all_within h =
      within_bytes known (row_for row.versions version).bytes at (number32 bytes at) (length bytes) h
      (fits_long row.versions version (number32 bytes at) facts.fits) facts.ends

  -- a field that the version has
  pub within : (i : ℕ) (f : FieldRow) → All (EndsWithin (row_for row.versions version).bytes) known → Some f ≡ slice_get known i
      → EndsIn (at + 8) (length bytes) f
  within i f h e = field_within (at + 8) (length bytes) known i f e (all_within h)

  pub null_found : (i : ℕ) (f : FieldRow) → All (EndsWithin (row_for row.versions version).bytes) known → Some f ≡ slice_get known i
      → has_value bytes (at + 8) (flag_place f.flag) ≡ false → found i ≡ Some Null
  null_found i f h e hasn't =
      nth_here (value left schema bytes) schema bytes (at + 8) known i f (absent_values schema rest) (within i f h e).bit e
      ∙ ap (λ b. Some (value_if b (slot_value (value left schema bytes) schema bytes (at + 8 + f.offset) f.bit f.kind))) hasn't

  pub slot_found : (i : ℕ) (f : FieldRow) (k : KindTree) → All (EndsWithin (row_for row.versions version).bytes) known
      → Some f ≡ slice_get known i → has_value bytes (at + 8) (flag_place f.flag) ≡ true → k ≡ f.kind
      → IsSlot (length bytes) (visit left schema bytes) (value left schema bytes) schema bytes (found i)
      (option_map (λ (field : FieldRow). field.kind) (slice_get row.fields i)) (at + 8 + f.offset) f.bit k
  slot_found i f k h e has is =
      let w = within i f h e in
      let marks = field_readable (length bytes) (visit left schema bytes) schema bytes (at + 8) known i f (all_within h) e facts.fields in
      let here : found i ≡ Some (slot_value (value left schema bytes) schema bytes (at + 8 + f.offset) f.bit f.kind) =
      nth_here (value left schema bytes) schema bytes (at + 8) known i f (absent_values schema rest) w.bit e
      ∙ ap (λ b. Some (value_if b (slot_value (value left schema bytes) schema bytes (at + 8 + f.offset) f.bit f.kind))) has in
      let there : Some f ≡ slice_get row.fields i = taken (row_for row.versions version).fields i row.fields f e in
      record {
        bit_of_byte = w.bit;
        room = rw is w.room;
        readable = rw is (value_readable (length bytes) (has_value bytes (at + 8) (flag_place f.flag))
            (slot_marks (visit left schema bytes) schema bytes (at + 8 + f.offset) f.kind) has marks);
        is = rw is here;
        kind = ap (option_map (λ (field : FieldRow). field.kind)) (sym there) ∙ ap (λ (l : KindTree). Some l) (sym is);
      }

  -- one that it lacks
  lacked : (i : ℕ) → (row_for row.versions version).fields ≤ length row.fields → None ≡ slice_get known i → found i ≡ nth (absent_values schema rest)
      (i - length known)
  lacked i le e = nth_behind (value left schema bytes) schema bytes (at + 8) known i (absent_values schema rest) e

  pub absent_found : (i : ℕ) (f : FieldRow) → (row_for row.versions version).fields ≤ length row.fields → None ≡ slice_get known i
      → Some f ≡ slice_get row.fields i → found i ≡ Some (absent_field schema f.default f.kind)
  absent_found i f le e there =
      lacked i le e
      ∙ nth_absent schema rest (i - length known) f (there ∙ sym (lacking (row_for row.versions version).fields i row.fields le e))

  pub nothing_found : (i : ℕ) → (row_for row.versions version).fields ≤ length row.fields → None ≡ slice_get known i
      → None ≡ slice_get row.fields i → found i ≡ None
  nothing_found i le e there =
      lacked i le e
      ∙ nth_none schema rest (i - length known) (there ∙ sym (lacking (row_for row.versions version).fields i row.fields le e))

-- an element of an array
pub element_found : (left : ℕ) (schema : Schema) (bytes : List ℕ) (at i place : ℕ) (k : KindTree) → i < number32 bytes (at + 4)
    → place ≡ i * size_of k
    → at + 8 + element_bytes k (number32 bytes (at + 4)) ≤ length bytes
    → AreReadable (length bytes) (content_marks (visit left schema bytes) schema bytes (at + 8) k (number32 bytes (at + 4)))
    → IsSlot (length bytes) (visit left schema bytes) (value left schema bytes) schema bytes
    (nth (slots_value (value left schema bytes) schema bytes (at + 8) (element_slots k 0 (number32 bytes (at + 4))) none) i) (Some k)
    (at + 8 + place / 8) (place % 8) k
element_found left schema bytes at i place k lt place-is within readable =
    let n = number32 bytes (at + 4) in
    let room = element_room k place i n lt place-is in
    let same : 0 + i * size_of k ≡ place = omega (arith, place-is) in
    let slots = subst (AreReadable (length bytes)) (content_as_slots (visit left schema bytes) schema bytes (at + 8) k n) readable in
    record {
      bit_of_byte = omega arith;
      room = omega (arith, room, within);
      readable = subst (λ p. AreReadable (length bytes) (slot_marks (visit left schema bytes) schema bytes (at + 8 + p / 8) k)) same
          (element_readable (length bytes) (visit left schema bytes) schema bytes (at + 8) k 0 n i lt slots);
      is = nth_element (value left schema bytes) schema bytes (at + 8) k 0 n i lt
          ∙ ap (λ p. Some (slot_value (value left schema bytes) schema bytes (at + 8 + p / 8) (p % 8) k)) same;
      kind = refl;
    }
