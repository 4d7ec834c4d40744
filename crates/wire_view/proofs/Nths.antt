-- The parts of structs and of arrays by their numbers.
use Rattle.std.proofs.Common.{◌≡◌, ℕ, zero, suc, ◌+◌, ◌-◌, ◌*◌, ◌/◌, ◌%◌, ◌<◌, ◌≤◌, Bool, true, List, [], ◌∷◌, length, get_or, take, drop, map, Some, None, refl, sym, ap, subst, ◌∙◌, arith}
use Rattle.std.specs.Prelude.{All, slice_get, unwrap_or}
use Rattle.std.proofs.lemmas.List.Elements.{All-get_or, All-tail}
use Rattle.std.proofs.lemmas.Option.{slice_get_within, unwrap_or-slice_get}
use Rattle.mj_schema.specs.KindTrees.{KindTree}
use Rattle.mj_schema.specs.Parts.{flag_place}
use Rattle.mj_schema.specs.Sizes.{size_of}
use Rattle.mj_schema.specs.declared.rows.FieldRow.{FieldRow}
use Rattle.mj_schema.specs.declared.schema.Schema.{Schema}
use Rattle.wire_model.specs.Absent.{absent_field, absent_values}
use Rattle.wire_model.specs.Marks.{Mark, Next, has_value, marks_if, slot_marks, slots_marks}
use Rattle.wire_model.specs.Slots.{field_slot, element_slots}
use Rattle.wire_model.specs.Trees.{Trees, none}
use Rattle.wire_model.specs.Values.{Behind, value_if, slot_value, slots_value}
use Rattle.readable_marks.specs.Readable.{AreReadable}
use Rattle.readable_marks.specs.steps.Rooms.{EndsIn, field_marks, field_value}
use Rattle.readable_marks.proofs.Reading.{field_first, readable_left, readable_right}
use Rattle.wire_view.specs.Parts.{nth}

-- what is met where there is a value
pub value_readable : (n : ℕ) (has : Bool) (ms : List Mark) → has ≡ true → AreReadable n (marks_if has ms) → AreReadable n ms
value_readable n has ms e h = rw e at h

-- one of the fields lies within the bytes
pub field_within : (base n : ℕ) (fields : List FieldRow) (i : ℕ) (f : FieldRow) → Some f ≡ slice_get fields i → All (EndsIn base n) fields → EndsIn base n f
field_within base n fields i f e h =
    let is : get_or fields i f ≡ f = sym (unwrap_or-slice_get fields i f) ∙ ap (λ o. unwrap_or o f) (sym e) in
    subst (EndsIn base n) is (All-get_or (EndsIn base n) fields i f (slice_get_within fields i f (sym e)) h)

-- the fields that a version lacks are the last
pub lacking : (n i : ℕ) (fields : List FieldRow) → n ≤ length fields → None ≡ slice_get (take n fields) i
    → slice_get (drop n fields) (i - length (take n fields)) ≡ slice_get fields i
lacking zero i fields le e = let same : i - 0 ≡ i = omega arith in ap (slice_get fields) same
lacking (suc n) i [] le e = absurd (omega arith)
lacking (suc n) zero (x ∷ xs) le e = absurd cc
lacking (suc n) (suc i) (x ∷ xs) le e =
    let same : suc i - suc (length (take n xs)) ≡ i - length (take n xs) = omega arith in
    ap (slice_get (drop n xs)) same ∙ lacking n i xs (omega arith) e

module _ (next : Behind) (schema : Schema) (bytes : List ℕ) (base : ℕ) where
  -- a field that the version has
  pub nth_here : (fields : List FieldRow) (i : ℕ) (f : FieldRow) (rest : Trees) → f.bit < 8 → Some f ≡ slice_get fields i
      → nth (slots_value next schema bytes base (map field_slot fields) rest) i ≡ Some (field_value next schema bytes base f)
  unfolding slots_value
  nth_here [] i f rest bit e = absurd cc
  nth_here (g ∷ gs) zero f rest bit e =
      let is : g ≡ f = cc in
      let offset : (8 * f.offset + f.bit) / 8 ≡ f.offset = omega arith in
      let low : (8 * f.offset + f.bit) % 8 ≡ f.bit = omega arith in
      rw is (ap (λ o. Some (value_if (has_value bytes base (flag_place f.flag))
      (slot_value next schema bytes (base + o) ((8 * f.offset + f.bit) % 8) f.kind))) offset
      ∙ ap (λ b. Some (value_if (has_value bytes base (flag_place f.flag)) (slot_value next schema bytes (base + f.offset) b f.kind))) low)
  nth_here (g ∷ gs) (suc i) f rest bit e = nth_here gs i f rest bit e

  -- one that it lacks
  pub nth_behind : (fields : List FieldRow) (i : ℕ) (rest : Trees) → None ≡ slice_get fields i
      → nth (slots_value next schema bytes base (map field_slot fields) rest) i ≡ nth rest (i - length fields)
  unfolding slots_value
  nth_behind [] i rest e = let same : i ≡ i - 0 = omega arith in ap (nth rest) same
  nth_behind (g ∷ gs) zero rest e = absurd cc
  nth_behind (g ∷ gs) (suc i) rest e =
      let same : i - length gs ≡ suc i - suc (length gs) = omega arith in
      nth_behind gs i rest e ∙ ap (nth rest) same

  -- an element
  pub nth_element : (k : KindTree) (place count i : ℕ) → i < count
      → nth (slots_value next schema bytes base (element_slots k place count) none) i
      ≡ Some (slot_value next schema bytes (base + (place + i * size_of k) / 8) ((place + i * size_of k) % 8) k)
  unfolding slots_value
  nth_element k place zero i lt = absurd (omega arith)
  nth_element k place (suc count) zero lt = let same : place ≡ place + 0 * size_of k = omega arith in rw (← same) refl
  nth_element k place (suc count) (suc i) lt =
      let same : place + size_of k + i * size_of k ≡ place + suc i * size_of k = omega arith in
      rw same at (nth_element k (place + size_of k) count i (omega arith))

  pub nth_past : (k : KindTree) (place count i : ℕ) → count ≤ i → nth (slots_value next schema bytes base (element_slots k place count) none) i ≡ None
  unfolding slots_value
  nth_past k place zero i le = refl
  nth_past k place (suc count) zero le = absurd (omega arith)
  nth_past k place (suc count) (suc i) le = nth_past k (place + size_of k) count i (omega arith)

-- what the fields read as that a version lacks
pub nth_absent : (schema : Schema) (fields : List FieldRow) (i : ℕ) (f : FieldRow) → Some f ≡ slice_get fields i
    → nth (absent_values schema fields) i ≡ Some (absent_field schema f.default f.kind)
nth_absent schema [] i f e = absurd cc
nth_absent schema (g ∷ gs) zero f e = let is : g ≡ f = cc in rw is refl
nth_absent schema (g ∷ gs) (suc i) f e = nth_absent schema gs i f e

pub nth_none : (schema : Schema) (fields : List FieldRow) (i : ℕ) → None ≡ slice_get fields i → nth (absent_values schema fields) i ≡ None
nth_none schema [] i e = refl
nth_none schema (g ∷ gs) zero e = absurd cc
nth_none schema (g ∷ gs) (suc i) e = nth_none schema gs i e

module _ (n : ℕ) (next : Next) (schema : Schema) (bytes : List ℕ) (base : ℕ) where
  -- the marks of a field
  pub field_readable : (fields : List FieldRow) (i : ℕ) (f : FieldRow) → All (EndsIn base n) fields → Some f ≡ slice_get fields i
      → AreReadable n (slots_marks next schema bytes base (map field_slot fields)) → AreReadable n (field_marks next schema bytes base f)
  field_readable [] i f within e h = absurd cc
  field_readable (g ∷ gs) zero f within e h =
      let is : g ≡ f = cc in
      let bit = (field_within base n (g ∷ gs) 0 f e within).bit in
      let bit' : g.bit < 8 = rw is bit in
      let parts = subst (AreReadable n) (field_first next schema bytes base g gs bit') h in
      subst (λ (x : FieldRow). AreReadable n (field_marks next schema bytes base x)) is
      (readable_left n (field_marks next schema bytes base g) (slots_marks next schema bytes base (map field_slot gs)) parts)
  field_readable (g ∷ gs) (suc i) f within e h =
      let bit = (field_within base n (g ∷ gs) 0 g refl within).bit in
      let parts = subst (AreReadable n) (field_first next schema bytes base g gs bit) h in
      field_readable gs i f (rest_within g gs within) e
      (readable_right n (field_marks next schema bytes base g) (slots_marks next schema bytes base (map field_slot gs)) parts)
    where
      rest_within : (g : FieldRow) (gs : List FieldRow) → All (EndsIn base n) (g ∷ gs) → All (EndsIn base n) gs
      rest_within g gs h = All-tail (EndsIn base n) g gs h

  -- the marks of an element
  pub element_readable : (k : KindTree) (place count i : ℕ) → i < count
      → AreReadable n (slots_marks next schema bytes base (element_slots k place count))
      → AreReadable n (slot_marks next schema bytes (base + (place + i * size_of k) / 8) k)
  unfolding slots_marks
  element_readable k place zero i lt h = absurd (omega arith)
  element_readable k place (suc count) zero lt h =
      let same : place ≡ place + 0 * size_of k = omega arith in
      subst (λ p. AreReadable n (slot_marks next schema bytes (base + p / 8) k)) same
      (readable_left n (slot_marks next schema bytes (base + place / 8) k) (slots_marks next schema bytes base (element_slots k (place + size_of k) count)) h)
  element_readable k place (suc count) (suc i) lt h =
      let same : place + size_of k + i * size_of k ≡ place + suc i * size_of k = omega arith in
      subst (λ p. AreReadable n (slot_marks next schema bytes (base + p / 8) k)) same
      (element_readable k (place + size_of k) count i (omega arith)
      (readable_right n (slot_marks next schema bytes (base + place / 8) k) (slots_marks next schema bytes base (element_slots k (place + size_of k) count)) h))
