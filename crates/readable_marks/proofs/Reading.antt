-- What readable marks say of their parts.
use Rattle.std.proofs.Common.{◌≡◌, ℕ, suc, ◌+◌, ◌-◌, ◌*◌, ◌/◌, ◌^◌, ◌<◌, ◌≤◌, Bool, true, false, Option, None, List, [], ◌∷◌, ◌++◌, length, get_or, drop, map, add-one, drop-cons, refl, sym, ap, subst, ◌∙◌, arith}
use Rattle.std.proofs.lemmas.Bool.Decides.{nat_tests}
use Rattle.std.specs.Prelude.{◌==◌, ◌&&◌, slice_get}
use Rattle.mj_base.specs.Bytes.{number32, number64}
use Rattle.mj_schema.specs.Versions.{bytes_of}
use Rattle.mj_schema.specs.KindTrees as kinds
use Rattle.mj_schema.specs.KindTrees.{KindTree}
use Rattle.mj_schema.specs.Sizes.{size_of}
use Rattle.mj_schema.specs.declared.rows.FieldRow.{FieldRow}
use Rattle.mj_schema.specs.declared.rows.StructRow.{StructRow}
use Rattle.mj_schema.specs.declared.rows.VersionRow.{VersionRow}
use Rattle.mj_schema.specs.declared.schema.Schema.{Schema}
use Rattle.wire_model.specs.Trees.{Trees, Items, none}
use Rattle.wire_model.specs.Values.{Behind, value, pointer_value, object_value, slot_value, slots_value}
use Rattle.wire_model.specs.Marks.{visit, object_marks, Mark, Test, Object, Handle, Id, Next, has_value, marks_if, union_marks, found_union_marks, slot_marks, slots_marks, content_marks, array_marks, map_marks, struct_marks, found_struct_marks, pointer_marks, slots_up_to, row_fits}
use Rattle.wire_model.specs.Rows.{row_for}
use Rattle.wire_model.specs.Slots.{element_bytes, element_slots, field_slot}
use Rattle.wire_model.specs.Tight.{MAX_DEPTH, marks_of}
use Rattle.wire_model.specs.Stands.{IsFine, IsOrderly, objects}
use Rattle.readable_marks.specs.Readable.{AreReadable}
use Rattle.readable_marks.specs.steps.Rooms.{field_marks}
use Rattle.mj_schema.specs.Parts.{flag_place}

pub readable_left : (n : ℕ) (xs ys : List Mark) → AreReadable n (xs ++ ys) → AreReadable n xs
readable_left n [] ys h = tt
readable_left n (Test b k at ∷ xs) ys h = (h.0, readable_left n xs ys h.1)
readable_left n (Object s z e f k ∷ xs) ys h = (h.0, (h.1.0, readable_left n xs ys h.1.1))
readable_left n (Handle i at ∷ xs) ys h = readable_left n xs ys h
readable_left n (Id i at ∷ xs) ys h = readable_left n xs ys h

pub readable_right : (n : ℕ) (xs ys : List Mark) → AreReadable n (xs ++ ys) → AreReadable n ys
readable_right n [] ys h = h
readable_right n (Test b k at ∷ xs) ys h = readable_right n xs ys h.1
readable_right n (Object s z e f k ∷ xs) ys h = readable_right n xs ys h.1.1
readable_right n (Handle i at ∷ xs) ys h = readable_right n xs ys h
readable_right n (Id i at ∷ xs) ys h = readable_right n xs ys h

-- what was checked is readable
pub settled_readable : (from end n : ℕ) (ms : List Mark) → end ≤ n → IsFine ms → IsOrderly from end (objects ms) → AreReadable n ms
settled_readable from end n [] le fine orderly = tt
settled_readable from end n (Test b k at ∷ ms) le fine orderly = (fine.0, settled_readable from end n ms le fine.1 orderly)
settled_readable from end n (Object s z e f k ∷ ms) le fine orderly =
    (fine.0, (omega (arith, orderly.1.1.0), settled_readable (s + z) end n ms le fine.1.1 orderly.1.1.1))
settled_readable from end n (Handle i at ∷ ms) le fine orderly = settled_readable from end n ms le fine orderly
settled_readable from end n (Id i at ∷ ms) le fine orderly = settled_readable from end n ms le fine orderly

-- an array that was checked
pub record ReadableArray (n : ℕ) (next : Next) (schema : Schema) (bytes : List ℕ) (p : ℕ) (of : KindTree) : Type 0 where
  pub within : p + 8 + element_bytes of (number32 bytes (p + 4)) ≤ n
  pub content : AreReadable n (content_marks next schema bytes (p + 8) of (number32 bytes (p + 4)))

pub readable_array : (n : ℕ) (next : Next) (schema : Schema) (bytes : List ℕ) (p : ℕ) (of : KindTree) (count : Option ℕ)
    → AreReadable n (array_marks next schema bytes p of count) → ReadableArray n next schema bytes p of
unfolding array_marks
readable_array n next schema bytes p of count h = record { within = omega (arith, h.0, h.1.0); content = h.1.1 }

-- a map that was checked
pub record ReadableMap (n : ℕ) (next : Next) (bytes : List ℕ) (p : ℕ) (key value : KindTree) : Type 0 where
  pub within : p + 24 ≤ n
  pub keys : AreReadable n (pointer_marks next bytes (p + 8) (kinds.ArrayKind key None false) false)
  pub values : AreReadable n (pointer_marks next bytes (p + 16) (kinds.ArrayKind value None false) false)

map_size : (a b : ℕ) → (a == 24) && (b == 0) ≡ true → a ≡ 24
map_size a b e = grind (arith, nat_tests)

pub readable_map : (n : ℕ) (next : Next) (bytes : List ℕ) (p : ℕ) (key value : KindTree)
    → AreReadable n (map_marks next bytes p key value) → ReadableMap n next bytes p key value
unfolding map_marks
readable_map n next bytes p key value h =
    let size = map_size (number32 bytes p) (number32 bytes (p + 4)) h.1.1.0 in
    let lists = h.1.1.1 in
    let ks = pointer_marks next bytes (p + 8) (kinds.ArrayKind key None false) false in
    let vs = pointer_marks next bytes (p + 16) (kinds.ArrayKind value None false) false in
    record {
      within = omega (arith, h.1.0, size);
      keys = readable_left n ks _ lists;
      values = readable_left n vs _ (readable_right n ks _ lists);
    }

-- a struct that was checked
pub record ReadableStruct (n : ℕ) (next : Next) (schema : Schema) (bytes : List ℕ) (p : ℕ) (row : StructRow) : Type 0 where
  pub header : 8 ≤ number32 bytes p
  pub ends : p + number32 bytes p ≤ n
  pub fits : row_fits row.versions (number32 bytes (p + 4)) (number32 bytes p) ≡ true
  pub fields : AreReadable n (slots_marks next schema bytes (p + 8) (slots_up_to row (number32 bytes (p + 4))))

pub readable_struct : (n : ℕ) (next : Next) (schema : Schema) (bytes : List ℕ) (p : ℕ) (row : StructRow)
    → AreReadable n (struct_marks next schema bytes p row) → ReadableStruct n next schema bytes p row
unfolding struct_marks
readable_struct n next schema bytes p row h = record { header = omega (arith, h.0); ends = h.1.0; fits = h.1.1.0; fields = h.1.1.1 }

-- a version's bytes are no more than a struct's that fits it
pub fits_long : (rows : List VersionRow) (v size : ℕ) → row_fits rows v size ≡ true → (row_for rows v).bytes ≤ size
unfolding row_fits
fits_long rows v size e = grind (arith, nat_tests)

module _ (next : Next) (schema : Schema) (bytes : List ℕ) (base : ℕ) where
  -- the first of some fields, and those behind it
  pub field_first : (f : FieldRow) (fs : List FieldRow) → f.bit < 8
      → slots_marks next schema bytes base (map field_slot (f ∷ fs))
      ≡ field_marks next schema bytes base f ++ slots_marks next schema bytes base (map field_slot fs)
  unfolding slots_marks
  field_first f fs lt =
      let e : (8 * f.offset + f.bit) / 8 ≡ f.offset = omega arith in
      ap (λ o. marks_if (has_value bytes base (flag_place f.flag)) (slot_marks next schema bytes (base + o) f.kind)
      ++ slots_marks next schema bytes base (map field_slot fs)) e

module _ (n : ℕ) (next : Next) (schema : Schema) (bytes : List ℕ) (base : ℕ) where
  -- a field and those behind it
  pub readable_field : (fields : List FieldRow) (i : ℕ) (f : FieldRow) → f.bit < 8 → i < length fields → f ≡ get_or fields i f
      → AreReadable n (slots_marks next schema bytes base (map field_slot (drop i fields)))
      → AreReadable n (field_marks next schema bytes base f)
      × AreReadable n (slots_marks next schema bytes base (map field_slot (drop (i + 1) fields)))
  readable_field fields i f bit lt is h =
      let e : drop i fields ≡ f ∷ drop (i + 1) fields = rw (add-one, drop-cons fields i f) (ap (λ g. g ∷ drop (suc i) fields) (sym is)) in
      let same = ap (λ fs. slots_marks next schema bytes base (map field_slot fs)) e ∙ field_first next schema bytes base f (drop (i + 1) fields) bit in
      let parts = subst (AreReadable n) same h in
      let here = field_marks next schema bytes base f in
      let rest = slots_marks next schema bytes base (map field_slot (drop (i + 1) fields)) in
      (readable_left n here rest parts, readable_right n here rest parts)

  -- an element and those behind it
  pub readable_element : (k : KindTree) (place count i : ℕ) → i < count
      → AreReadable n (slots_marks next schema bytes base (element_slots k place (count - i)))
      → AreReadable n (slot_marks next schema bytes (base + place / 8) k)
      × AreReadable n (slots_marks next schema bytes base (element_slots k (place + size_of k) (count - (i + 1))))
  unfolding slots_marks
  readable_element k place count i lt h =
      let e : count - i ≡ suc (count - (i + 1)) = omega arith in
      let here = slot_marks next schema bytes (base + place / 8) k in
      let rest = slots_marks next schema bytes base (element_slots k (place + size_of k) (count - (i + 1))) in
      let parts : AreReadable n (here ++ rest) =
      subst (λ m. AreReadable n (slots_marks next schema bytes base (element_slots k place m))) e h in
      (readable_left n here rest parts, readable_right n here rest parts)

-- what a pointer leads to that isn't null, where a level is left
pub readable_behind : (n left l : ℕ) (schema : Schema) (bytes : List ℕ) (p : ℕ) (k : KindTree) (nullable : Bool) → left ≡ suc l
    → (number64 bytes p == 0) ≡ false → AreReadable n (pointer_marks (visit left schema bytes) bytes p k nullable)
    → (number64 bytes p < 2 ^ 32) × AreReadable n (object_marks (visit l schema bytes) schema bytes (p + number64 bytes p) k)
unfolding pointer_marks visit
readable_behind n left l schema bytes p k nullable e some h =
    let marks = λ (m : ℕ). AreReadable n (pointer_marks (visit m schema bytes) bytes p k nullable) in
    let parts = rw some at (subst marks e h) in
    (grind (arith, nat_tests, parts.0), parts.1)

pub value_behind : (left l : ℕ) (schema : Schema) (bytes : List ℕ) (p : ℕ) (k : KindTree) → left ≡ suc l → (number64 bytes p == 0) ≡ false
    → pointer_value (value left schema bytes) bytes p k ≡ object_value (value l schema bytes) schema bytes (p + number64 bytes p) k
unfolding pointer_value value
value_behind left l schema bytes p k e some = rw (e, some) refl

pub not_zero : (a b : ℕ) → a ≡ b → (a ≡ 0 → ⊥) → (b == 0) ≡ false
not_zero a b e h = grind (arith, nat_tests)

pub one_less : (n : ℕ) → (n ≡ 0 → ⊥) → n ≡ suc (n - 1)
one_less n h = omega arith

module _ (n : ℕ) (next : Next) (schema : Schema) (bytes : List ℕ) (p : ℕ) where
  -- objects of each kind
  pub object_array : (k of : KindTree) (count : Option ℕ) (nullable : Bool) → k ≡ kinds.ArrayKind of count nullable
      → AreReadable n (object_marks next schema bytes p k) → ReadableArray n next schema bytes p of
  unfolding object_marks
  object_array k of count nullable e h = readable_array n next schema bytes p of count (subst (λ x. AreReadable n (object_marks next schema bytes p x)) e h)

  pub object_map : (k key value' : KindTree) (nullable : Bool) → k ≡ kinds.MapKind key value' nullable
      → AreReadable n (object_marks next schema bytes p k) → ReadableMap n next bytes p key value'
  unfolding object_marks
  object_map k key value' nullable e h = readable_map n next bytes p key value' (subst (λ x. AreReadable n (object_marks next schema bytes p x)) e h)

  pub object_union : (k : KindTree) (number : ℕ) (nullable : Bool) → k ≡ kinds.UnionKind number nullable
      → AreReadable n (object_marks next schema bytes p k) → (p + bytes_of k ≤ n) × AreReadable n (slot_marks next schema bytes p k)
  unfolding object_marks slot_marks
  object_union k number nullable e h =
      let marks = subst (λ x. AreReadable n (object_marks next schema bytes p x)) e h in
      subst (λ x. (p + bytes_of x ≤ n) × AreReadable n (slot_marks next schema bytes p x)) (sym e) (omega (arith, marks.1.0), marks.1.1)

  -- a union that isn't null
  pub union_readable : (k : KindTree) (number : ℕ) (nullable : Bool) → k ≡ kinds.UnionKind number nullable → (number32 bytes p ≡ 0 → ⊥)
      → AreReadable n (slot_marks next schema bytes p k) → AreReadable n (found_union_marks next schema bytes p (slice_get schema.unions number))
  unfolding slot_marks union_marks
  union_readable k number nullable e some h =
      let marks = subst (λ x. AreReadable n (slot_marks next schema bytes p x)) e h in
      rw (not_zero (number32 bytes p) (number32 bytes p) refl some) at marks

module _ (next : Behind) (schema : Schema) (bytes : List ℕ) (p : ℕ) where
  pub array_value : (of : KindTree) (count : Option ℕ) (nullable : Bool) (ts : Trees)
      → ts ≡ slots_value next schema bytes (p + 8) (element_slots of 0 (number32 bytes (p + 4))) none
      → Items ts ≡ object_value next schema bytes p (kinds.ArrayKind of count nullable)
  unfolding object_value
  array_value of count nullable ts e = ap Items e

  pub union_is_slot : (k : KindTree) (number : ℕ) (nullable : Bool) → k ≡ kinds.UnionKind number nullable
      → object_value next schema bytes p k ≡ slot_value next schema bytes p 0 k
  unfolding object_value slot_value
  union_is_slot k number nullable e = subst (λ x. object_value next schema bytes p x ≡ slot_value next schema bytes p 0 x) (sym e) refl

-- the marks of parameters are those of their struct
pub parameters_readable : (n : ℕ) (schema : Schema) (bytes : List ℕ) (start number : ℕ) → AreReadable n (marks_of schema bytes start number)
    → AreReadable n (found_struct_marks (visit (MAX_DEPTH - 1) schema bytes) schema bytes start (slice_get schema.structs number))
unfolding visit object_marks
parameters_readable n schema bytes start number h = h
