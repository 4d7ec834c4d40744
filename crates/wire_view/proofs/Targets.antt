-- Objects where they lie.
use Rattle.std.proofs.Common.{◌≡◌, ℕ, ◌+◌, ◌≤◌, Bool, true, false, cond, List, ◌∷◌, [], length, take, drop, Option, Some, None, refl, sym, ap, subst, ◌∙◌, arith}
use Rattle.std.specs.Prelude.{◌==◌, slice_get}
use Rattle.std.proofs.lemmas.Bool.Decides.{Decides-eqb}
use Rattle.mj_base.specs.declared.fault.FaultKind.TheVariants.{UnexpectedNullUnion}
use Rattle.mj_base.specs.Bytes.{number32}
use Rattle.mj_schema.specs.KindTrees as kinds
use Rattle.mj_schema.specs.KindTrees.{KindTree}
use Rattle.mj_schema.specs.declared.rows.StructRow.{StructRow}
use Rattle.mj_schema.specs.declared.rows.UnionRow.{UnionRow}
use Rattle.mj_schema.specs.declared.schema.Schema.{Schema}
use Rattle.wire_model.specs.Marks.{Test, Next, object_marks, array_marks, union_marks, found_union_marks, slot_marks}
use Rattle.wire_model.specs.Rows.{kind_of_tag}
use Rattle.wire_model.specs.Texts.{valid_len}
use Rattle.wire_model.specs.Trees.{Null, Text}
use Rattle.wire_model.specs.Values.{Behind, object_value, found_struct_value, union_value, found_union_value, member_value, slot_value}
use Rattle.readable_marks.specs.Readable.{AreReadable}
use Rattle.readable_marks.proofs.Reading.{not_zero, object_union, union_readable}
use Rattle.wire_view.specs.Parts.{is_object}

-- a string
pub record IsText (bytes : List ℕ) (p : ℕ) : Type 0 where
  pub within : p + 8 + number32 bytes (p + 4) ≤ length bytes
  pub valid : valid_len (take (number32 bytes (p + 4)) (drop (p + 8) bytes)) ≡ length (take (number32 bytes (p + 4)) (drop (p + 8) bytes))

module _ (n : ℕ) (next : Next) (schema : Schema) (bytes : List ℕ) (p : ℕ) (k : KindTree) where
  as_kind : (l : KindTree) → k ≡ l → AreReadable n (object_marks next schema bytes p k) → AreReadable n (object_marks next schema bytes p l)
  as_kind l e h = subst (λ (x : KindTree). AreReadable n (object_marks next schema bytes p x)) e h

  -- what a kind leads to that may be null, or of which a count is fixed, is what the kind without leads to
  pub plain_array : (of : KindTree) (count : Option ℕ) (nullable : Bool) → k ≡ kinds.ArrayKind of count nullable
      → AreReadable n (object_marks next schema bytes p k) → AreReadable n (object_marks next schema bytes p (kinds.ArrayKind of None false))
  unfolding object_marks array_marks
  plain_array of count nullable e h = as_kind (kinds.ArrayKind of count nullable) e h

  pub plain_map : (key one : KindTree) (nullable : Bool) → k ≡ kinds.MapKind key one nullable
      → AreReadable n (object_marks next schema bytes p k) → AreReadable n (object_marks next schema bytes p (kinds.MapKind key one false))
  unfolding object_marks
  plain_map key one nullable e h = as_kind (kinds.MapKind key one nullable) e h

  pub plain_struct : (number : ℕ) (nullable : Bool) → k ≡ kinds.StructKind number nullable
      → AreReadable n (object_marks next schema bytes p k) → AreReadable n (object_marks next schema bytes p (kinds.StructKind number false))
  unfolding object_marks
  plain_struct number nullable e h = as_kind (kinds.StructKind number nullable) e h

  pub pointed_union : (number : ℕ) (nullable : Bool) → k ≡ kinds.UnionKind number nullable → AreReadable n (object_marks next schema bytes p k)
      → (p + 16 ≤ n) × ((number32 bytes p ≡ 0 → ⊥) → AreReadable n (found_union_marks next schema bytes p (slice_get schema.unions number)))
  pointed_union number nullable e h =
      let u = object_union n next schema bytes p (kinds.UnionKind number nullable) number nullable refl (as_kind (kinds.UnionKind number nullable) e h) in
      (u.0, λ some. union_readable n next schema bytes p (kinds.UnionKind number nullable) number nullable refl some u.1)

-- a string's marks
pub text_there : (n : ℕ) (next : Next) (schema : Schema) (bytes : List ℕ) (p : ℕ) (k : KindTree) (nullable : Bool) → n ≡ length bytes
    → k ≡ kinds.TextKind nullable → AreReadable n (object_marks next schema bytes p k) → IsText bytes p
unfolding object_marks
text_there n next schema bytes p k nullable len e h =
    let marks = as_kind n next schema bytes p k (kinds.TextKind nullable) e h in
    record { within = omega (arith, marks.0, marks.1.0, len); valid = (Decides-eqb _ _).0 marks.1.1.0 }

module _ (next : Behind) (schema : Schema) (bytes : List ℕ) (p : ℕ) (k : KindTree) where
  pub same_array : (of : KindTree) (count : Option ℕ) (nullable : Bool) → k ≡ kinds.ArrayKind of count nullable
      → object_value next schema bytes p (kinds.ArrayKind of None false) ≡ object_value next schema bytes p k
  unfolding object_value
  same_array of count nullable e = ap (object_value next schema bytes p) (sym e)

  pub same_map : (key one : KindTree) (nullable : Bool) → k ≡ kinds.MapKind key one nullable
      → object_value next schema bytes p (kinds.MapKind key one false) ≡ object_value next schema bytes p k
  unfolding object_value
  same_map key one nullable e = ap (object_value next schema bytes p) (sym e)

  pub same_struct : (number : ℕ) (nullable : Bool) → k ≡ kinds.StructKind number nullable
      → object_value next schema bytes p (kinds.StructKind number false) ≡ object_value next schema bytes p k
  unfolding object_value
  same_struct number nullable e = ap (object_value next schema bytes p) (sym e)

  pub same_union : (number : ℕ) (nullable : Bool) → k ≡ kinds.UnionKind number nullable
      → union_value next schema bytes p number ≡ object_value next schema bytes p k
  unfolding object_value
  same_union number nullable e = ap (object_value next schema bytes p) (sym e)

  pub slot_union : (bit number : ℕ) (nullable : Bool) → k ≡ kinds.UnionKind number nullable
      → union_value next schema bytes p number ≡ slot_value next schema bytes p bit k
  unfolding slot_value
  slot_union bit number nullable e = ap (slot_value next schema bytes p bit) (sym e)

  pub same_text : (nullable : Bool) (text : List ℕ) → k ≡ kinds.TextKind nullable → text ≡ take (number32 bytes (p + 4)) (drop (p + 8) bytes)
      → Text text ≡ object_value next schema bytes p k
  unfolding object_value
  same_text nullable text e is = ap Text is ∙ ap (object_value next schema bytes p) (sym e)

-- objects aren't null
pub array_whole : (next : Behind) (schema : Schema) (bytes : List ℕ) (p : ℕ) (of : KindTree)
    → is_object (object_value next schema bytes p (kinds.ArrayKind of None false)) ≡ true
unfolding object_value
array_whole next schema bytes p of = refl

pub map_whole : (next : Behind) (schema : Schema) (bytes : List ℕ) (p : ℕ) (key one : KindTree)
    → is_object (object_value next schema bytes p (kinds.MapKind key one false)) ≡ true
unfolding object_value
map_whole next schema bytes p key one = refl

pub struct_whole : (next : Behind) (schema : Schema) (bytes : List ℕ) (p number : ℕ) (row : StructRow) → Some row ≡ slice_get schema.structs number
    → is_object (object_value next schema bytes p (kinds.StructKind number false)) ≡ true
unfolding object_value
struct_whole next schema bytes p number row e = subst (λ (o : Option StructRow). is_object (found_struct_value next schema bytes p o) ≡ true) e refl

pub no_struct : (next : Behind) (schema : Schema) (bytes : List ℕ) (p number : ℕ) → None ≡ slice_get schema.structs number
    → Null ≡ object_value next schema bytes p (kinds.StructKind number false)
unfolding object_value
no_struct next schema bytes p number e = ap (found_struct_value next schema bytes p) e

member_whole : (next : Behind) (bytes : List ℕ) (p tag : ℕ) (k : Option KindTree) → is_object (member_value next bytes p tag k) ≡ true
member_whole next bytes p tag None = refl
member_whole next bytes p tag (Some k) = refl

-- a union that has a size, and whose row is there
module _ (schema : Schema) (bytes : List ℕ) (p number : ℕ) (some : number32 bytes p ≡ 0 → ⊥) where
  sized : (number32 bytes p == 0) ≡ false
  sized = not_zero (number32 bytes p) (number32 bytes p) refl some

  pub union_found : (next : Behind)
      → object_value next schema bytes p (kinds.UnionKind number false) ≡ found_union_value next bytes p (slice_get schema.unions number)
  unfolding object_value union_value
  union_found next = ap (λ (b : Bool). cond b Null (found_union_value next bytes p (slice_get schema.unions number))) sized

  pub sized_value : (next : Behind) → found_union_value next bytes p (slice_get schema.unions number) ≡ union_value next schema bytes p number
  unfolding union_value
  sized_value next = sym (ap (λ (b : Bool). cond b Null (found_union_value next bytes p (slice_get schema.unions number))) sized)

  pub union_whole : (next : Behind) (row : UnionRow) → Some row ≡ slice_get schema.unions number
      → is_object (object_value next schema bytes p (kinds.UnionKind number false)) ≡ true
  union_whole next row e =
      ap is_object (union_found next)
      ∙ subst (λ (o : Option UnionRow). is_object (found_union_value next bytes p o) ≡ true) e
      (member_whole next bytes p (number32 bytes (p + 4)) (kind_of_tag row.fields (number32 bytes (p + 4))))

  pub union_stands : (n : ℕ) (next : Next) → p + 16 ≤ n → AreReadable n (found_union_marks next schema bytes p (slice_get schema.unions number))
      → AreReadable n (object_marks next schema bytes p (kinds.UnionKind number false))
  unfolding object_marks union_marks
  union_stands n next within h = (
    omega arith,
    (
      within,
      subst (λ (b : Bool). AreReadable n (cond b (Test false UnexpectedNullUnion p ∷ [])
          (found_union_marks next schema bytes p (slice_get schema.unions number))))
          (sym sized) h,
    ),
  )

-- a union of size 0
pub null_union : (next : Behind) (schema : Schema) (bytes : List ℕ) (p number : ℕ) → number32 bytes p ≡ 0 → Null ≡ union_value next schema bytes p number
unfolding union_value
null_union next schema bytes p number e = sym (ap (λ (m : ℕ). cond (m == 0) Null (found_union_value next bytes p (slice_get schema.unions number))) e)

-- a union in a slot
pub inline_union : (n : ℕ) (next : Next) (schema : Schema) (bytes : List ℕ) (p : ℕ) (k : KindTree) (number : ℕ) (nullable : Bool)
    → k ≡ kinds.UnionKind number nullable
    → AreReadable n (slot_marks next schema bytes p k)
    → (number32 bytes p ≡ 0 → ⊥) → AreReadable n (found_union_marks next schema bytes p (slice_get schema.unions number))
inline_union n next schema bytes p k number nullable e h some = union_readable n next schema bytes p k number nullable e some h
