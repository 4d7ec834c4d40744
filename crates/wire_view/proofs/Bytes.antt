-- Arrays of uint8 as their bytes.
use Rattle.std.proofs.Common.{◌≡◌, ℕ, zero, suc, ◌+◌, ◌-◌, ◌/◌, ◌%◌, ◌<◌, ◌≤◌, Bool, true, false, cond, List, ◌∷◌, length, take, drop, drop-cons, Option, Some, None, refl, sym, ap, ◌∙◌, arith}
use Rattle.std.specs.Prelude.{◌==◌, slice_index, option_and_then}
use Rattle.mj_base.specs.Bytes.{number32, number64}
use Rattle.mj_schema.specs.KindTrees as kinds
use Rattle.mj_schema.specs.KindTrees.{KindTree}
use Rattle.mj_schema.specs.Versions.{bytes_of}
use Rattle.mj_schema.specs.declared.kind.Width.TheVariants.{Bits8}
use Rattle.mj_schema.specs.declared.rows.Literal.{Literal}
use Rattle.mj_schema.specs.declared.rows.Literal.TheVariants as literals
use Rattle.mj_schema.specs.declared.schema.Schema.{Schema}
use Rattle.wire_model.specs.Absent.{absent_field, absent_kind, null_or}
use Rattle.wire_model.specs.Marks.{visit, pointer_marks, slot_marks, cell_marks}
use Rattle.wire_model.specs.Slots.{element_slots}
use Rattle.wire_model.specs.Trees.{Tree, Null, none}
use Rattle.wire_model.specs.Values.{Behind, value, object_value, pointer_value, slot_value, cell_value, slots_value}
use Rattle.wire_model.specs.steps.Cells.{cell_size}
use Rattle.readable_marks.specs.Readable.{AreReadable}
use Rattle.readable_marks.proofs.Reading.{readable_behind, value_behind, object_array}
use Rattle.wire_view.specs.Parts.{is_bytes, all_bytes, array_bytes, bytes_of_part}
use Rattle.wire_view.specs.steps.Lists.{IsThere, bytes_at, bytes_behind}

cut : (bytes : List ℕ) (q : ℕ) → q < length bytes → drop q bytes ≡ slice_index bytes q ∷ drop (suc q) bytes
cut bytes q lt = rw (drop-cons bytes q 0) refl

-- elements of 8 bits are the bytes where they lie
bytes_are : (next : Behind) (schema : Schema) (bytes : List ℕ) (base place n : ℕ) → place % 8 ≡ 0
    → base + place / 8 + n ≤ length bytes
    → all_bytes (slots_value next schema bytes base (element_slots (kinds.IntKind Bits8 false false) place n) none) ≡ take n (drop (base + place / 8) bytes)
unfolding slots_value slot_value cell_value
bytes_are next schema bytes base place zero e le = refl
bytes_are next schema bytes base place (suc n) e le =
    let later : base + (place + 8) / 8 ≡ suc (base + place / 8) = omega arith in
    let rest = bytes_are next schema bytes base (place + 8) n (omega arith) (omega (arith, later)) in
    ap (λ (l : List ℕ). slice_index bytes (base + place / 8) ∷ l) (rest ∙ ap (λ (q : ℕ). take n (drop q bytes)) later)
    ∙ sym (ap (take (suc n)) (cut bytes (base + place / 8) (omega arith)))

pub by_test : (t : Bool) (P : Bool → Type 0) → (t ≡ true → P true) → (t ≡ false → P false) → P t
by_test true P then_ else_ = then_ refl
by_test false P then_ else_ = else_ refl

-- a level is left where a pointer isn't null
pub some_level : (n left : ℕ) (schema : Schema) (bytes : List ℕ) (p : ℕ) (k : KindTree) (x : Bool) → (number64 bytes p == 0) ≡ false
    → AreReadable n (pointer_marks (visit left schema bytes) bytes p k x) → left ≡ suc (left - 1)
unfolding pointer_marks visit
some_level n zero schema bytes p k x some h = let parts = rw some at h in absurd cc
some_level n (suc left) schema bytes p k x some h = omega arith

null_bytes : (left : ℕ) (schema : Schema) (bytes : List ℕ) (p : ℕ) (k : KindTree) → (number64 bytes p == 0) ≡ true
    → bytes_behind bytes p ≡ array_bytes (pointer_value (value left schema bytes) bytes p k)
unfolding pointer_value
null_bytes left schema bytes p k none' = rw none' refl

-- a pointer to such an array
module _ (left : ℕ) (schema : Schema) (bytes : List ℕ) (p : ℕ) (count : Option ℕ) (nullable x : Bool)
    (h : AreReadable (length bytes) (pointer_marks (visit left schema bytes) bytes p (kinds.ArrayKind (kinds.IntKind Bits8 false false) count nullable)
    x)) where
  abbrev k : KindTree
  k = kinds.ArrayKind (kinds.IntKind Bits8 false false) count nullable

  there : IsThere bytes p
  there = λ some.
      let level = some_level (length bytes) left schema bytes p k x some h in
      let behind = readable_behind (length bytes) left (left - 1) schema bytes p k x level some h in
      let array = object_array (length bytes) (visit (left - 1) schema bytes) schema bytes (p + number64 bytes p) k (kinds.IntKind Bits8 false false)
      count nullable refl
      behind.1 in
      omega (arith, array.within)

  some_bytes : (number64 bytes p == 0) ≡ false
      → Some (bytes_at bytes (p + number64 bytes p)) ≡ array_bytes (object_value (value (left - 1) schema bytes) schema bytes (p + number64 bytes p) k)
  unfolding object_value
  some_bytes some =
      let q = p + number64 bytes p in
      let n = number32 bytes (q + 4) in
      let first : q + 8 + 0 / 8 ≡ q + 8 = omega arith in
      let within : q + 8 + 0 / 8 + n ≤ length bytes = omega (arith, there some, first) in
      ap (λ (l : List ℕ). Some l)
      (sym (bytes_are (value (left - 1) schema bytes) schema bytes (q + 8) 0 n refl within ∙ ap (λ (o : ℕ). take n (drop o bytes)) first))

  read : bytes_behind bytes p ≡ array_bytes (pointer_value (value left schema bytes) bytes p k)
  read =
      by_test (number64 bytes p == 0) (λ b. (number64 bytes p == 0) ≡ b → bytes_behind bytes p ≡ array_bytes
      (pointer_value (value left schema bytes) bytes p k))
      (λ _ none'. null_bytes left schema bytes p k none') (λ _ some.
      ap (λ (b : Bool). cond b None (Some (bytes_at bytes (p + number64 bytes p)))) some
      ∙ some_bytes some
      ∙ ap array_bytes (sym (value_behind left (left - 1) schema bytes p k (some_level (length bytes) left schema bytes p k x some h) some))) refl

  pub pointed : IsThere bytes p × (bytes_behind bytes p ≡ array_bytes (pointer_value (value left schema bytes) bytes p k))
  pointed = (there, read)

-- what lies in a slot of such a kind, in a union and in a map
pub slot_bytes : (left : ℕ) (schema : Schema) (bytes : List ℕ) (p bit : ℕ) (k : KindTree)
    → AreReadable (length bytes) (slot_marks (visit left schema bytes) schema bytes p k) → is_bytes k ≡ true
    → IsThere bytes p × (bytes_behind bytes p ≡ array_bytes (slot_value (value left schema bytes) schema bytes p bit k))
unfolding slot_marks cell_marks slot_value cell_value
slot_bytes left schema bytes p bit (kinds.ArrayKind (kinds.IntKind Bits8 false false) count nullable) h e =
    pointed left schema bytes p count nullable nullable h
slot_bytes left schema bytes p bit k h e = absurd cc

pub cell_bytes : (left : ℕ) (schema : Schema) (bytes : List ℕ) (p bit : ℕ) (k : KindTree)
    → AreReadable (length bytes) (cell_marks (visit left schema bytes) schema bytes p k) → is_bytes k ≡ true
    → IsThere bytes p × (bytes_behind bytes p ≡ array_bytes (cell_value (value left schema bytes) bytes p bit k))
unfolding cell_marks cell_value
cell_bytes left schema bytes p bit (kinds.ArrayKind (kinds.IntKind Bits8 false false) count nullable) h e =
    pointed left schema bytes p count nullable nullable h
cell_bytes left schema bytes p bit k h e = absurd cc

pub list_bytes : (left : ℕ) (schema : Schema) (bytes : List ℕ) (p : ℕ) (of : KindTree)
    → AreReadable (length bytes) (pointer_marks (visit left schema bytes) bytes p (kinds.ArrayKind of None false) false)
    → is_bytes (kinds.ArrayKind of None false) ≡ true
    → IsThere bytes p × (bytes_behind bytes p ≡ array_bytes (pointer_value (value left schema bytes) bytes p (kinds.ArrayKind of None false)))
list_bytes left schema bytes p (kinds.IntKind Bits8 false false) h e = pointed left schema bytes p None false false h
list_bytes left schema bytes p of h e = absurd cc

-- such a kind takes 8 bytes
pub slot_room : (k : KindTree) (p n : ℕ) → p + bytes_of k ≤ n → is_bytes k ≡ true → p + 8 ≤ n
slot_room (kinds.ArrayKind (kinds.IntKind Bits8 false false) count nullable) p n le e = le
slot_room k p n le e = absurd cc

pub cell_room : (k : KindTree) (p n : ℕ) → p + (cell_size k + 7) / 8 ≤ n → is_bytes k ≡ true → p + 8 ≤ n
cell_room (kinds.ArrayKind (kinds.IntKind Bits8 false false) count nullable) p n le e = le
cell_room k p n le e = absurd cc

-- a part of that kind
branches : (b : Bool) (x y : Option (List ℕ)) → (b ≡ true → x ≡ y) → cond b x None ≡ cond b y None
branches true x y h = h refl
branches false x y h = refl

pub part_bytes : (of : Option KindTree) (k : KindTree) (found : Option Tree) (t : Tree) (bytes : Option (List ℕ)) → of ≡ Some k → found ≡ Some t
    → (is_bytes k ≡ true → bytes ≡ array_bytes t) → cond (is_bytes k) bytes None ≡ bytes_of_part of found
part_bytes of k found t bytes kind is h =
    branches (is_bytes k) bytes (array_bytes t) h ∙ ap (bytes_of_part (Some k)) (sym is) ∙ ap (λ (o : Option KindTree). bytes_of_part o found) (sym kind)

either_none : (b : Bool) (o : Option (List ℕ)) → o ≡ None → None ≡ cond b o None
either_none true o e = sym e
either_none false o e = refl

no_bytes : (of : Option KindTree) (found : Option Tree) → option_and_then array_bytes found ≡ None → None ≡ bytes_of_part of found
no_bytes None found e = refl
no_bytes (Some k) found e = either_none (is_bytes k) (option_and_then array_bytes found) e

or_none : (x : Bool) (t : Tree) → array_bytes t ≡ None → array_bytes (null_or x t) ≡ None
or_none true t e = refl
or_none false t e = e

absent_kind_bytes : (schema : Schema) (k : KindTree) → array_bytes (absent_kind schema k) ≡ None
absent_kind_bytes schema (kinds.BoolKind x) = or_none x _ refl
absent_kind_bytes schema (kinds.IntKind w s x) = or_none x _ refl
absent_kind_bytes schema (kinds.EnumKind n x) = or_none x _ refl
absent_kind_bytes schema k = refl

absent_bytes : (schema : Schema) (default : Option Literal) (k : KindTree) → array_bytes (absent_field schema default k) ≡ None
absent_bytes schema None k = absent_kind_bytes schema k
absent_bytes schema (Some (literals.Bool b)) k = refl
absent_bytes schema (Some (literals.Whole n)) k = refl
absent_bytes schema (Some (literals.Text t)) k = refl

-- no part, null, or an absent field
pub nothing_bytes : (of : Option KindTree) (found : Option Tree) → found ≡ None → None ≡ bytes_of_part of found
nothing_bytes of found e = no_bytes of found (ap (option_and_then array_bytes) e)

pub null_part_bytes : (of : Option KindTree) (found : Option Tree) → found ≡ Some Null → None ≡ bytes_of_part of found
null_part_bytes of found e = no_bytes of found (ap (option_and_then array_bytes) e)

pub absent_part_bytes : (of : Option KindTree) (found : Option Tree) (schema : Schema) (default : Option Literal) (k : KindTree)
    → found ≡ Some (absent_field schema default k) → None ≡ bytes_of_part of found
absent_part_bytes of found schema default k e = no_bytes of found (ap (option_and_then array_bytes) e ∙ absent_bytes schema default k)
