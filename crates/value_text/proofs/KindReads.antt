-- How the text of a kind is read, by cases as the functions make them.
use Rattle.std.proofs.Common.{◌≡◌, ℕ, zero, suc, ◌-◌, ◌+◌, ◌<◌, ◌≤◌, List, [], ◌∷◌, ◌++◌, length, map, drop, take, Option, Some, Ok, Err, Bool, true}
use Rattle.std.proofs.Common.{false, ◌==◌, refl, sym, ap, ◌∙◌, subst, append_assoc, arith, get_or, add-one, drop-cons}
use Rattle.std.specs.Prelude.{is_some, ◌||◌}
use Rattle.std.specs.List.{flat_map}
use Rattle.std.proofs.lemmas.List.{append-nil}
use Rattle.mj_schema.specs.KindTrees.{KindTree}
use Rattle.wire_model.specs.Kinded.{is_nullable}
use Rattle.wire_model.specs.Trees.{Tree}
use Rattle.wire_model.specs.Trees as values
use Rattle.mj_schema.specs.declared.schema.Schema.{Schema}
use Rattle.mj_schema.specs.declared.rows.FieldRow.{FieldRow}
use Rattle.mj_schema.specs.declared.rows.StructRow.{StructRow}
use Rattle.mj_schema.specs.declared.rows.UnionRow.{UnionRow}
use Rattle.byte_rules.specs.declared.stop.Stop.{Stop}
use Rattle.byte_rules.specs.declared.stop.Stop.TheVariants as stops
use Rattle.byte_rules.specs.Lang.{Lang, Read, ◌>>=◌, front_is, byte, closed, as_value, ◌then◌, ◌▸◌, never, listed, exactly, rest_of}
use Rattle.byte_rules.specs.Reading.{Fails}
use Rattle.byte_rules.specs.steps.Reading.{with_front}
use Rattle.value_text.specs.Rules.{null_word, opened, array, structure, fields, fields_after, union, or_null, slot_value}
use Rattle.value_text.specs.steps.Reading.{has_room, inside, inner, base_at}
use Rattle.value_text.specs.Rules.{fields_of, items_of, elements, pair, pairs_of}
use Rattle.value_text.specs.steps.Reading.{pair_of}

value_is : (schema : Schema) (left : ℕ) (flagged : Bool) (k : KindTree) (bs : List ℕ)
    → (slot_value schema left flagged k).read bs ≡ (or_null (flagged || is_nullable k) (base_at schema left k)).read bs
unfolding slot_value
value_is schema zero flagged k bs = refl
value_is schema (suc left) flagged k bs = refl

null_at : (n : Bool) (one : Lang Tree) (bs : List ℕ) → n ≡ true → front_is (λ b. b == 110) bs ≡ true → (or_null n one).read bs ≡ null_word.read bs
null_at true one bs e f = rw f refl
null_at false one bs e f = absurd (cc)

none_at : (n : Bool) (one : Lang Tree) (bs : List ℕ) → n ≡ false → (or_null n one).read bs ≡ one.read bs
none_at true one bs e = absurd (cc)
none_at false one bs e = refl

other_at : (n : Bool) (one : Lang Tree) (bs : List ℕ) → front_is (λ b. b == 110) bs ≡ false → (or_null n one).read bs ≡ one.read bs
other_at true one bs e = rw e refl
other_at false one bs e = refl

pub value_null : (schema : Schema) (left : ℕ) (flagged : Bool) (k : KindTree) (bs : List ℕ) → (flagged || is_nullable k) ≡ true
    → front_is (λ b. b == 110) bs ≡ true → (slot_value schema left flagged k).read bs ≡ null_word.read bs
value_null schema left flagged k bs e f = value_is schema left flagged k bs ∙ null_at (flagged || is_nullable k) (base_at schema left k) bs e f

pub value_never_null : (schema : Schema) (left : ℕ) (flagged : Bool) (k : KindTree) (bs : List ℕ) → (flagged || is_nullable k) ≡ false
    → (slot_value schema left flagged k).read bs ≡ (base_at schema left k).read bs
value_never_null schema left flagged k bs e = value_is schema left flagged k bs ∙ none_at (flagged || is_nullable k) (base_at schema left k) bs e

pub value_other : (schema : Schema) (left : ℕ) (flagged : Bool) (k : KindTree) (bs : List ℕ) → front_is (λ b. b == 110) bs ≡ false
    → (slot_value schema left flagged k).read bs ≡ (base_at schema left k).read bs
value_other schema left flagged k bs e = value_is schema left flagged k bs ∙ other_at (flagged || is_nullable k) (base_at schema left k) bs e

pub never_read : {A : Type 0} (x : A) (bs : List ℕ) → (never x).read bs ≡ Err (length bs)
never_read x [] = refl
never_read x (b ∷ bs) = refl

-- no bracket may be opened
pub opened_full : (c left : ℕ) (one : Lang Tree) (bs : List ℕ) → left ≡ 0 → (opened (has_room left) c one).read bs ≡ Err (length bs)
opened_full c zero one bs e = never_read values.Null bs
opened_full c (suc left) one bs e = absurd (cc)

-- one may
pub array_room : (schema : Schema) (left : ℕ) (of : KindTree) (count : Option ℕ) (bs : List ℕ) → 0 < left
    → (opened (has_room left) 91 (array (inside schema left false of) count)).read bs ≡ (91 ▸ array (inner schema (left - 1) of) count).read bs
array_room schema zero of count bs h = absurd (omega (arith, h))
array_room schema (suc left) of count bs h = let e : suc left - 1 ≡ left = omega arith in rw e refl

as_items : (one : Lang (List Tree)) (bs rest : List ℕ) (ts : List Tree) (t : Tree) → one.read bs ≡ Ok (ts, rest) → t ≡ items_of ts
    → (as_value items_of one).read bs ≡ Ok (t, rest)
as_items one bs rest ts t g e =
    ap (λ (r : Read (List Tree)). r >>= λ x. Ok (items_of x.0, x.1)) g ∙ ap (λ (u : Tree). Ok (u, rest)) (sym e)

pub array_ok : (one : Lang Tree) (count : Option ℕ) (bs rest after : List ℕ) (ts : List Tree) (t : Tree) → (byte 91).read bs ≡ Ok (91, rest)
    → (elements one count).read rest ≡ Ok (ts, after) → t ≡ items_of ts → (91 ▸ array one count).read bs ≡ Ok (t, after)
array_ok one count bs rest after ts t r g e = rw r (as_items (elements one count) rest after ts t g e)

pub map_room : (schema : Schema) (left : ℕ) (key one : KindTree) (bs : List ℕ) → 0 < left
    → (opened (has_room left) 123 (as_value pairs_of (listed 125 (pair (inside schema left false key) (inside schema left false one))))).read bs
    ≡ (123 ▸ as_value pairs_of (listed 125 (pair_of schema (left - 1) key one))).read bs
map_room schema zero key one bs h = absurd (omega (arith, h))
map_room schema (suc left) key one bs h = let e : suc left - 1 ≡ left = omega arith in rw e refl

pub struct_room : (schema : Schema) (left : ℕ) (row : Option StructRow) (bs : List ℕ) → 0 < left
    → (opened (has_room left) 40 (structure (inside schema left) row)).read bs ≡ (40 ▸ structure (slot_value schema (left - 1)) row).read bs
struct_room schema zero row bs h = absurd (omega (arith, h))
struct_room schema (suc left) row bs h = let e : suc left - 1 ≡ left = omega arith in rw e refl

pub union_room : (schema : Schema) (left : ℕ) (row : Option UnionRow) (bs : List ℕ) → 0 < left
    → (opened (has_room left) 60 (union (inside schema left) row)).read bs ≡ (60 ▸ union (slot_value schema (left - 1)) row).read bs
union_room schema zero row bs h = absurd (omega (arith, h))
union_room schema (suc left) row bs h = let e : suc left - 1 ≡ left = omega arith in rw e refl

-- values in a vector
singles : (xs : List Tree) → flat_map (λ t. t ∷ []) xs ≡ xs
singles [] = refl
singles (x ∷ xs) = ap (λ (l : List Tree). x ∷ l) (singles xs)

pub first_and_more : (x : Tree) (r : Read (List Tree)) → with_front (λ t. t ∷ []) (x ∷ []) r ≡ (r >>= λ y. Ok (x ∷ y.0, y.1))
first_and_more x (Ok y) = ap (λ (l : List Tree). Ok (x ∷ l, y.1)) (singles y.0)
first_and_more x (Err n) = refl

-- fields, one after the other
module _ (within : Bool → KindTree → Lang Tree) where
  after_one : (front : List Tree) (x : Tree) (r : Read (List Tree))
      → with_front (λ t. t ∷ []) front (r >>= λ y. Ok (x ∷ y.0, y.1)) ≡ with_front (λ t. t ∷ []) (front ++ x ∷ []) r
  after_one front x (Ok y) = ap (λ (xs : List Tree). Ok (xs, y.1)) (sym (append_assoc front (x ∷ []) (flat_map (λ t. t ∷ []) y.0)))
  after_one front x (Err n) = refl

  regrouped : {A B : Type 0} (one : Lang A) (f : A → Lang B) (ts : List ℕ) → (44 ▸ one then f).read ts ≡ ((44 ▸ one).read ts >>= λ x. (f x.0).read x.1)
  regrouped {A} {B} one f ts = of ((byte 44).read ts)
    where
      of : (r : Read ℕ) → (r >>= λ x. (one.read x.1 >>= λ y. (f y.0).read y.1)) ≡ ((r >>= λ x. one.read x.1) >>= λ x. (f x.0).read x.1)
      of (Ok x) = refl
      of (Err n) = refl

  pub field_on : (front : List Tree) (f : FieldRow) (fs : List FieldRow) (ts next : List ℕ) (x : Tree) (total : Read (List Tree))
      → (44 ▸ within (is_some f.flag) f.kind).read ts ≡ Ok (x, next) → with_front (λ t. t ∷ []) front ((fields_after within (f ∷ fs)).read ts) ≡ total
      → with_front (λ t. t ∷ []) (front ++ x ∷ []) ((fields_after within fs).read next) ≡ total
  unfolding fields_after
  field_on front f fs ts next x total a so_far =
      let here : (fields_after within (f ∷ fs)).read ts ≡ ((fields_after within fs).read next >>= λ y. Ok (x ∷ y.0, y.1)) =
      regrouped (within (is_some f.flag) f.kind) (λ v. as_value (λ vs. v ∷ vs) (fields_after within fs)) ts
      ∙ ap (λ (r : Read Tree). r >>= λ x. (as_value (λ vs. x.0 ∷ vs) (fields_after within fs)).read x.1) a in
      sym (after_one front x ((fields_after within fs).read next)) ∙ ap (with_front (λ t. t ∷ []) front) (sym here) ∙ so_far

  pub no_field : (e : Stop) (front : List Tree) (f : FieldRow) (fs : List FieldRow) (ts : List ℕ) (total : Read (List Tree))
      → Fails e ((44 ▸ within (is_some f.flag) f.kind).read ts) → with_front (λ t. t ∷ []) front ((fields_after within (f ∷ fs)).read ts) ≡ total
      → Fails e total
  unfolding fields_after
  no_field stops.Memory front f fs ts total a so_far = tt
  no_field (stops.Left n) front f fs ts total a so_far =
      let here : (fields_after within (f ∷ fs)).read ts ≡ Err n =
      regrouped (within (is_some f.flag) f.kind) (λ v. as_value (λ vs. v ∷ vs) (fields_after within fs)) ts
      ∙ ap (λ (r : Read Tree). r >>= λ x. (as_value (λ vs. x.0 ∷ vs) (fields_after within fs)).read x.1) a in
      sym so_far ∙ ap (with_front (λ t. t ∷ []) front) here

  pub fields_end : (front : List Tree) (ts next : List ℕ) (total : Read (List Tree)) → (byte 41).read ts ≡ Ok (41, next)
      → with_front (λ t. t ∷ []) front ((fields_after within []).read ts) ≡ total → total ≡ Ok (front, next)
  unfolding fields_after
  fields_end front ts next total a so_far = let here : (fields_after within []).read ts ≡ Ok ([], next) = rw a refl in sym so_far
      ∙ ap (with_front (λ t. t ∷ []) front) here ∙ ap (λ (l : List Tree). Ok (l, next)) (append-nil front)

  pub no_end : (e : Stop) (front : List Tree) (ts : List ℕ) (total : Read (List Tree)) → Fails e ((byte 41).read ts)
      → with_front (λ t. t ∷ []) front ((fields_after within []).read ts) ≡ total → Fails e total
  unfolding fields_after
  no_end stops.Memory front ts total a so_far = tt
  no_end (stops.Left n) front ts total a so_far = let here : (fields_after within []).read ts ≡ Err n = rw a refl in sym so_far
      ∙ ap (with_front (λ t. t ∷ []) front) here

pub pushed : {A B : Type 0} (f : A → B) (xs : List A) (x : A) (new : List A) → new ≡ xs ++ x ∷ [] → map f new ≡ map f xs ++ f x ∷ []
pushed {A} {B} f xs x new e = ap (map f) e ∙ of xs
  where
    of : (xs : List A) → map f (xs ++ x ∷ []) ≡ map f xs ++ f x ∷ []
    of [] = refl
    of (y ∷ ys) = ap (λ (l : List B). f y ∷ l) (of ys)

-- a struct that is there
pub structure_ok : (inside : Bool → KindTree → Lang Tree) (found : Option StructRow) (row : StructRow) (bs : List ℕ) (vs : List Tree) (rest : List ℕ)
    → Some row ≡ found → (fields inside row.fields).read bs ≡ Ok (vs, rest)
    → (structure inside found).read bs ≡ Ok (fields_of vs, rest)
structure_ok inside found row bs vs rest e r = subst (λ (o : Option StructRow). (structure inside o).read bs ≡ Ok (fields_of vs, rest)) e (rw r refl)

pub structure_err : (inside : Bool → KindTree → Lang Tree) (found : Option StructRow) (row : StructRow) (bs : List ℕ) (stop : Stop) → Some row ≡ found
    → Fails stop ((fields inside row.fields).read bs) → Fails stop ((structure inside found).read bs)
structure_err inside found row bs stops.Memory e r = tt
structure_err inside found row bs (stops.Left n) e r = subst (λ (o : Option StructRow). (structure inside o).read bs ≡ Err n) e (rw r refl)

-- the first field of some
pub first_field : (inside : Bool → KindTree → Lang Tree) (f : FieldRow) (fs : List FieldRow) (bs rest : List ℕ) (x : Tree)
    → (inside (is_some f.flag) f.kind).read bs ≡ Ok (x, rest)
    → (fields inside (f ∷ fs)).read bs ≡ with_front (λ t. t ∷ []) (x ∷ []) ((fields_after inside fs).read rest)
unfolding fields
first_field inside f fs bs rest x r = rw r (sym (first_and_more x ((fields_after inside fs).read rest)))

-- the fields from a place on
pub fields_at : (row : List FieldRow) (i : ℕ) (f : FieldRow) → i < length row → f ≡ get_or row i f → drop i row ≡ f ∷ drop (i + 1) row
fields_at row i f lt e =
    let cut : drop i row ≡ get_or row i f ∷ drop (i + 1) row = rw (add-one, drop-cons row i f) refl in
    cut ∙ ap (λ (g : FieldRow). g ∷ drop (i + 1) row) (sym e)

pub fields_gone : (row : List FieldRow) (i : ℕ) → length row ≤ i → drop i row ≡ []
fields_gone [] zero le = refl
fields_gone [] (suc i) le = refl
fields_gone (f ∷ fs) zero le = absurd (omega (arith, le))
fields_gone (f ∷ fs) (suc i) le = fields_gone fs i (omega (arith, le))

pub fields_first : (inside : Bool → KindTree → Lang Tree) (row : List FieldRow) (f : FieldRow) (flagged : Bool) (k : KindTree) (bs rest : List ℕ) (x : Tree)
    (vs : List Tree) → 1 ≤ length row → f ≡ get_or row 0 f → flagged ≡ is_some f.flag → k ≡ f.kind → (inside flagged k).read bs ≡ Ok (x, rest) → vs ≡ x ∷ []
    → (fields inside row).read bs ≡ with_front (λ t. t ∷ []) vs ((fields_after inside (drop 1 row)).read rest)
fields_first inside row f flagged k bs rest x vs le e flag same r v =
    let here : (inside (is_some f.flag) f.kind).read bs ≡ Ok (x, rest) =
    subst (λ (k : KindTree). (inside (is_some f.flag) k).read bs ≡ Ok (x, rest)) same
    (subst (λ (b : Bool). (inside b k).read bs ≡ Ok (x, rest)) flag r) in
    ap (λ (fs : List FieldRow). (fields inside fs).read bs) (fields_at row 0 f (omega (arith, le)) e)
    ∙ first_field inside f (drop 1 row) bs rest x here
    ∙ ap (λ (l : List Tree). with_front (λ t. t ∷ []) l ((fields_after inside (drop 1 row)).read rest)) (sym v)

all_taken : {A : Type 0} (xs : List A) → take (length xs) xs ≡ xs
all_taken [] = refl
all_taken (x ∷ xs) = ap (λ l. x ∷ l) (all_taken xs)

-- a slice's rest behind its first
pub rest_is : {A : Type 0} (xs : List A) → take (length xs - 1) (drop 1 xs) ≡ drop 1 xs
rest_is [] = all_taken []
rest_is (x ∷ xs) = let e : suc (length xs) - 1 ≡ length xs = omega arith in ap (λ (n : ℕ). take n xs) e ∙ all_taken xs

-- so many values: none, and the first of some
pub none_exactly : (one : Lang Tree) (bs : List ℕ) (count : ℕ) → count ≡ 0 → (exactly 93 count one).read bs ≡ (closed {A = List Tree} 93 []).read bs
unfolding exactly
none_exactly one bs zero e = refl
none_exactly one bs (suc n) e = absurd (cc)

pub first_exactly : (one : Lang Tree) (count : ℕ) (bs rest : List ℕ) (x : Tree) (vs : List Tree) → 0 < count → one.read bs ≡ Ok (x, rest) → vs ≡ x ∷ []
    → (exactly 93 count one).read bs ≡ with_front (λ t. t ∷ []) vs ((rest_of 93 (count - 1) one).read rest)
unfolding exactly
first_exactly one zero bs rest x vs h r v = absurd (omega (arith, h))
first_exactly one (suc n) bs rest x vs h r v =
    let e : suc n - 1 ≡ n = omega arith in
    rw (r, v, e) (sym (first_and_more x ((rest_of 93 n one).read rest)))

pub fails_exactly : (e : Stop) (one : Lang Tree) (count : ℕ) (bs : List ℕ) → 0 < count → Fails e (one.read bs) → Fails e ((exactly 93 count one).read bs)
unfolding exactly
fails_exactly stops.Memory one count bs h r = tt
fails_exactly (stops.Left m) one zero bs h r = absurd (omega (arith, h))
fails_exactly (stops.Left m) one (suc n) bs h r = rw r refl

pub none_ok : (one : Lang Tree) (count : ℕ) (bs rest : List ℕ) (vs : List Tree) → count ≡ 0 → (byte 93).read bs ≡ Ok (93, rest) → vs ≡ []
    → (exactly 93 count one).read bs ≡ Ok (vs, rest)
none_ok one count bs rest vs e r v = none_exactly one bs count e ∙ rw (r, v) refl

pub none_err : (e : Stop) (one : Lang Tree) (count : ℕ) (bs : List ℕ) → count ≡ 0 → Fails e ((byte 93).read bs) → Fails e ((exactly 93 count one).read bs)
none_err stops.Memory one count bs e r = tt
none_err (stops.Left n) one count bs e r = none_exactly one bs count e ∙ rw r refl
