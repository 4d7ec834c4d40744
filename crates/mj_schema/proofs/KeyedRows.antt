-- The first row of a key, by the place of the key.
use Rattle.std.proofs.Common.{◌≡◌, ℕ, ◌+◌, Bool, true, false, cond, not, List, [], ◌∷◌, length, map, Option, Some, None, refl, sym, ap, ◌∙◌, arith}
use Rattle.std.specs.Prelude.{◌==◌, ◌||◌, ℤ, pos, find, is_some, nat_lt, position, slice_get, option_and_then}
use Rattle.std.specs.List.{list_any, position_or_len}
use Rattle.std.specs.Ordering.{int_eq}
use Rattle.std.specs.Bool.{Decides}
use Rattle.std.proofs.lemmas.Bool.{lt-ltb, ltb-false}
use Rattle.std.proofs.lemmas.Bool.Decides.{Decides-eqb, Decides-int_eq, nat_tests, same_from_decides}
use Rattle.std.proofs.lemmas.List.{length-map}
use Rattle.std.proofs.lemmas.List.Folds.{find_at}
use Rattle.std.proofs.lemmas.Option.{slice_get_past}
use Rattle.mj_schema.specs.Places.{AreOrdered, number_of, tag_of}
use Rattle.mj_schema.specs.declared.places.KeyPlace.{KeyPlace}
use Rattle.mj_schema.specs.declared.rows.MemberRow.{MemberRow}
use Rattle.mj_schema.specs.declared.rows.UnionFieldRow.{UnionFieldRow}

some_where : (b : Bool) (n : ℕ) → is_some (cond b (Some n) None) ≡ b
some_where true n = refl
some_where false n = refl

shift : (n m : ℕ) → nat_lt (1 + n) (1 + m) ≡ nat_lt n m
shift n m = grind (arith, nat_tests)

step : (b any : Bool) (n m : ℕ) → nat_lt n m ≡ any → nat_lt (cond (not b) (1 + n) 0) (1 + m) ≡ (b || any)
step true any n m e = lt-ltb 0 (1 + m) (omega arith)
step false any n m e = shift n m ∙ e

module _ {X : Type 0} (p : ℤ → Bool) (f : X → ℤ) where
  within : (xs : List X) → nat_lt (position_or_len p (map f xs)) (length (map f xs)) ≡ list_any (λ (x : X). p (f x)) xs
  within [] = refl
  within (x ∷ xs) =
      let longer : length (map f (x ∷ xs)) ≡ 1 + length (map f xs) = omega arith in
      ap (λ (m : ℕ). nat_lt (position_or_len p (map f (x ∷ xs))) m) longer
      ∙ step (p (f x)) (list_any (λ (x : X). p (f x)) xs) (position_or_len p (map f xs)) (length (map f xs)) (within xs)

  -- a key has a place exactly where a row has it
  any_at : (xs : List X) → is_some (position p (map f xs)) ≡ list_any (λ (x : X). p (f x)) xs
  any_at xs = some_where (nat_lt (position_or_len p (map f xs)) (length (map f xs))) (position_or_len p (map f xs)) ∙ within xs

  first_same : (q : X → Bool) → ((x : X) → p (f x) ≡ q x) → (xs : List X) → position_or_len p (map f xs) ≡ position_or_len q xs
  first_same q e [] = refl
  first_same q e (x ∷ xs) =
      ap (λ (b : Bool). cond (not b) (1 + position_or_len p (map f xs)) 0) (e x)
      ∙ ap (λ (n : ℕ). cond (not (q x)) (1 + n) 0) (first_same q e xs)

  taken : (xs : List X) (n : ℕ) (b : Bool) → nat_lt n (length xs) ≡ b → option_and_then (slice_get xs) (cond b (Some n) None) ≡ slice_get xs n
  taken xs n true e = refl
  taken xs n false e = sym (slice_get_past xs n (ltb-false n (length xs) e))

  -- the row at the place of a key is the first that has it
  row_at : (q : X → Bool) → ((x : X) → p (f x) ≡ q x) → (xs : List X) → option_and_then (slice_get xs) (position p (map f xs)) ≡ find q xs
  row_at q e xs =
      let n = position_or_len p (map f xs) in
      ap (λ (m : ℕ). option_and_then (slice_get xs) (cond (nat_lt n m) (Some n) None)) (length-map xs f)
      ∙ taken xs n (nat_lt n (length xs)) refl
      ∙ ap (slice_get xs) (first_same q e xs)
      ∙ sym (find_at q xs)

same_tag : (tag : ℕ) (field : UnionFieldRow) → int_eq (tag_of field) (pos tag) ≡ (field.tag == tag)
same_tag tag field =
    let one = Decides-int_eq (pos field.tag) (pos tag) in
    let two = Decides-eqb field.tag tag in
    let back : pos field.tag ≡ pos tag → field.tag ≡ tag = λ e. cc in
    let three : Decides (field.tag == tag) (pos field.tag ≡ pos tag) = (λ e. ap (λ (n : ℕ). pos n) (two.0 e), λ e. two.1 (back e)) in
    same_from_decides (int_eq (pos field.tag) (pos tag)) (field.tag == tag) one three

-- where the place of a number is found, whether a member has it
pub has_at : (rows : List MemberRow) (places : List KeyPlace) (key number : ℤ) (place : Option ℕ)
    → ((keys : List ℤ) → AreOrdered keys places → place ≡ position (λ (other : ℤ). int_eq other key) keys)
    → AreOrdered (map number_of rows) places → key ≡ number → is_some place ≡ list_any (λ (member : MemberRow). int_eq member.number number) rows
has_at rows places key number place at are e =
    ap (λ (o : Option ℕ). is_some o) (at (map number_of rows) are)
    ∙ any_at (λ (other : ℤ). int_eq other key) number_of rows
    ∙ ap (λ (k : ℤ). list_any (λ (member : MemberRow). int_eq member.number k) rows) e

-- where the place of a tag is found, the first field of it
pub field_at : (fields : List UnionFieldRow) (places : List KeyPlace) (key : ℤ) (tag : ℕ) (place : Option ℕ)
    → ((keys : List ℤ) → AreOrdered keys places → place ≡ position (λ (other : ℤ). int_eq other key) keys)
    → AreOrdered (map tag_of fields) places → key ≡ pos tag
    → option_and_then (slice_get fields) place ≡ find (λ (field : UnionFieldRow). field.tag == tag) fields
field_at fields places key tag place at are e =
    ap (option_and_then (slice_get fields)) (at (map tag_of fields) are)
    ∙ row_at (λ (other : ℤ). int_eq other key) tag_of (λ (field : UnionFieldRow). field.tag == tag)
    (λ field. ap (int_eq (tag_of field)) e ∙ same_tag tag field) fields
