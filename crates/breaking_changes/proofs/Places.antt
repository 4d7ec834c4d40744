-- The place of the first that passes a test.
use Rattle.std.proofs.Common.{◌≡◌, ◌+◌, ◌<◌, ℕ, List, [], ◌∷◌, ◌++◌, length, take, get_or, refl, sym, ◌∙◌, ap, arith}
use Rattle.std.specs.Prelude.{◌==◌, Bool, true, false, cond, nat_lt, Some, None, if◌then◌else◌, find, option_and_then, position, slice_get}
use Rattle.std.specs.List.{position_from, position_or_len}
use Rattle.std.specs.Option.{option_or}
use Rattle.std.proofs.lemmas.Bool.{ltb-false}
use Rattle.std.proofs.lemmas.Grind.{common_steps}
use Rattle.std.proofs.lemmas.Iterator.Adapters.{position_from-zero}
use Rattle.std.proofs.lemmas.List.{take_more}
use Rattle.std.proofs.lemmas.List.Folds.{find_at}
use Rattle.std.proofs.lemmas.Option.{slice_get_past}
use Rattle.mj_schema.specs.declared.rows.MethodRow.{MethodRow}

from_more : {X : Type 0} (p : X → Bool) (i : ℕ) (xs : List X) (x : X)
    → position_from p i (xs ++ x ∷ []) ≡ option_or (position_from p i xs) (if p x then Some (i + length xs) else None)
from_more p i [] x = let e : i + 0 ≡ i = omega arith in rw e refl
from_more {X} p i (y ∷ ys) x = go (p y) (from_more p (i + 1) ys x)
  where
    go : (b : Bool) → position_from p (i + 1) (ys ++ x ∷ []) ≡ option_or (position_from p (i + 1) ys) (if p x then Some (i + 1 + length ys) else None)
        → (if b then Some i else position_from p (i + 1) (ys ++ x ∷ []))
        ≡ option_or (if b then Some i else position_from p (i + 1) ys) (if p x then Some (i + length (y ∷ ys)) else None)
    go true ih = refl
    go false ih = let e : i + length (y ∷ ys) ≡ i + 1 + length ys = omega arith in rw e ih

position_more : {X : Type 0} (p : X → Bool) (xs : List X) (x : X)
    → position p (xs ++ x ∷ []) ≡ option_or (position p xs) (if p x then Some (length xs) else None)
position_more p xs x =
    let none_before : 0 + length xs ≡ length xs = omega arith in
    let more = rw none_before at (from_more p 0 xs x) in
    position_from-zero p (xs ++ x ∷ []) ∙ (more ∙ ap (λ o. option_or o (if p x then Some (length xs) else None)) (sym (position_from-zero p xs)))

-- in a front that is longer by one: as before, or else the last place where that passes
pub position_next : {X : Type 0} (p : X → Bool) (xs : List X) (n : ℕ) (d : X) → n < length xs
    → position p (take (n + 1) xs) ≡ option_or (position p (take n xs)) (if p (get_or xs n d) then Some n else None)
position_next {X} p xs n d lt =
    let counted : length (take n xs) ≡ n = grind (arith, common_steps) in
    ap (λ (l : List X). position p l) (take_more xs n d lt)
    ∙ (position_more p (take n xs) (get_or xs n d)
    ∙ ap (λ (k : ℕ). option_or (position p (take n xs)) (if p (get_or xs n d) then Some k else None)) counted)

pub method_next : (q : ℕ) (ms : List MethodRow) (n : ℕ) (d : MethodRow) → n < length ms
    → position (λ (method : MethodRow). method.ordinal == q) (take (n + 1) ms)
    ≡ option_or (position (λ (method : MethodRow). method.ordinal == q) (take n ms)) (if (get_or ms n d).ordinal == q then Some n else None)
method_next q ms n d lt = position_next (λ (method : MethodRow). method.ordinal == q) ms n d lt

-- before the first nothing passes
pub none_placed : {X : Type 0} (p : X → Bool) (xs : List X) → position p (take 0 xs) ≡ None
none_placed p [] = refl
none_placed p (x ∷ xs) = refl

-- what stands at the place is the first that passes
pub at_place : {X : Type 0} (p : X → Bool) (xs : List X) → option_and_then (slice_get xs) (position p xs) ≡ find p xs
at_place p xs = go (nat_lt (position_or_len p xs) (length xs)) refl ∙ sym (find_at p xs)
  where
    go : (b : Bool) → nat_lt (position_or_len p xs) (length xs) ≡ b
        → option_and_then (slice_get xs) (cond b (Some (position_or_len p xs)) None) ≡ slice_get xs (position_or_len p xs)
    go true e = refl
    go false e = sym (slice_get_past xs (position_or_len p xs) (ltb-false (position_or_len p xs) (length xs) e))
