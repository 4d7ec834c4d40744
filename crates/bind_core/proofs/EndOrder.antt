-- The order of ends, and sets of them by it.
use Rattle.std.proofs.Common.{◌≡◌, ℕ, Bool, true, false, List, [], ◌∷◌, refl, sym, ap, ◌∙◌, arith, Less, Equal, Greater}
use Rattle.std.specs.Prelude.{◌==◌, ◌&&◌, ◌||◌, not, nat_lt, cond}
use Rattle.std.specs.List.{AllByRecursion, list_any}
use Rattle.std.specs.List.Sorted.{IsStrictlySortedBy}
use Rattle.std.specs.declared.cmp.Ordering.{Ordering}
use Rattle.std.specs.Ordering.{is_eq, is_lt, nat_cmp, ordering_then}
use Rattle.std.specs.BTreeMap.{is_at}
use Rattle.std.proofs.lemmas.Bool.Decides.{nat_tests}
use Rattle.mj_base.specs.declared.ids.EndId.{EndId}
use Rattle.handle_table.specs.Things.{same_end}
use Rattle.bind_model.specs.Ready.{is_before}
use Rattle.bind_core.specs.EndSets.{has_end}
use Rattle.bind_core.specs.steps.FirstTaken.{Ascends, IsFirst}

-- by sequence, then by number
abbrev pub end_cmp : EndId → EndId → Ordering
end_cmp a b = ordering_then (nat_cmp a.seq b.seq) (nat_cmp a.serial b.serial)

eq_is : (n m : ℕ) → is_eq (nat_cmp n m) ≡ (n == m)
eq_is n m = go (nat_lt n m) (n == m) refl refl
  where
    go : (b c : Bool) → nat_lt n m ≡ b → (n == m) ≡ c → is_eq (cond b Less (cond c Equal Greater)) ≡ c
    go true true e f = absurd (grind (arith, nat_tests, e, f))
    go true false e f = refl
    go false true e f = refl
    go false false e f = refl

lt_is : (n m : ℕ) → is_lt (nat_cmp n m) ≡ nat_lt n m
lt_is n m = go (nat_lt n m) (n == m)
  where
    go : (b c : Bool) → is_lt (cond b Less (cond c Equal Greater)) ≡ b
    go true c = refl
    go false true = refl
    go false false = refl

then_eq : (r s : Ordering) → is_eq (ordering_then r s) ≡ (is_eq r && is_eq s)
then_eq Less s = refl
then_eq Equal s = refl
then_eq Greater s = refl

then_lt : (r s : Ordering) → is_lt (ordering_then r s) ≡ (is_lt r || (is_eq r && is_lt s))
then_lt Less s = refl
then_lt Equal s = refl
then_lt Greater s = refl

-- ends that compare alike are one
pub at_is : (x y : EndId) → is_at (end_cmp x) y ≡ same_end x y
at_is x y = then_eq (nat_cmp x.seq y.seq) (nat_cmp x.serial y.serial) ∙ rw (eq_is x.seq y.seq, eq_is x.serial y.serial) refl

before_is : (x y : EndId) → is_lt (end_cmp x y) ≡ is_before x y
before_is x y = then_lt (nat_cmp x.seq y.seq) (nat_cmp x.serial y.serial) ∙ rw (lt_is x.seq y.seq, eq_is x.seq y.seq, lt_is x.serial y.serial) refl

has_is : (ends : List EndId) (x : EndId) → list_any (is_at (end_cmp x)) ends ≡ has_end ends x
has_is [] x = refl
has_is (y ∷ ends) x = rw (at_is x y, has_is ends x) refl

-- ## Sets that change

pub added : (old new : List EndId) (end : EndId) → ((x : EndId)
    → list_any (is_at (end_cmp x)) new ≡ cond (is_at (end_cmp end) x) true (list_any (is_at (end_cmp x)) old))
    → (x : EndId) → has_end new x ≡ (has_end old x || same_end end x)
added old new end h x = sym (has_is new x) ∙ (h x ∙ rw (at_is end x, has_is old x) (go (same_end end x) (has_end old x)))
  where
    go : (b c : Bool) → cond b true c ≡ (c || b)
    go true true = refl
    go true false = refl
    go false true = refl
    go false false = refl

pub taken_away : (old new : List EndId) (end : EndId) → ((x : EndId)
    → list_any (is_at (end_cmp x)) new ≡ cond (is_at (end_cmp end) x) false (list_any (is_at (end_cmp x)) old))
    → (x : EndId) → has_end new x ≡ (has_end old x && not (same_end end x))
taken_away old new end h x = sym (has_is new x) ∙ (h x ∙ rw (at_is end x, has_is old x) (go (same_end end x) (has_end old x)))
  where
    go : (b c : Bool) → cond b false c ≡ (c && not b)
    go true true = refl
    go true false = refl
    go false true = refl
    go false false = refl

-- ## Sets in order

first_of_less : (x : EndId) (ys : List EndId) → AllByRecursion (λ (y : EndId). end_cmp x y ≡ Less) ys → IsFirst x ys
first_of_less x [] h = tt
first_of_less x (y ∷ ys) h = (sym (before_is x y) ∙ ap (λ (o : Ordering). is_lt o) h.0, first_of_less x ys h.1)

pub ascends : (xs : List EndId) → IsStrictlySortedBy end_cmp xs → Ascends xs
unfolding IsStrictlySortedBy
ascends [] h = tt
ascends (x ∷ xs) h = (first_of_less x xs h.0, ascends xs h.1)
