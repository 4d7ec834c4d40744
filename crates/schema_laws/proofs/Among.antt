-- What is among a list.
use Rattle.std.proofs.Common.{◌≡◌, ℕ, zero, suc, List, [], ◌∷◌, ◌++◌, refl, sym, ap, subst, inl, inr, map}
use Rattle.std.specs.Prelude.{◌⊎◌, Bool, true, false, ◌&&◌, slice_get, Some}
use Rattle.std.specs.List.{flat_map, list_all, AllByRecursion}
use Rattle.std.proofs.lemmas.Option.{same_Some, none-some}

-- it is one of these
abbrev pub IsAmong : {A : Type 0} → List A → A → Type 0
IsAmong [] one = ⊥
IsAmong (other ∷ others) one = (other ≡ one) ⊎ IsAmong others one

-- lists behind one another

pub among_front : {A : Type 0} (xs ys : List A) (one : A) → IsAmong xs one → IsAmong (xs ++ ys) one
among_front [] ys one among = absurd among
among_front (x ∷ xs) ys one (inl same) = inl same
among_front (x ∷ xs) ys one (inr among) = inr (among_front xs ys one among)

pub among_back : {A : Type 0} (xs ys : List A) (one : A) → IsAmong ys one → IsAmong (xs ++ ys) one
among_back [] ys one among = among
among_back (x ∷ xs) ys one among = inr (among_back xs ys one among)

-- what comes of a list

pub among_map : {A B : Type 0} (f : A → B) (xs : List A) (one : A) → IsAmong xs one → IsAmong (map f xs) (f one)
among_map f [] one among = absurd among
among_map f (x ∷ xs) one (inl same) = inl (ap f same)
among_map f (x ∷ xs) one (inr among) = inr (among_map f xs one among)

pub among_flat : {A B : Type 0} (f : A → List B) (xs : List A) (x : A) (one : B) → IsAmong xs x → IsAmong (f x) one → IsAmong (flat_map f xs) one
among_flat f [] x one among is = absurd among
among_flat f (y ∷ ys) x one (inl same) is = among_front (f y) (flat_map f ys) one (subst (λ z. IsAmong (f z) one) (sym same) is)
among_flat f (y ∷ ys) x one (inr among) is = among_back (f y) (flat_map f ys) one (among_flat f ys x one among is)

-- places

pub among_at : {A : Type 0} (xs : List A) (k : ℕ) (one : A) → slice_get xs k ≡ Some one → IsAmong xs one
among_at [] k one e = absurd (none-some one e)
among_at (x ∷ xs) zero one e = inl (same_Some x one e)
among_at (x ∷ xs) (suc k) one e = inr (among_at xs k one e)

-- it stands somewhere
pub record HasPlace {A : Type 0} (xs : List A) (one : A) : Type 0 where
  pub place : ℕ
  pub is : slice_get xs place ≡ Some one

pub place_of : {A : Type 0} (xs : List A) (one : A) → IsAmong xs one → HasPlace xs one
place_of [] one among = absurd among
place_of (x ∷ xs) one (inl same) = record { place = zero; is = ap Some same }
place_of (x ∷ xs) one (inr among) = let p = place_of xs one among in record { place = suc p.place; is = p.is }

-- what holds of all

both_true : (one two : Bool) → (one && two) ≡ true → (one ≡ true) × (two ≡ true)
both_true true two e = (refl, e)
both_true false two e = absurd cc

pub all_at : {A : Type 0} (test : A → Bool) (xs : List A) (one : A) → list_all test xs ≡ true → IsAmong xs one → test one ≡ true
all_at test [] one e among = absurd among
all_at test (x ∷ xs) one e (inl same) = subst (λ y. test y ≡ true) same (both_true (test x) (list_all test xs) e).0
all_at test (x ∷ xs) one e (inr among) = all_at test xs one (both_true (test x) (list_all test xs) e).1 among

pub each_where : {A : Type 0} (Good : A → Type 0) (xs : List A) → ((x : A) → IsAmong xs x → Good x) → AllByRecursion Good xs
each_where Good [] each = tt
each_where Good (x ∷ xs) each = (each x (inl refl), each_where Good xs (λ y among. each y (inr among)))

pub each_at : {A : Type 0} (Good : A → Type 0) (xs : List A) (one : A) → AllByRecursion Good xs → IsAmong xs one → Good one
each_at Good [] one all among = absurd among
each_at Good (x ∷ xs) one all (inl same) = subst Good same all.0
each_at Good (x ∷ xs) one all (inr among) = each_at Good xs one all.1 among

pub each_append : {A : Type 0} (Good : A → Type 0) (xs ys : List A) → AllByRecursion Good xs → AllByRecursion Good ys → AllByRecursion Good (xs ++ ys)
each_append Good [] ys all more = more
each_append Good (x ∷ xs) ys all more = (all.0, each_append Good xs ys all.1 more)
