-- Lists of which all have a property.
use Rattle.std.proofs.Common.{◌≡◌, ◌<◌, ℕ, zero, suc, ◌+◌, Bool, true, false, List, [], ◌∷◌, ◌++◌, take, drop, subst, arith, inl, inr}
use Rattle.std.specs.Prelude.{map, filter, if◌then◌else◌, reverse, Option, Some, None, option_and_then, find, slice_get}
use Rattle.std.specs.Option.{option_map}
use Rattle.std.proofs.lemmas.List.{reverse-reverse}
use mathlib.Core.List.{reverse_aux}
use Rattle.std.specs.List.{flat_map, AllByRecursion}
use Rattle.handle_table.specs.declared.thing.Thing.{Thing}
use Rattle.handle_table.specs.Things.{has, same}
use Rattle.handle_table.proofs.ThingsLemmas.{same-true, same-refl, or_left, or_right, or_cases}
use Rattle.bind_model.specs.Laws.{up_from}
use Rattle.history_reader.specs.Printable.{AreAll}

pub all_both : {A : Type 0} (P : A → Type 0) (xs ys : List A) → AreAll P xs → AreAll P ys → AreAll P (xs ++ ys)
all_both P [] ys a b = b
all_both P (x ∷ xs) ys a b = (a.0, all_both P xs ys a.1 b)

pub all_mapped : {A B : Type 0} (P : A → Type 0) (Q : B → Type 0) (f : A → B) → ((x : A) → P x → Q (f x)) → (xs : List A) → AreAll P xs
    → AreAll Q (map f xs)
all_mapped P Q f h [] a = tt
all_mapped P Q f h (x ∷ xs) a = (h x a.0, all_mapped P Q f h xs a.1)

pub all_dropped : {A : Type 0} (P : A → Type 0) (n : ℕ) (xs : List A) → AreAll P xs → AreAll P (drop n xs)
all_dropped P zero xs a = a
all_dropped P (suc n) [] a = tt
all_dropped P (suc n) (x ∷ xs) a = all_dropped P n xs a.1

pub all_taken : {A : Type 0} (P : A → Type 0) (n : ℕ) (xs : List A) → AreAll P xs → AreAll P (take n xs)
all_taken P zero xs a = tt
all_taken P (suc n) [] a = tt
all_taken P (suc n) (x ∷ xs) a = (a.0, all_taken P n xs a.1)

pub all_filtered : {A : Type 0} (P : A → Type 0) (p : A → Bool) (xs : List A) → AreAll P xs → AreAll P (filter p xs)
all_filtered P p [] a = tt
all_filtered {A} P p (x ∷ xs) a = go (p x) (all_filtered P p xs a.1)
  where
    go : (b : Bool) → AreAll P (filter p xs) → AreAll P (if b then x ∷ filter p xs else filter p xs)
    go true rest = (a.0, rest)
    go false rest = rest

pub all_flat : {A B : Type 0} (P : A → Type 0) (Q : B → Type 0) (f : A → List B) → ((x : A) → P x → AreAll Q (f x)) → (xs : List A) → AreAll P xs
    → AreAll Q (flat_map f xs)
all_flat P Q f h [] a = tt
all_flat P Q f h (x ∷ xs) a = all_both Q (f x) (flat_map f xs) (h x a.0) (all_flat P Q f h xs a.1)

-- numbers from one on
pub all_up : (P : ℕ → Type 0) (first n : ℕ) → ((k : ℕ) → k < first + n → P k) → AreAll P (up_from first n)
all_up P first zero h = tt
all_up P first (suc n) h = (h first (omega arith), all_up P (suc first) n (λ k s. h k (omega (arith, s))))

-- things that stand in a list
pub all_standing : (P : Thing → Type 0) (xs : List Thing) → ((z : Thing) → has xs z ≡ true → P z) → AreAll P xs
all_standing P [] h = tt
all_standing P (x ∷ xs) h = (
  h x (or_left (same x x) (has xs x) (same-refl x)),
  all_standing P xs (λ z e. h z (or_right (same x z) (has xs z) e)),
)

pub standing : (P : Thing → Type 0) (xs : List Thing) → AreAll P xs → (z : Thing) → has xs z ≡ true → P z
standing P [] a z e = absurd cc
standing P (x ∷ xs) a z e = elim (or_cases (same x z) (has xs z) e) [
  | inl s ↦ rw (← same-true x z s) a.0
  | inr s ↦ standing P xs a.1 z s
]

pub all_onto : {A : Type 0} (P : A → Type 0) (xs ys : List A) → AreAll P xs → AreAll P ys → AreAll P (reverse_aux xs ys)
all_onto P [] ys a b = b
all_onto P (x ∷ xs) ys a b = all_onto P xs (x ∷ ys) a.1 (a.0, b)

pub all_reversed : {A : Type 0} (P : A → Type 0) (xs : List A) → AreAll P xs → AreAll P (reverse xs)
all_reversed P xs a = all_onto P xs [] a tt

-- the same the other way round
pub all_back : {A : Type 0} (P : A → Type 0) (xs : List A) → AreAll P (reverse xs) → AreAll P xs
all_back {A} P xs a = subst (λ (ys : List A). AreAll P ys) (reverse-reverse xs) (all_reversed P (reverse xs) a)

-- ## Where there is one

-- it has the property, where there is one
abbrev pub If : {A : Type 0} → (A → Type 0) → Option A → Type 0
If P None = Unit {0}
If P (Some x) = P x

pub if_then : {A B : Type 0} (P : A → Type 0) (Q : B → Type 0) (f : A → Option B) → ((x : A) → P x → If Q (f x)) → (o : Option A) → If P o
    → If Q (option_and_then f o)
if_then P Q f h None i = tt
if_then P Q f h (Some x) i = h x i

pub if_map : {A B : Type 0} (P : A → Type 0) (Q : B → Type 0) (f : A → B) → ((x : A) → P x → Q (f x)) → (o : Option A) → If P o → If Q (option_map f o)
if_map P Q f h None i = tt
if_map P Q f h (Some x) i = h x i

pub if_found : {A : Type 0} (P : A → Type 0) (p : A → Bool) (xs : List A) → AreAll P xs → If P (find p xs)
if_found P p [] a = tt
if_found {A} P p (x ∷ xs) a = go (p x) (if_found P p xs a.1)
  where
    go : (b : Bool) → If P (find p xs) → If P (if b then Some x else find p xs)
    go true rest = a.0
    go false rest = rest

pub if_got : {A : Type 0} (P : A → Type 0) (xs : List A) (n : ℕ) → AreAll P xs → If P (slice_get xs n)
if_got P [] n a = tt
if_got P (x ∷ xs) zero a = a.0
if_got P (x ∷ xs) (suc n) a = if_got P xs n a.1

-- the same as one's own recursion says
pub all_of : {A : Type 0} (P : A → Type 0) (xs : List A) → AllByRecursion P xs → AreAll P xs
all_of P [] a = tt
all_of P (x ∷ xs) a = (a.0, all_of P xs a.1)
