-- An ordered map of numbers holds what was put there along these numbers.
use Rattle.std.proofs.Common.{◌≡◌, ℕ, List, [], ◌∷◌, refl, ap, sym, map, ◌∙◌}
use Rattle.std.specs.Prelude.{Bool, true, false, nat_lt, ◌==◌, if◌then◌else◌}
use Rattle.std.specs.List.{fold}
use Rattle.std.specs.Map.{values_of}
use Rattle.std.specs.Ordering.{nat_cmp, match_ordering}
use Rattle.std.specs.declared.cmp.Ordering.TheVariants.{Less, Equal, Greater}
use Rattle.std.specs.BTreeMap.{insert_entry}
use Rattle.std.proofs.lemmas.Bool.Decides.{Decides-eqb}
use Rattle.kind_scope.specs.Members.{place, along}

-- each under its number
abbrev pub keyed : {A : Type 0} → (A → ℕ) → List A → List (ℕ × A)
keyed number xs = map (λ one. (number one, one)) xs

abbrev chosen : {X : Type 0} → Bool → Bool → X → X → X → X
chosen less equal a b c = match_ordering (if less then Less else (if equal then Equal else Greater)) a b c

step : {A : Type 0} (number : A → ℕ) (y : A) (ys : List A) (x : A) (rest : List (ℕ × A)) (less equal : Bool)
    → (equal ≡ true → number x ≡ number y) → rest ≡ keyed number (place number ys x)
    → chosen less equal ((number x, x) ∷ (number y, y) ∷ keyed number ys) ((number y, x) ∷ keyed number ys) ((number y, y) ∷ rest)
    ≡ keyed number (if less then x ∷ y ∷ ys else (if equal then x ∷ ys else y ∷ place number ys x))
step number y ys x rest true equal same e = refl
step number y ys x rest false true same e = ap (λ k. (k, x) ∷ keyed number ys) (sym (same refl))
step number y ys x rest false false same e = ap (λ r. (number y, y) ∷ r) e

pub placed : {A : Type 0} (number : A → ℕ) (xs : List A) (x : A)
    → insert_entry nat_cmp (keyed number xs) (number x) x ≡ keyed number (place number xs x)
placed number [] x = refl
placed number (y ∷ ys) x =
    step number y ys x (insert_entry nat_cmp (keyed number ys) (number x) x) (nat_lt (number x) (number y)) (number x == number y)
    (Decides-eqb (number x) (number y)).0 (placed number ys x)

pub values_of-keyed : {A : Type 0} (number : A → ℕ) (xs : List A) → values_of (keyed number xs) ≡ xs
values_of-keyed number [] = refl
values_of-keyed number (x ∷ xs) = ap (λ rest. x ∷ rest) (values_of-keyed number xs)

place_seen : {A B : Type 0} (view : A → B) (number : B → ℕ) (y : A) (ys : List A) (x : A) (rest : List B) (less equal : Bool)
    → map view (place (λ a. number (view a)) ys x) ≡ rest
    → map view (if less then x ∷ y ∷ ys else (if equal then x ∷ ys else y ∷ place (λ a. number (view a)) ys x))
    ≡ (if less then view x ∷ view y ∷ map view ys else (if equal then view x ∷ map view ys else view y ∷ rest))
place_seen view number y ys x rest true equal e = refl
place_seen view number y ys x rest false true e = refl
place_seen view number y ys x rest false false e = ap (λ r. view y ∷ r) e

map-place : {A B : Type 0} (view : A → B) (number : B → ℕ) (xs : List A) (x : A)
    → map view (place (λ a. number (view a)) xs x) ≡ place number (map view xs) (view x)
map-place view number [] x = refl
map-place view number (y ∷ ys) x =
    place_seen view number y ys x (place number (map view ys) (view x)) (nat_lt (number (view x)) (number (view y))) (number (view x) == number (view y))
    (map-place view number ys x)

map-fold : {A B : Type 0} (view : A → B) (number : B → ℕ) (before xs : List A)
    → map view (fold (place (λ a. number (view a))) before xs) ≡ fold (place number) (map view before) (map view xs)
map-fold view number before [] = refl
map-fold view number before (x ∷ xs) =
    map-fold view number (place (λ a. number (view a)) before x) xs ∙ ap (λ b. fold (place number) b (map view xs)) (map-place view number before x)

pub map-along : {A B : Type 0} (view : A → B) (number : B → ℕ) (xs : List A)
    → map view (along (λ a. number (view a)) xs) ≡ along number (map view xs)
map-along view number xs = map-fold view number [] xs
