-- Loops over lists, one element more.
use Rattle.std.proofs.Common.{◌≡◌, ℕ, zero, suc, ◌+◌, ◌<◌, List, [], ◌∷◌, ◌++◌, length, drop, get_or, Option, Some, None, refl, sym, ap, ◌∙◌, append_assoc, arith}
use Rattle.std.specs.List.{flat_map}
use Rattle.std.specs.Option.{option_or}
use Rattle.compat_model.specs.Members.{first_found}

pub drop_next : {A : Type 0} (xs : List A) (i : ℕ) (d : A) → i < length xs → drop i xs ≡ get_or xs i d ∷ drop (i + 1) xs
drop_next [] i d lt = absurd (let bad : ⊥ = omega (arith, lt) in bad)
drop_next (x ∷ xs) zero d lt = refl
drop_next (x ∷ xs) (suc i) d lt = let e : suc i + 1 ≡ suc (i + 1) = omega arith in rw e (drop_next xs i d (omega (arith, lt)))

-- what a loop adds for an element comes before what it adds for those that are left
pub flat_step : {A B : Type 0} (f : A → List B) (done new all : List B) (xs : List A) (i : ℕ) (x d : A) → i < length xs → x ≡ get_or xs i d
    → done ++ flat_map f (drop i xs) ≡ all → new ≡ done ++ f x → new ++ flat_map f (drop (i + 1) xs) ≡ all
flat_step f done new all xs i x d lt is h n =
    rw (n, is) (append_assoc done (f (get_or xs i d)) (flat_map f (drop (i + 1) xs)) ∙ (rw (drop_next xs i d lt) at h))

first_next : {A B : Type 0} (look : A → Option B) (xs : List A) (i : ℕ) (d : A) → i < length xs
    → first_found look (drop i xs) ≡ option_or (look (get_or xs i d)) (first_found look (drop (i + 1) xs))
first_next {A} look xs i d lt = ap (λ (l : List A). first_found look l) (drop_next xs i d lt)

-- where something is found of an element, that is the first of all that was left
pub found_next : {A B : Type 0} (look : A → Option B) (xs : List A) (i : ℕ) (d : A) (all : Option B) (y : B) → i < length xs
    → look (get_or xs i d) ≡ Some y → first_found look (drop i xs) ≡ all → Some y ≡ all
found_next {A} {B} look xs i d all y lt is h =
    sym (ap (λ (o : Option B). option_or o (first_found look (drop (i + 1) xs))) is) ∙ (sym (first_next look xs i d lt) ∙ h)

-- where nothing is, the first of those that are left is that of all that were
pub passed_next : {A B : Type 0} (look : A → Option B) (xs : List A) (i : ℕ) (d : A) (all : Option B) → i < length xs
    → look (get_or xs i d) ≡ None → first_found look (drop i xs) ≡ all → first_found look (drop (i + 1) xs) ≡ all
passed_next {A} {B} look xs i d all lt is h =
    sym (ap (λ (o : Option B). option_or o (first_found look (drop (i + 1) xs))) is) ∙ (sym (first_next look xs i d lt) ∙ h)
