-- Membership in lists, and what is found first of them.
use Rattle.std.proofs.Common.{◌≡◌, Bool, true, false, cond, inl, inr, List, [], ◌∷◌, ◌++◌, map, Option, Some, None, refl, sym, ap, subst, ◌∙◌}
use Rattle.std.specs.Prelude.{◌⊎◌, slice_get, ℕ, zero, suc}
use Rattle.std.specs.List.{flat_map, filter}
use Rattle.std.specs.Option.{option_or}
use Rattle.compat_model.specs.steps.Among.{IsAmong}
use Rattle.compat_model.specs.Members.{first_found, unless}
use Rattle.compat_model.specs.declared.reason.Change.{Change}

pub by_test : (t : Bool) (P : Bool → Type 0) → (t ≡ true → P true) → (t ≡ false → P false) → P t
by_test true P yes_ no_ = yes_ refl
by_test false P yes_ no_ = no_ refl

-- ## Membership

pub left_among : {A : Type 0} (xs ys : List A) (x : A) → IsAmong xs x → IsAmong (xs ++ ys) x
left_among [] ys x h = absurd h
left_among (y ∷ xs) ys x (inl e) = inl e
left_among (y ∷ xs) ys x (inr h) = inr (left_among xs ys x h)

pub right_among : {A : Type 0} (xs ys : List A) (x : A) → IsAmong ys x → IsAmong (xs ++ ys) x
right_among [] ys x h = h
right_among (y ∷ xs) ys x h = inr (right_among xs ys x h)

pub either_among : {A : Type 0} (xs ys : List A) (x : A) → IsAmong (xs ++ ys) x → IsAmong xs x ⊎ IsAmong ys x
either_among [] ys x h = inr h
either_among (y ∷ xs) ys x (inl e) = inl (inl e)
either_among (y ∷ xs) ys x (inr h) = on (either_among xs ys x h)
  where
    on : IsAmong xs x ⊎ IsAmong ys x → IsAmong (y ∷ xs) x ⊎ IsAmong ys x
    on (inl a) = inl (inr a)
    on (inr b) = inr b

pub into_flat : {A B : Type 0} (f : A → List B) (xs : List A) (x : A) (y : B) → IsAmong xs x → IsAmong (f x) y → IsAmong (flat_map f xs) y
into_flat f [] x y h g = absurd h
into_flat f (z ∷ xs) x y (inl e) g = left_among (f z) (flat_map f xs) y (subst (λ w. IsAmong (f w) y) (sym e) g)
into_flat f (z ∷ xs) x y (inr h) g = right_among (f z) (flat_map f xs) y (into_flat f xs x y h g)

one_or_rest : {A B : Type 0} (f : A → List B) (z : A) (xs : List A) (y : B) → IsAmong (f z) y ⊎ IsAmong (flat_map f xs) y
    → (IsAmong (flat_map f xs) y → (x : A) × IsAmong xs x × IsAmong (f x) y) → (x : A) × IsAmong (z ∷ xs) x × IsAmong (f x) y
one_or_rest f z xs y (inl a) go = (z, inl refl, a)
one_or_rest f z xs y (inr b) go = let r = go b in (r.0, inr r.1, r.2)

pub of_flat : {A B : Type 0} (f : A → List B) (xs : List A) (y : B) → IsAmong (flat_map f xs) y → (x : A) × IsAmong xs x × IsAmong (f x) y
of_flat f [] y h = absurd h
of_flat f (z ∷ xs) y h = one_or_rest f z xs y (either_among (f z) (flat_map f xs) y h) (of_flat f xs y)

pub into_map : {A B : Type 0} (f : A → B) (xs : List A) (x : A) → IsAmong xs x → IsAmong (map f xs) (f x)
into_map f [] x h = absurd h
into_map f (y ∷ xs) x (inl e) = inl (ap f e)
into_map f (y ∷ xs) x (inr h) = inr (into_map f xs x h)

one_or_later : {A B : Type 0} (f : A → B) (z : A) (xs : List A) (y : B) → (f z ≡ y) ⊎ IsAmong (map f xs) y
    → (IsAmong (map f xs) y → (x : A) × IsAmong xs x × (f x ≡ y)) → (x : A) × IsAmong (z ∷ xs) x × (f x ≡ y)
one_or_later f z xs y (inl e) go = (z, inl refl, e)
one_or_later f z xs y (inr h) go = let r = go h in (r.0, inr r.1, r.2)

pub of_map : {A B : Type 0} (f : A → B) (xs : List A) (y : B) → IsAmong (map f xs) y → (x : A) × IsAmong xs x × (f x ≡ y)
of_map f [] y h = absurd h
of_map f (z ∷ xs) y h = one_or_later f z xs y h (of_map f xs y)

-- an element of those that pass a test passes it, and is one of all
first_or : {A : Type 0} (t : A → Bool) (y x : A) (ys zs : List A) → t y ≡ true → (IsAmong ys x → (t x ≡ true) × IsAmong zs x) → IsAmong (y ∷ ys) x
    → (t x ≡ true) × IsAmong (y ∷ zs) x
first_or t y x ys zs is go (inl e) = (ap t (sym e) ∙ is, inl e)
first_or t y x ys zs is go (inr g) = let r = go g in (r.0, inr r.1)

pub of_filter : {A : Type 0} (t : A → Bool) (xs : List A) (x : A) → IsAmong (filter t xs) x → (t x ≡ true) × IsAmong xs x
of_filter t [] x h = absurd h
of_filter t (y ∷ xs) x h =
    let go = of_filter t xs x in
    by_test (t y) (λ b. IsAmong (cond b (y ∷ filter t xs) (filter t xs)) x → (t x ≡ true) × IsAmong (y ∷ xs) x)
    (λ is g. first_or t y x (filter t xs) xs is go g) (λ _ g. let r = go g in (r.0, inr r.1)) h

pub into_filter : {A : Type 0} (t : A → Bool) (xs : List A) (x : A) → t x ≡ true → IsAmong xs x → IsAmong (filter t xs) x
into_filter t [] x is h = absurd h
into_filter t (y ∷ xs) x is (inl e) =
    subst (λ (b : Bool). IsAmong (cond b (y ∷ filter t xs) (filter t xs)) x) (sym (ap t e ∙ is)) (inl e)
into_filter t (y ∷ xs) x is (inr h) =
    by_test (t y) (λ b. IsAmong (cond b (y ∷ filter t xs) (filter t xs)) x) (λ _. inr (into_filter t xs x is h)) (λ _. into_filter t xs x is h)

pub found_among : {A : Type 0} (xs : List A) (i : ℕ) (x : A) → slice_get xs i ≡ Some x → IsAmong xs x
found_among [] i x e = absurd cc
found_among (y ∷ ys) zero x e = let same : y ≡ x = cc in inl same
found_among (y ∷ ys) (suc i) x e = inr (found_among ys i x e)

-- ## What is found first

pub both_none : {B : Type 0} (a b : Option B) → option_or a b ≡ None → (a ≡ None) × (b ≡ None)
both_none None b e = (refl, e)
both_none (Some x) b e = absurd cc

-- where nothing is found, nothing is found of any
pub none_found : {A B : Type 0} (look : A → Option B) (xs : List A) (x : A) → first_found look xs ≡ None → IsAmong xs x → look x ≡ None
none_found look [] x e g = absurd g
none_found look (y ∷ ys) x e (inl is) = ap look (sym is) ∙ (both_none (look y) (first_found look ys) e).0
none_found look (y ∷ ys) x e (inr g) = none_found look ys x (both_none (look y) (first_found look ys) e).1 g

pub holds : (b : Bool) (change : Change) → unless b change ≡ None → b ≡ true
holds true change e = refl
holds false change e = absurd cc
