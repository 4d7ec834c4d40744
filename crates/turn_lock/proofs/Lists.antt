-- Beginnings, parts and items of lists.
use Rattle.std.proofs.Common.{◌≡◌, ◌≢◌, ◌⊎◌, ℕ, zero, suc, ◌<◌, eqb, ◌++◌, Bool, true, false, true≢false, List, [], ◌∷◌, length, map, if◌then◌else◌, Some, refl, sym, ap, ◌∙◌, subst, inl, inr, ⊎_elim, arith, ne_eqb}
use Rattle.std.specs.Prelude.{slice_get}
use Rattle.std.proofs.lemmas.List.Elements.{filter-append}
use mathlib.Core.Option.{some, some-injective, some-ne-none}
use lib.ListN.{get_elem?}
use Rattle.turn_lock.specs.Lists.{Begins, Each, own}

pub off : {X : Type 0} → false ≡ true → X
off e = absurd (true≢false (sym e))

pub append-nil : {E : Type 0} (xs : List E) → xs ++ [] ≡ xs
append-nil [] = refl
append-nil (x ∷ xs) = ap (λ ys. x ∷ ys) (append-nil xs)

pub begins_itself : {E : Type 0} (xs : List E) → Begins xs xs
begins_itself xs = ([], sym (append-nil xs))

pub begins_nil : {E : Type 0} (xs : List E) → Begins [] xs
begins_nil xs = (xs, refl)

append-assoc : {E : Type 0} (xs ys zs : List E) → (xs ++ ys) ++ zs ≡ xs ++ (ys ++ zs)
append-assoc [] ys zs = refl
append-assoc (x ∷ xs) ys zs = ap (λ l. x ∷ l) (append-assoc xs ys zs)

pub begins_more : {E : Type 0} (xs ys zs : List E) → Begins xs ys → Begins xs (ys ++ zs)
begins_more xs ys zs b = (b.0 ++ zs, ap (λ l. l ++ zs) b.1 ∙ append-assoc xs b.0 zs)

pub begins_then : {E : Type 0} (xs ys zs : List E) → Begins xs ys → Begins ys zs → Begins xs zs
begins_then xs ys zs b c = (b.0 ++ c.0, c.1 ∙ (ap (λ l. l ++ c.0) b.1 ∙ append-assoc xs b.0 c.0))

pub each_map : {X : Type 0} (P Q : X → Type 0) → ((x : X) → P x → Q x) → (xs : List X) → Each P xs → Each Q xs
each_map P Q f [] e = tt
each_map P Q f (x ∷ xs) e = (f x e.0, each_map P Q f xs e.1)

pub each_append : {X : Type 0} (P : X → Type 0) (xs ys : List X) → Each P xs → Each P ys → Each P (xs ++ ys)
each_append P [] ys e f = f
each_append P (x ∷ xs) ys e f = (e.0, each_append P xs ys e.1 f)

pub inside : {X : Type 0} (xs : List X) (i : ℕ) (v : X) → get_elem? xs i ≡ some v → i < length xs
inside [] i v e = absurd (some-ne-none v (sym e))
inside (x ∷ xs) zero v e = omega arith
inside (x ∷ xs) (suc i) v e = let h = inside xs i v e in omega arith

pub each_mapped : {X : Type 0} (P Q : X → Type 0) (f : X → X) → ((x : X) → P x → Q (f x)) → (xs : List X) → Each P xs → Each Q (map f xs)
each_mapped P Q f g [] e = tt
each_mapped P Q f g (x ∷ xs) e = (g x e.0, each_mapped P Q f g xs e.1)

-- the last of a longer list is at its end
pub at_end : {X : Type 0} (l : List X) (a b : X) (j : ℕ) → get_elem? (l ++ a ∷ []) j ≡ some b → (get_elem? l j ≡ some b) ⊎ ((a ≡ b) × (j ≡ length l))
at_end [] a b zero e = inr (some-injective a b e, refl)
at_end [] a b (suc j) e = absurd (some-ne-none b (sym e))
at_end (x ∷ xs) a b zero e = inl e
at_end (x ∷ xs) a b (suc j) e = ⊎_elim (λ h. inl h) (λ (h : (a ≡ b) × (j ≡ length xs)). inr (h.0, ap suc h.1)) (at_end xs a b j e)

pub not_true : (b : Bool) → (b ≡ true → ⊥) → b ≡ false
not_true true n = absurd (n refl)
not_true false n = refl

some_same : {X : Type 0} (a b : X) → Some a ≡ Some b → a ≡ b
some_same a b e = cc

pub own_else : {E : Type 0} (number : E → ℕ) (n : ℕ) (log : List E) (e : E) → number e ≢ n → own number n (log ++ e ∷ []) ≡ own number n log
own_else number n log e not = filter-append (λ x. eqb (number x) n) log (e ∷ [])
    ∙ (ap (λ b. own number n log ++ (if b then e ∷ [] else [])) (ne_eqb (number e) n not) ∙ append-nil (own number n log))

-- of a longer list, an item is there, or the last
pub got_snoc : {X : Type 0} (xs : List X) (a p : X) (k : ℕ) → slice_get (xs ++ a ∷ []) k ≡ Some p → (slice_get xs k ≡ Some p) ⊎ ((a ≡ p) × (k ≡ length xs))
got_snoc [] a p zero e = inr (some_same a p e, refl)
got_snoc [] a p (suc k) e = absurd (cc)
got_snoc (x ∷ xs) a p zero e = inl e
got_snoc (x ∷ xs) a p (suc k) e = ⊎_elim (λ h. inl h) (λ (h : (a ≡ p) × (k ≡ length xs)). inr (h.0, ap suc h.1)) (got_snoc xs a p k e)

pub nothing_got : {X : Type 0} (xs : List X) (k : ℕ) (p : X) → xs ≡ [] → slice_get xs k ≡ Some p → ⊥
nothing_got [] k p e h = absurd (cc)
nothing_got (x ∷ xs) k p e h = absurd (cc)

pub got_front : {X : Type 0} (xs : List X) (a p : X) (k : ℕ) → slice_get xs k ≡ Some p → slice_get (xs ++ a ∷ []) k ≡ Some p
got_front [] a p k e = absurd (cc)
got_front (x ∷ xs) a p zero e = e
got_front (x ∷ xs) a p (suc k) e = got_front xs a p k e

pub got_last : {X : Type 0} (xs : List X) (a : X) → slice_get (xs ++ a ∷ []) (length xs) ≡ Some a
got_last [] a = refl
got_last (x ∷ xs) a = got_last xs a

-- what holds of each item by its number holds of a longer list
pub each_at : {X : Type 0} (F : ℕ → X → Type 0) (xs : List X) (a : X) → ((k : ℕ) (p : X) → slice_get xs k ≡ Some p → F k p) → F (length xs) a
    → (k : ℕ) (p : X) → slice_get (xs ++ a ∷ []) k ≡ Some p → F k p
each_at F [] a all last zero p e = subst (F 0) (some_same a p e) last
each_at F [] a all last (suc k) p e = absurd (cc)
each_at F (x ∷ xs) a all last zero p e = all zero p e
each_at F (x ∷ xs) a all last (suc k) p e = each_at (λ j q. F (suc j) q) xs a (λ j q h. all (suc j) q h) last k p e
