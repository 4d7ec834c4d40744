-- The texts of words that are known beforehand, both ways.
use Rattle.std.proofs.Common.{◌≡◌, ℕ, zero, suc, ◌∷◌, [], List, Some, inl, inr, refl, sym, ap, ◌∙◌, subst}
use Rattle.std.specs.Prelude.{slice_get}
use Rattle.byte_rules.specs.Among.{IsAmong, among_words}
use Rattle.line_parts.specs.Keywords.{keyword, word}
use Rattle.line_parts.specs.Printable.{AreAll}
use Rattle.line_parts.proofs.BothWays.{HasTexts, Is, texts_as, texts_words, texts_map}

pub among_at : {A : Type 0} (xs : List A) (n : ℕ) (x : A) → slice_get xs n ≡ Some x → IsAmong x xs
among_at [] n x e = absurd (cc)
among_at (y ∷ ys) zero x e = inl (sym (of e))
  where
    of : Some y ≡ Some x → y ≡ x
    of e = cc
among_at (y ∷ ys) (suc n) x e = inr (among_at ys n x e)

pub one_of : {A : Type 0} (P : A → Type 0) (xs : List A) (x : A) → AreAll P xs → IsAmong x xs → P x
one_of P [] x h i = absurd i
one_of P (y ∷ ys) x h (inl s) = subst P (sym s) h.0
one_of P (y ∷ ys) x h (inr i) = one_of P ys x h.1 i

-- an entry of a table and its word
abbrev Entry : {A : Type 0} → List (A × List ℕ) → A × List ℕ → List ℕ → Type 0
Entry table entry w = IsAmong entry table × (w ≡ entry.1)

-- a table in which each value of a type has its text
pub texts_keyword : {A : Type 0} (text : A → List ℕ) (table : List (A × List ℕ)) → AreAll (λ (entry : A × List ℕ). entry.1 ≡ text entry.0) table
    → ((x : A) → IsAmong (x, text x) table) → HasTexts (Is (λ (x : A). Unit {0}) text) (keyword table)
texts_keyword {A} text table each all = texts_as there back (texts_map (λ (entry : A × List ℕ). entry.0)
    (texts_words (among_words (λ (entry : A × List ℕ). entry.1) table)))
  where
    there : (x : A) (w : List ℕ) → (entry : A × List ℕ) × Entry table entry w × (entry.0 ≡ x) → Is (λ (x : A). Unit {0}) text x w
    there x w h = (tt, h.1.1 ∙ one_of (λ (entry : A × List ℕ). entry.1 ≡ text entry.0) table h.0 each h.1.0 ∙ ap text h.2)

    back : (x : A) (w : List ℕ) → Is (λ (x : A). Unit {0}) text x w → (entry : A × List ℕ) × Entry table entry w × (entry.0 ≡ x)
    back x w h = ((x, text x), (all x, h.1), refl)

-- a table of some values of a type
pub texts_some_keyword : {A : Type 0} (text : A → List ℕ) (table : List (A × List ℕ)) → AreAll (λ (entry : A × List ℕ). entry.1 ≡ text entry.0) table
    → HasTexts (Is (λ (x : A). IsAmong (x, text x) table) text) (keyword table)
texts_some_keyword {A} text table each = texts_as there back (texts_map (λ (entry : A × List ℕ). entry.0)
    (texts_words (among_words (λ (entry : A × List ℕ). entry.1) table)))
  where
    there : (x : A) (w : List ℕ) → (entry : A × List ℕ) × Entry table entry w × (entry.0 ≡ x) → Is (λ (x : A). IsAmong (x, text x) table) text x w
    there x w h =
        let t : h.0.1 ≡ text h.0.0 = one_of (λ (entry : A × List ℕ). entry.1 ≡ text entry.0) table h.0 each h.1.0 in
        let e : h.0 ≡ (x, text x) = ap (λ (w : List ℕ). (h.0.0, w)) t ∙ ap (λ (y : A). (y, text y)) h.2 in
        (subst (λ (entry : A × List ℕ). IsAmong entry table) e h.1.0, h.1.1 ∙ ap (λ (entry : A × List ℕ). entry.1) e)

    back : (x : A) (w : List ℕ) → Is (λ (x : A). IsAmong (x, text x) table) text x w → (entry : A × List ℕ) × Entry table entry w × (entry.0 ≡ x)
    back x w h = ((x, text x), (h.0, h.1), refl)

pub texts_word : (text : List ℕ) → HasTexts (Is (λ (u : Unit {0}). Unit {0}) (λ u. text)) (word text)
texts_word text = texts_keyword (λ (u : Unit {0}). text) ((tt, text) ∷ []) (refl, tt) (λ u. inl refl)
