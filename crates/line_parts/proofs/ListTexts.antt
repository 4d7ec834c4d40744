-- The texts of lists, both ways.
use Rattle.std.proofs.Common.{◌≡◌, ℕ, ◌++◌, ◌∷◌, [], ◌⊎◌, inl, inr, List, refl, sym, ap, ◌∙◌, subst, append_assoc}
use Rattle.std.specs.List.{flat_map}
use Rattle.byte_rules.specs.Lang.{Lang, as_value, closed, ◌then◌, ◌▸◌, many, listed}
use Rattle.history_text.specs.History.{things_text, pendings_text, list_text}
use Rattle.line_parts.specs.Signs.{opens, closes}
use Rattle.line_parts.specs.Lists.{things, pendings}
use Rattle.line_parts.specs.Printable.{IsThing, IsPending, AreAll}
use Rattle.line_parts.proofs.BothWays.{HasTexts, Is, texts_as, texts_closed, texts_before, texts_value, texts_follow, texts_choice, texts_fine, texts_many}
use Rattle.line_parts.proofs.IdTexts.{texts_thing, texts_pending}

module _ {A : Type 0} {ok : A → Type 0} {text : A → List ℕ} {one : Lang A} (t : HasTexts (Is ok text) one) where
  -- what stands behind the first
  abbrev behind : List A → List ℕ
  behind xs = flat_map (λ (x : A). 44 ∷ text x) xs ++ closes ∷ []

  -- all behind the bracket
  abbrev body : List A → List ℕ
  body [] = closes ∷ []
  body (x ∷ xs) = text x ++ behind xs

  -- one at least
  abbrev Some : List A → Type 0
  Some [] = ⊥
  Some (x ∷ xs) = ok x × AreAll ok xs

  -- items behind commas, up to the bracket
  abbrev more : Lang (List A)
  more = many closes (44 ▸ one)

  texts_more : HasTexts (Is (AreAll ok) behind) more
  texts_more = texts_many closes (texts_before 44 t)

  -- the text behind the first item
  abbrev after : List A → List ℕ
  after [] = []
  after (x ∷ xs) = behind xs

  texts_after : (x : A) → HasTexts (Is (λ (xs : List A). (ys : List A) × (xs ≡ x ∷ ys) × AreAll ok ys) after) (as_value (λ ys. x ∷ ys) more)
  texts_after x = texts_value (λ ys. x ∷ ys) (λ (xs : List A). (ys : List A) × (xs ≡ x ∷ ys) × AreAll ok ys) after (λ ys h. (ys, refl, h)) (λ ys h. refl)
      (λ xs h. (h.0, h.2, sym h.1)) texts_more

  -- a first item, and those behind it
  abbrev Begun : List A → List ℕ → Type 0
  Begun xs w = (x : A) × ok x × ((ys : List A) × (xs ≡ x ∷ ys) × AreAll ok ys) × (w ≡ text x ++ after xs)

  some_from : (xs : List A) (w : List ℕ) → Begun xs w → Is Some body xs w
  some_from xs w h = subst (λ (l : List A). Is Some body l w) (sym h.2.1)
      ((h.1, h.2.2), h.3 ∙ ap (λ (l : List A). text h.0 ++ after l) h.2.1)

  some_to : (xs : List A) (w : List ℕ) → Is Some body xs w → Begun xs w
  some_to [] w h = absurd h.0
  some_to (x ∷ xs) w h = (x, h.0.0, (xs, refl, h.0.1), h.1)

  texts_some : HasTexts (Is Some body) (one then λ x. as_value (λ xs. x ∷ xs) more)
  texts_some = texts_as some_from some_to (texts_follow t (λ x k. texts_after x))

  texts_none : HasTexts (Is (λ (xs : List A). xs ≡ []) body) (closed closes [])
  texts_none = texts_fine (λ xs h. h) (λ xs h. h) (λ xs h. ap body (sym h)) (texts_closed closes [])

  all_of : (xs : List A) → (xs ≡ []) ⊎ Some xs → AreAll ok xs
  all_of [] h = tt
  all_of (x ∷ xs) (inl e) = absurd (cc)
  all_of (x ∷ xs) (inr h) = h

  of_all : (xs : List A) → AreAll ok xs → (xs ≡ []) ⊎ Some xs
  of_all [] h = inl refl
  of_all (x ∷ xs) h = inr h

  joined : (xs : List A) → opens ∷ body xs ≡ list_text text xs
  joined [] = refl
  joined (x ∷ xs) = ap (λ (l : List ℕ). opens ∷ l) (sym (append_assoc (text x) (flat_map (λ (x : A). 44 ∷ text x) xs) (closes ∷ [])))

  pub texts_listed : HasTexts (Is (AreAll ok) (list_text text)) (opens ▸ listed closes one)
  texts_listed = texts_fine all_of of_all (λ xs h. joined xs) (texts_before opens (texts_choice _ texts_none texts_some))

pub texts_things : HasTexts (Is (AreAll IsThing) things_text) things
unfolding things
texts_things = texts_listed texts_thing

pub texts_pendings : HasTexts (Is (AreAll IsPending) pendings_text) pendings
unfolding pendings
texts_pendings = texts_listed texts_pending
