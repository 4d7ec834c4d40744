-- The texts of a rule again and again, and then another rule, both ways.
use Rattle.std.proofs.Common.{◌≡◌, ℕ, zero, suc, ◌++◌, ◌∷◌, [], inl, inr, List, Bool, refl, sym, ap, ◌∙◌, subst, append_assoc}
use Rattle.byte_rules.specs.Lang.{Lang, Whole, as_value}
use Rattle.byte_rules.proofs.Parts.{Parts}
use Rattle.byte_rules.proofs.Shown.{Shown}
use Rattle.line_parts.specs.Series.{in_front, at_most, series}
use Rattle.line_parts.proofs.BothWays.{HasTexts, Is}

module _ {S A B : Type 0} (ends : ℕ → Bool) (one : S → Lang A) (next : S → A → S) (last : Lang B) {ok : S → A → Type 0} {text : S → A → List ℕ}
    {fine : B → Type 0} {spelled : B → List ℕ} (rounds : (s : S) → HasTexts (Is (ok s) (text s)) (one s)) (stops : HasTexts (Is fine spelled) last) where
  -- each is fine where it stands
  abbrev pub Run : S → List A → Type 0
  Run s [] = Unit {0}
  Run s (x ∷ xs) = ok s x × Run (next s x) xs

  -- their texts
  abbrev pub run : S → List A → List ℕ
  run s [] = []
  run s (x ∷ xs) = text s x ++ run (next s x) xs

  -- each is fine where it stands, and so is what ends them
  abbrev Fine : S → List A × B → Type 0
  Fine s r = Run s r.0 × fine r.1

  -- the text of all, and of what ends them
  abbrev spell : S → List A × B → List ℕ
  spell s r = run s r.0 ++ spelled r.1

  from_last : (s : S) (K : List A × B → List ℕ → Type 0) (p : List ℕ) → last.followed Whole (λ y. K ([], y)) p
      → (r : List A × B) × (w : List ℕ) × (q : List ℕ) × Is (Fine s) (spell s) r w × (p ≡ w ++ q) × K r q
  from_last s K p h = let k = stops.from (λ y. K ([], y)) p h in (([], k.0), k.1, k.2, ((tt, k.3.0), k.3.1), k.4, k.5)

  from_at : (n : ℕ) (s : S) → Parts (Is (Fine s) (spell s)) (at_most ends one next last n s)
  unfolding at_most
  from_at zero s K p h = from_last s K p h
  from_at (suc n) s K p (inl h) = from_last s K p h
  from_at (suc n) s K p (inr h) =
      let k = (rounds s).from (λ x. (as_value (in_front x) (at_most ends one next last n (next s x))).followed Whole K) p h in
      let l = from_at n (next s k.0) (λ r. K (in_front k.0 r)) k.2 k.5 in (
        in_front k.0 l.0,
        k.1 ++ l.1,
        l.2,
        (
          ((k.3.0, l.3.0.0), l.3.0.1),
          ap (λ (v : List ℕ). v ++ l.1) k.3.1 ∙ ap (λ (v : List ℕ). text s k.0 ++ v) l.3.1
              ∙ sym (append_assoc (text s k.0) (run (next s k.0) l.0.0) (spelled l.0.1)),
        ),
        k.4 ∙ ap (λ (v : List ℕ). k.1 ++ v) l.4
            ∙ sym (append_assoc k.1 l.1 l.2),
        l.5,
      )

  -- with so many rounds
  rounds_of : List A → ℕ
  rounds_of [] = zero
  rounds_of (x ∷ xs) = suc (rounds_of xs)

  to_at : (s : S) (xs : List A) (y : B) → Run s xs → fine y → Shown (at_most ends one next last (rounds_of xs) s) (xs, y) (run s xs ++ spelled y)
  unfolding at_most rounds_of
  to_at s [] y h f m K q k = stops.to y (spelled y) (f, refl) m (λ y. K ([], y)) q k
  to_at s (x ∷ xs) y h f m K q k =
      let rest = run (next s x) xs ++ spelled y in
      let goes = as_value (in_front x) (at_most ends one next last (rounds_of xs) (next s x)) in
      subst (λ (l : List ℕ). (at_most ends one next last (suc (rounds_of xs)) s).followed m K l)
      (sym (ap (λ (l : List ℕ). l ++ q) (append_assoc (text s x) (run (next s x) xs) (spelled y)) ∙ append_assoc (text s x) rest q))
      (inr ((rounds s).to x (text s x) (h.0, refl) m (λ x. (as_value (in_front x) (at_most ends one next last (rounds_of xs) (next s x))).followed m K)
      (rest ++ q) (to_at (next s x) xs y h.1 f m (λ r. K (in_front x r)) q k)))

  pub texts_series : (s : S) → HasTexts (Is (λ (r : List A × B). Run s r.0 × fine r.1) (λ (r : List A × B). run s r.0 ++ spelled r.1))
      (series ends one next last s)
  texts_series s = record {
    from = λ K p h. from_at h.0 s K p h.1;
    to = λ r w h. subst (λ (l : List ℕ). Shown (series ends one next last s) r l) (sym h.1)
        (λ m K q k. (rounds_of r.0, to_at s r.0 r.1 h.0.0 h.0.1 m K q k));
  }
