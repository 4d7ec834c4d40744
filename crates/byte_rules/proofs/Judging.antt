-- The reading of a rule tells of bytes as a whole.
use Rattle.std.proofs.Common.{◌≡◌, ℕ, zero, suc, ◌-◌, ◌≤◌, List, [], ◌∷◌, ◌++◌, length, take, drop, Bool, Ok, Err, inl, inr, refl, sym, ap}
use Rattle.std.proofs.Common.{◌∙◌, subst, arith, length-append}
use Rattle.std.proofs.lemmas.List.{append-nil}
use Rattle.byte_rules.specs.Lang.{Lang, Read, Whole, Begun}
use Rattle.byte_rules.specs.Judged.{Spells, Begins, IsBad}
use Rattle.byte_rules.specs.steps.Reading.{Judges, verdict}
use Rattle.byte_rules.proofs.Tells.{Told}
use Rattle.byte_rules.proofs.Finds.{Free, Outcome}
use Rattle.byte_rules.proofs.Good.{Good}

short_take : (n : ℕ) (f u : List ℕ) → n ≤ length f → take n (f ++ u) ≡ take n f
short_take zero f u le = refl
short_take (suc n) [] u le = absurd (omega (arith, le))
short_take (suc n) (b ∷ bs) u le = ap (λ l. b ∷ l) (short_take n bs u (omega (arith, le)))

glue : (n : ℕ) (ts : List ℕ) → take n ts ++ drop n ts ≡ ts
glue zero ts = refl
glue (suc n) [] = refl
glue (suc n) (b ∷ bs) = ap (λ l. b ∷ l) (glue n bs)

take_length : (n : ℕ) (ts : List ℕ) → n ≤ length ts → length (take n ts) ≡ n
take_length zero ts le = refl
take_length (suc n) [] le = absurd (omega (arith, le))
take_length (suc n) (b ∷ bs) le = ap suc (take_length n bs (omega (arith, le)))

no_front : (q u : List ℕ) → q ++ u ≡ [] → q ≡ []
no_front [] u e = refl
no_front (b ∷ bs) u e = absurd (cc)

abbrev left_in : {A : Type 0} → Read A → ℕ
left_in (Ok x) = length x.1
left_in (Err n) = n

module _ {A : Type 0} {S more : ℕ → Bool} (one : Lang A) (g : Good S more one) where
  free_whole : (x : A) → Free more (λ v rest. (rest ≡ []) × (v ≡ x))
  free_whole x v t ts k = absurd (cc)

  free_begun : Free {A = A} more (λ v rest. rest ≡ [])
  free_begun v t ts k = absurd (cc)

  -- what is spelled is read
  pub reads : (ts : List ℕ) (x : A) → Spells one x ts → one.read ts ≡ Ok (x, [])
  reads ts x h = subst (λ (l : List ℕ). one.read l ≡ Ok (x, [])) (append-nil ts)
      (of (one.read (ts ++ [])) (g.finds Whole (λ v rest. (rest ≡ []) × (v ≡ x)) (free_whole x) ts [] refl h))
    where
      of : (r : Read A) → Outcome Whole (λ v rest. (rest ≡ []) × (v ≡ x)) [] r → r ≡ Ok (x, [])
      of r (inl k) = k.3 ∙ ap (λ (q : List ℕ). Ok (k.0, q ++ [])) k.2.0 ∙ ap (λ (y : A). Ok (y, [])) k.2.1
      of r (inr k) = absurd k

  -- beginnings end before what the reader left
  passed : (ts : List ℕ) (n : ℕ) → n ≤ length ts → Begins one (take n ts) → n ≤ length ts - left_in (one.read ts)
  passed ts n le h =
      let cut : take n ts ++ drop n ts ≡ ts = glue n ts in
      let size : length (take n ts) ≡ n = take_length n ts le in
      of (one.read ts) (subst (λ (l : List ℕ). Outcome Begun (λ v rest. rest ≡ []) (drop n ts) (one.read l)) cut
      (g.finds Begun (λ v rest. rest ≡ []) free_begun (take n ts) (drop n ts) tt h))
      (omega (arith, size, ap length cut, length-append (take n ts) (drop n ts)))
    where
      of : (r : Read A) → Outcome Begun (λ v rest. rest ≡ []) (drop n ts) r → length (drop n ts) ≡ length ts - n → n ≤ length ts - left_in r
      of r (inl k) d = subst (λ (r : Read A). n ≤ length ts - left_in r) (sym (k.3 ∙ ap (λ (q : List ℕ). Ok (k.0, q ++ drop n ts)) k.2))
          (omega (arith, d, le))
      of (Ok y) (inr k) d = omega (arith, d, le, k)
      of (Err m) (inr k) d = omega (arith, d, le, k)

  fronts_begin : (f u : List ℕ) (n : ℕ) → Begins one f → n ≤ length f → Begins one (take n (f ++ u))
  fronts_begin f u n h le = subst (λ (l : List ℕ). Begins one l) (sym (short_take n f u le))
      (g.shortens Begun (λ v rest. rest ≡ []) (λ v rest. rest ≡ []) (λ x q w k. no_front q w k) (take n f) (drop n f)
      (subst (λ (l : List ℕ). Begins one l) (sym (glue n f)) h))

  -- what was gone over is a beginning
  bad : (ts f u : List ℕ) (left : ℕ) → ts ≡ f ++ u → length u ≡ left → Begins one f → left_in (one.read ts) ≡ left
      → ((x : A) → one.read ts ≡ Ok (x, []) → ⊥) → IsBad one ts (length ts - left)
  bad ts f u left e d h l absent =
      let size : length ts - left ≡ length f = omega (arith, ap length e, length-append f u, d) in
      record {
        within = omega arith;
        begins = λ n le. subst (λ (l : List ℕ). Begins one (take n l)) (sym e) (fronts_begin f u n h (omega (arith, size, le)));
        no_more = λ n le k. subst (λ (m : ℕ). n ≤ length ts - m) l (passed ts n le k);
        none = λ x s. absent x (reads ts x s);
      }

  pub judged : (ts : List ℕ) → Judges one ts (verdict (length ts) (one.read ts))
  judged ts = of (one.read ts) refl (g.tells ts)
    where
      of : (r : Read A) → one.read ts ≡ r → Told one ts r → Judges one ts (verdict (length ts) r)
      of (Ok (x, [])) e t = subst (λ (l : List ℕ). Spells one x l) (sym t.1) (t.2 Whole (λ v rest. (rest ≡ []) × (v ≡ x)) [] (refl, refl))
      of (Ok (x, b ∷ bs)) e t = bad ts t.0 (b ∷ bs) (length (b ∷ bs)) t.1 refl
          (subst (λ (l : List ℕ). Begins one l) (append-nil t.0) (t.2 Begun (λ v rest. rest ≡ []) [] refl)) (ap left_in e)
          (λ y k. let f : left_in (one.read ts) ≡ 0 = ap left_in k in let g : left_in (one.read ts) ≡ length (b ∷ bs) = ap left_in e in
          absurd (omega (arith, f, g)))
      of (Err left) e t = bad ts t.0 t.1 left t.2 t.3 (t.4 (λ v rest. rest ≡ [])) (ap left_in e) (λ y k. absurd (cc))

-- what is left is no more than there was
pub no_more_left : (A : Type 0) (S more : ℕ → Bool) (one : Lang A) → Good S more one → (ts : List ℕ) (r : Read A) → one.read ts ≡ r → left_in r ≤ length ts
no_more_left A S more one g ts r e = of r (subst (λ (r : Read A). Told one ts r) e (g.tells ts))
  where
    of : (r : Read A) → Told one ts r → left_in r ≤ length ts
    of (Ok x) t = omega (arith, ap length t.1, length-append t.0 x.1)
    of (Err n) t = omega (arith, ap length t.2, length-append t.0 t.1, t.3)
