-- The laws of a rule again and again, each time by what came before, and then another rule.
use Rattle.std.proofs.Common.{◌≡◌, ℕ, zero, suc, ◌≤◌, List, [], ◌∷◌, ◌++◌, length, Ok, Err, Bool, true, false, inl, inr, refl, subst, ap, arith}
use Rattle.std.proofs.Common.{length-append}
use Rattle.byte_rules.specs.Lang.{Lang, Mode, Whole, Begun, Read, ◌>>=◌, as_value, ◌then◌}
use Rattle.byte_rules.proofs.Tells.{Told, Tells, tells_value, tells_then, tells_choice}
use Rattle.byte_rules.proofs.Finds.{Opens, Free, Fits, Passes, Outcome, beyond, cut, finds_value}
use Rattle.byte_rules.proofs.Good.{Good, Shortens, Apart, with_starts}
use Rattle.line_parts.specs.Series.{in_front, at_most, series}

passes_on : {A B : Type 0} (m : Mode) (u : List ℕ) (r : Read A) (g : A × List ℕ → Read B)
    → ((x : A × List ℕ) → length x.1 ≤ length u → Passes Begun u (g x)) → Passes m u r → Passes m u (r >>= g)
passes_on Whole u r g h p = absurd p
passes_on Begun u (Ok x) g h p = h x p
passes_on Begun u (Err l) g h p = p

value_outcome : {A B : Type 0} (m : Mode) (K : B → List ℕ → Type 0) (u : List ℕ) (g : A → B) (r : Read A) → Outcome m (λ a. K (g a)) u r
    → Outcome m K u (r >>= λ x. Ok (g x.0, x.1))
value_outcome m K u g r (inl h) = inl (g h.0, h.1, h.2, rw h.3 refl)
value_outcome m K u g r (inr h) = inr (passes_on m u r (λ x. Ok (g x.0, x.1)) (λ x le. le) h)

module _ {S A B : Type 0} (ends first more1 more2 : ℕ → Bool) (one : S → Lang A) (next : S → A → S) (last : Lang B)
    (goes : (s : S) → Good first more1 (one s)) (stops : Good ends more2 last) (apart : Apart first ends)
    (follow : (b : ℕ) → with_starts ends first b ≡ true → more1 b ≡ false) where
  -- at most n, from this state on
  abbrev upto : ℕ → S → Lang (List A × B)
  upto n s = at_most ends one next last n s

  -- none more; one and more
  abbrev end : Lang (List A × B)
  end = as_value (λ (y : B). ([], y)) last

  -- so many more behind this one
  abbrev goes_with : ℕ → S → A → Lang (List A × B)
  goes_with n s x = as_value (in_front x) (upto n (next s x))

  -- one, and so many more
  abbrev going : ℕ → S → Lang (List A × B)
  going n s = one s then goes_with n s

  tells_end : Tells end
  tells_end = tells_value (λ (y : B). ([], y)) last stops.tells

  tells_at : (n : ℕ) (s : S) → Tells (upto n s)
  unfolding at_most
  tells_at zero s ts = tells_end ts
  tells_at (suc n) s ts =
      tells_choice ends end (going n s) tells_end
      (tells_then (one s) (goes_with n s) (goes s).tells (λ x. tells_value (in_front x) (upto n (next s x)) (tells_at n (next s x)))) ts

  told_series : (n : ℕ) (s : S) (ts : List ℕ) (r : Read (List A × B)) → Told (upto n s) ts r → Told (series ends one next last s) ts r
  told_series n s ts (Ok x) t = (t.0, t.1, λ m K q k. (n, t.2 m K q k))
  told_series n s ts (Err l) t = (t.0, t.1, t.2, t.3, λ K. (n, t.4 K))

  tells_series : (s : S) → Tells (series ends one next last s)
  tells_series s ts = told_series (length ts) s ts ((upto (length ts) s).read ts) (tells_at (length ts) s ts)

  shortens_at : (n : ℕ) (s : S) → Shortens (upto n s)
  unfolding at_most
  shortens_at zero s m K L c p u h = stops.shortens m (λ y. K ([], y)) (λ y. L ([], y)) (λ y q v k. c ([], y) q v k) p u h
  shortens_at (suc n) s m K L c p u (inl h) = inl (stops.shortens m (λ y. K ([], y)) (λ y. L ([], y)) (λ y q v k. c ([], y) q v k) p u h)
  shortens_at (suc n) s m K L c p u (inr h) =
      inr ((goes s).shortens m (λ x. (goes_with n s x).followed m K) (λ x. (goes_with n s x).followed Begun L)
      (λ x q v k. shortens_at n (next s x) m (λ r. K (in_front x r)) (λ r. L (in_front x r)) (λ r w v e. c (in_front x r) w v e) q v k) p u h)

  opens_at : (n : ℕ) (s : S) → Opens (with_starts ends first) (upto n s)
  unfolding at_most
  opens_at zero s m K [] h = stops.opens m (λ y. K ([], y)) [] h
  opens_at zero s m K (b ∷ bs) h = let e : ends b ≡ true = stops.opens m (λ y. K ([], y)) (b ∷ bs) h in rw e refl
  opens_at (suc n) s m K [] (inl h) = stops.opens m (λ y. K ([], y)) [] h
  opens_at (suc n) s m K (b ∷ bs) (inl h) = let e : ends b ≡ true = stops.opens m (λ y. K ([], y)) (b ∷ bs) h in rw e refl
  opens_at (suc n) s m K [] (inr h) = (goes s).opens m (λ x. (goes_with n s x).followed m K) [] h
  opens_at (suc n) s m K (b ∷ bs) (inr h) =
      let e : first b ≡ true = (goes s).opens m (λ x. (goes_with n s x).followed m K) (b ∷ bs) h in
      let f : ends b ≡ false = apart b e in
      rw f e

  -- a round takes a byte
  takes : (s : S) (ts : List ℕ) (x : A) (rest : List ℕ) → (one s).read ts ≡ Ok (x, rest) → suc (length rest) ≤ length ts
  takes s ts x rest e = of (subst (λ (r : Read A). Told (one s) ts r) e ((goes s).tells ts))
    where
      some : (f : List ℕ) → (one s).followed Whole (λ x q. Unit {0}) (f ++ []) → 1 ≤ length f
      some [] h = absurd ((goes s).opens Whole (λ x q. Unit {0}) [] h)
      some (b ∷ bs) h = omega arith

      of : Told (one s) ts (Ok (x, rest)) → suc (length rest) ≤ length ts
      of t = let k : 1 ≤ length t.0 = some t.0 (t.2 Whole (λ x q. Unit {0}) [] tt) in omega (arith, ap length t.1, length-append t.0 rest, k)

  free_next : (n : ℕ) (s : S) (m : Mode) (K : List A × B → List ℕ → Type 0) → Free more1 (λ x. (goes_with n s x).followed m K)
  free_next n s m K x t ts h = follow t (opens_at n (next s x) m (λ r. K (in_front x r)) (t ∷ ts) h)

  ends_here : (b : ℕ) (s : S) (t : ℕ) (r : List ℕ) → ends t ≡ true → (upto b s).read (t ∷ r) ≡ end.read (t ∷ r)
  unfolding at_most
  ends_here zero s t r e = refl
  ends_here (suc b) s t r e = rw e refl

  goes_on : (b : ℕ) (s : S) (t : ℕ) (r : List ℕ) → ends t ≡ false → (upto (suc b) s).read (t ∷ r) ≡ (going b s).read (t ∷ r)
  unfolding at_most
  goes_on b s t r e = rw e refl

  finds_end : (b : ℕ) (s : S) (m : Mode) (K : List A × B → List ℕ → Type 0) → Free more2 K → (t : ℕ) (ts u : List ℕ) → Fits m u
      → last.followed m (λ y. K ([], y)) (t ∷ ts) → Outcome m K u ((upto b s).read (t ∷ ts ++ u))
  finds_end b s m K free t ts u fits h =
      let e : ends t ≡ true = stops.opens m (λ y. K ([], y)) (t ∷ ts) h in
      rw (ends_here b s t (ts ++ u) e) (finds_value more2 (λ (y : B). ([], y)) last stops.finds m K free (t ∷ ts) u fits h)

  finds_at : (n b : ℕ) (s : S) (m : Mode) (K : List A × B → List ℕ → Type 0) → Free more2 K → (p u : List ℕ) → length (p ++ u) ≤ b → Fits m u
      → (upto n s).followed m K p → Outcome m K u ((upto b s).read (p ++ u))
  unfolding at_most
  finds_at zero b s m K free [] u le fits h = cut m K (upto b s) (tells_at b s) u (stops.opens m (λ y. K ([], y)) [] h)
  finds_at zero b s m K free (t ∷ ts) u le fits h = finds_end b s m K free t ts u fits h
  finds_at (suc n) b s m K free [] u le fits (inl h) = cut m K (upto b s) (tells_at b s) u (stops.opens m (λ y. K ([], y)) [] h)
  finds_at (suc n) b s m K free (t ∷ ts) u le fits (inl h) = finds_end b s m K free t ts u fits h
  finds_at (suc n) b s m K free [] u le fits (inr h) =
      cut m K (upto b s) (tells_at b s) u ((goes s).opens m (λ x. (goes_with n s x).followed m K) [] h)
  finds_at (suc n) zero s m K free (t ∷ ts) u le fits (inr h) = absurd (omega (arith, le))
  finds_at (suc n) (suc b) s m K free (t ∷ ts) u le fits (inr h) =
      let starts : first t ≡ true = (goes s).opens m (λ x. (goes_with n s x).followed m K) (t ∷ ts) h in
      rw (goes_on b s t (ts ++ u) (apart t starts))
      (elim ((goes s).finds m (λ x. (goes_with n s x).followed m K) (free_next n s m K) (t ∷ ts) u fits h) [
        | inl r ↦ rw r.3 (value_outcome m K u (in_front r.0) ((upto b (next s r.0)).read (r.1 ++ u))
            (finds_at n b (next s r.0) m (λ x. K (in_front r.0 x)) (λ x. free (in_front r.0 x)) r.1 u
            (omega (arith, le, takes s (t ∷ ts ++ u) r.0 (r.1 ++ u) r.3)) fits r.2))
        | inr w ↦ inr (passes_on m u ((one s).read (t ∷ ts ++ u)) (λ x. (goes_with b s x.0).read x.1)
            (λ x short. beyond (goes_with b s x.0) (tells_value (in_front x.0) (upto b (next s x.0)) (tells_at b (next s x.0))) x.1 u short) w)
      ])

  pub good_series : (s : S) → Good (with_starts ends first) more2 (series ends one next last s)
  good_series s = record {
    tells = tells_series s;
    opens = λ m K p h. opens_at h.0 s m K p h.1;
    finds = λ m K free p u fits h. finds_at h.0 (length (p ++ u)) s m K free p u (omega arith) fits h.1;
    shortens = λ m K L c p u h. (h.0, shortens_at h.0 s m K L c p u h.1);
  }
