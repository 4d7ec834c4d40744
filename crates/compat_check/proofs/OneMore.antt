-- One pair more is looked at.
use Rattle.std.proofs.Common.{◌≡◌, ℕ, ◌+◌, Bool, true, false, cond, inl, inr, List, [], ◌∷◌, ◌++◌, refl, sym, ap, subst, ◌∙◌, arith}
use Rattle.std.specs.Prelude.{not}
use Rattle.std.specs.BTreeMap.{is_at}
use Rattle.std.specs.List.{list_any}
use Rattle.compat_model.specs.declared.pair.Pair.{Pair}
use Rattle.compat_model.specs.steps.Among.{IsAmong}
use Rattle.compat_check.specs.declared.pair_set.Key.{Key}
use Rattle.compat_check.specs.declared.pair_set.PairSet.{PairSet}
use Rattle.compat_check.specs.steps.PairSets.{has_pair, is_pair, key_cmp, key_of, IsSetOf}
use Rattle.compat_check.specs.steps.Skims.{Skims, with_seen}
use Rattle.compat_check.proofs.PairOrder.{pair_same, pair_itself}

-- what a set says once a pair was noted
abbrev pub Noted : PairSet → PairSet → Pair → Type 0
Noted old new x = (q : Pair) → has_pair new q ≡ cond (is_pair x q) true (has_pair old q)

-- a pair that was seen
pub seen_more : (x : Pair) (seen kept xs : List Pair) → Skims Pair seen kept xs → IsAmong (with_seen Pair kept seen) x
    → Skims Pair seen kept (xs ++ (x ∷ []))
seen_more x seen kept [] s h = inl (subst (λ (l : List Pair). IsAmong (with_seen Pair l seen) x) s h, s)
seen_more x seen kept (y ∷ xs) (inl s) h = inl (s.0, seen_more x seen kept xs s.1 h)
seen_more x seen kept (y ∷ xs) (inr s) h =
    inr (s.0, s.1, seen_more x (y ∷ seen) s.0 xs s.2 (subst (λ (l : List Pair). IsAmong (with_seen Pair l seen) x) s.1 h))

-- a pair that is kept
pub kept_more : (x : Pair) (seen kept xs : List Pair) → Skims Pair seen kept xs → Skims Pair seen (kept ++ (x ∷ [])) (xs ++ (x ∷ []))
kept_more x seen kept [] s = inr ([], ap (λ (l : List Pair). l ++ (x ∷ [])) s, refl)
kept_more x seen kept (y ∷ xs) (inl s) = inl (s.0, kept_more x seen kept xs s.1)
kept_more x seen kept (y ∷ xs) (inr s) = inr (s.0 ++ (x ∷ []), ap (λ (l : List Pair). l ++ (x ∷ [])) s.1, kept_more x (y ∷ seen) s.0 xs s.2)

pub with_more : (x : Pair) (kept seen : List Pair) → with_seen Pair (kept ++ (x ∷ [])) seen ≡ x ∷ with_seen Pair kept seen
with_more x [] seen = refl
with_more x (y ∷ kept) seen = with_more x kept (y ∷ seen)

still : (b c : Bool) → c ≡ true → cond b true c ≡ true
still true c e = refl
still false c e = e

-- the set with a pair that it had
pub set_same : (old new : PairSet) (x : Pair) (list : List Pair) → IsSetOf old list → has_pair old x ≡ true → Noted old new x → IsSetOf new list
set_same old new x list s there noted = record {
  into = λ q h. first q (is_pair x q) refl (sym (noted q) ∙ h);
  back = λ q h. noted q ∙ still (is_pair x q) (has_pair old q) (s.back q h);
}
  where
    first : (q : Pair) (b : Bool) → is_pair x q ≡ b → cond b true (has_pair old q) ≡ true → IsAmong list q
    first q true e h = subst (λ (z : Pair). IsAmong list z) (pair_same x q e) (s.into x there)
    first q false e h = s.into q h

-- the set with one pair more
pub set_more : (old new : PairSet) (x : Pair) (list : List Pair) → IsSetOf old list → Noted old new x → IsSetOf new (x ∷ list)
set_more old new x list s noted = record {
  into = λ q h. first q (is_pair x q) refl (sym (noted q) ∙ h);
  back = λ q h. noted q ∙ second q h;
}
  where
    first : (q : Pair) (b : Bool) → is_pair x q ≡ b → cond b true (has_pair old q) ≡ true → IsAmong (x ∷ list) q
    first q true e h = inl (pair_same x q e)
    first q false e h = inr (s.into q h)

    second : (q : Pair) → IsAmong (x ∷ list) q → cond (is_pair x q) true (has_pair old q) ≡ true
    second q (inl e) = ap (λ (b : Bool). cond b true (has_pair old q)) (subst (λ (z : Pair). is_pair x z ≡ true) e (pair_itself x))
    second q (inr h) = still (is_pair x q) (has_pair old q) (s.back q h)

-- a pair that wasn't seen is kept
pub kept_on : (old new : PairSet) (x : Pair) (seen kept xs : List Pair) → Skims Pair seen kept xs × IsSetOf old (with_seen Pair kept seen)
    → Noted old new x → Skims Pair seen (kept ++ (x ∷ [])) (xs ++ (x ∷ [])) × IsSetOf new (with_seen Pair (kept ++ (x ∷ [])) seen)
kept_on old new x seen kept xs before noted = (
  kept_more x seen kept xs before.0,
  subst (λ (l : List Pair). IsSetOf new l) (sym (with_more x kept seen)) (set_more old new x (with_seen Pair kept seen) before.1 noted),
)

was : (b : Bool) → false ≡ not b → b ≡ true
was true e = refl
was false e = absurd cc

-- one that was seen is passed
pub passed_on : (old new : PairSet) (x : Pair) (seen kept xs : List Pair) → Skims Pair seen kept xs × IsSetOf old (with_seen Pair kept seen)
    → false ≡ not (has_pair old x) → Noted old new x → Skims Pair seen kept (xs ++ (x ∷ [])) × IsSetOf new (with_seen Pair kept seen)
passed_on old new x seen kept xs before answer noted =
    let there = was (has_pair old x) answer in
    (seen_more x seen kept xs before.0 (before.1.into x there), set_same old new x (with_seen Pair kept seen) before.1 there noted)

pub count_kept : (b : Bool) (new old base n m : ℕ) → b ≡ true → new ≡ old + cond b 1 0 → old ≡ base + n → m ≡ n + 1 → new ≡ base + m
count_kept true new old base n m is e f g = omega (arith, e, f, g)
count_kept false new old base n m is e f g = absurd cc

pub count_passed : (b : Bool) (new old base n m : ℕ) → b ≡ false → new ≡ old + cond b 1 0 → old ≡ base + n → m ≡ n → new ≡ base + m
count_passed false new old base n m is e f g = omega (arith, e, f, g)
count_passed true new old base n m is e f g = absurd cc

-- the set without pairs
pub set_of_none : (set : PairSet) → set.keys.keys ≡ [] → IsSetOf set []
set_of_none set none = record {
  into = λ q h. absurd (let has : false ≡ true = sym (ap (λ (ks : List Key). list_any (is_at (key_cmp (key_of q))) ks) none) ∙ h in cc);
  back = λ q h. absurd h;
}
