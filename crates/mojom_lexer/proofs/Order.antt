-- The tokens of a file stand in order within it.
use Rattle.std.proofs.Common.{◌≡◌, ℕ, ◌+◌, ◌≤◌, ◌<◌, List, [], ◌∷◌, ◌++◌, length, drop, get_or, Bool, true, false, ◌⊎◌, inl, inr, refl, sym, ap, ◌∙◌, subst, arith, length-append}
use Rattle.std.specs.Prelude.{All, AllPairs, nat_lt}
use Rattle.std.proofs.lemmas.Bool.Decides.{nat_tests}
use Rattle.std.proofs.Math.ListN.{get_or-append}
use Rattle.std.proofs.Math.Seq.{get_or-append_seam}
use Rattle.mojom_ast.specs.declared.token.Token.{Token}
use Rattle.mojom_lexer.specs.Lexed.{Reaches, AreTokens, InOrder}
use Rattle.mojom_lexer.specs.Lexed.Reaches.{starts, passes, takes}
use Rattle.mojom_lexer.proofs.Steps.{token_at, longest_some}

before_or_last : (k n : ℕ) → k < n + 1 → (k < n) ⊎ (k ≡ n)
before_or_last k n lt = step (nat_lt k n) refl
  where
    step : (v : Bool) → nat_lt k n ≡ v → (k < n) ⊎ (k ≡ n)
    step true e = inl (grind (arith, nat_tests))
    step false e = let le : n ≤ k = grind (arith, nat_tests) in inr (omega arith)

longer : (ts : List Token) (t : Token) → length (ts ++ t ∷ []) ≡ length ts + 1
longer ts t = length-append ts (t ∷ [])

last_of : (ts : List Token) (t d : Token) (k : ℕ) → k ≡ length ts → get_or (ts ++ t ∷ []) k d ≡ t
last_of ts t d k e = ap (λ (i : ℕ). get_or (ts ++ t ∷ []) i d) e ∙ get_or-append_seam ts t [] d

all_and_last : (P : Token → Type 0) (ts : List Token) (t : Token) → All P ts → P t → All P (ts ++ t ∷ [])
all_and_last P ts t h p k d lt = step (before_or_last k (length ts) (omega (arith, longer ts t)))
  where
    step : (k < length ts) ⊎ (k ≡ length ts) → P (get_or (ts ++ t ∷ []) k d)
    step (inl less) = subst P (sym (get_or-append ts (t ∷ []) d k less)) (h k d less)
    step (inr e) = subst P (sym (last_of ts t d k e)) p

pairs_and_last : (R : Token → Token → Type 0) (ts : List Token) (t : Token) → AllPairs R ts → All (λ s. R s t) ts → AllPairs R (ts ++ t ∷ [])
pairs_and_last R ts t h p i j d lt room = step (before_or_last j (length ts) (omega (arith, longer ts t)))
  where
    step : (j < length ts) ⊎ (j ≡ length ts) → R (get_or (ts ++ t ∷ []) i d) (get_or (ts ++ t ∷ []) j d)
    step (inl less) =
        let first : i < length ts = omega arith in
        subst (λ (s : Token). R s (get_or (ts ++ t ∷ []) j d)) (sym (get_or-append ts (t ∷ []) d i first))
        (subst (λ (s : Token). R (get_or ts i d) s) (sym (get_or-append ts (t ∷ []) d j less)) (h i j d lt less))
    step (inr e) =
        let first : i < length ts = omega arith in
        subst (λ (s : Token). R s (get_or (ts ++ t ∷ []) j d)) (sym (get_or-append ts (t ∷ []) d i first))
        (subst (λ (s : Token). R (get_or ts i d) s) (sym (last_of ts t d j e)) (p i d first))

-- in order, and ending by a place
record EndsBy (at : ℕ) (ts : List Token) : Type 0 where
  pub some : All (λ token. 0 < token.span.len) ts
  pub apart : AllPairs (λ token next. token.span.start + token.span.len ≤ next.span.start) ts
  pub within : All (λ token. token.span.start + token.span.len ≤ at) ts

later : (at len : ℕ) (ts : List Token)
    → All (λ token. token.span.start + token.span.len ≤ at) ts → All (λ token. token.span.start + token.span.len ≤ at + len) ts
later at len ts h k d lt = let le = h k d lt in omega arith

ends_by : (bs : List ℕ) (at : ℕ) (ts : List Token) → Reaches bs at ts → EndsBy at ts
ends_by bs at ts starts =
    record { some = λ k d lt. absurd (omega arith); apart = λ i j d lt room. absurd (omega arith); within = λ k d lt. absurd (omega arith) }
ends_by bs at ts (passes before len earlier r l p) =
    let h = ends_by bs before earlier r in
    record { some = h.some; apart = h.apart; within = later before len earlier h.within }
ends_by bs at ts (takes before len earlier s r l p) =
    let h = ends_by bs before earlier r in
    record {
      some = all_and_last (λ token. 0 < token.span.len) earlier (token_at s before len) h.some (longest_some (drop before bs) len l);
      apart = pairs_and_last (λ token next. token.span.start + token.span.len ≤ next.span.start) earlier (token_at s before len) h.apart h.within;
      within =
          all_and_last (λ token. token.span.start + token.span.len ≤ before + len) earlier (token_at s before len) (later before len earlier h.within)
          (omega arith);
    }

-- the law of `in_order`
pub in_order : (bs : List ℕ) (ts : List Token) → AreTokens bs ts → InOrder bs ts
in_order bs ts h = let e = ends_by bs (length bs) ts h.reaches in record { some = e.some; apart = e.apart; within = e.within }
