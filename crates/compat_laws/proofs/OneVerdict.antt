-- One thing is answered of two schemas.
use Rattle.std.proofs.Common.{◌≡◌, ◌⊎◌, ℕ, ◌<◌, ◌≤◌, Bool, true, false, inl, inr, Option, Some, None, refl, sym, ap, ◌∙◌, arith}
use Rattle.std.specs.Prelude.{nat_lt}
use Rattle.std.proofs.lemmas.Bool.{ltb-false, ltb-true}
use Rattle.mj_schema.specs.declared.schema.Schema.{Schema}
use Rattle.compat_model.specs.declared.reason.Reason.{Reason}
use Rattle.compat_model.specs.declared.reason.Verdict.{Verdict}
use Rattle.compat_model.specs.declared.reason.Verdict.TheVariants.{Compatible, Broken}
use Rattle.compat_model.specs.Verdicts.{reason_at, IsCompatible, IsBroken, Judges}

some_is_none : {A : Type 0} (a : A) (o : Option A) → o ≡ None → o ≡ Some a → ⊥
some_is_none a o e g = let no : None ≡ Some a = sym e ∙ g in absurd cc

compared : (n m : ℕ) → (n < m) ⊎ ((n ≡ m) ⊎ (m < n))
compared n m = by_less (nat_lt n m) (nat_lt m n) refl refl
  where
    by_less : (b c : Bool) → nat_lt n m ≡ b → nat_lt m n ≡ c → (n < m) ⊎ ((n ≡ m) ⊎ (m < n))
    by_less true c e f = inl (ltb-true n m e)
    by_less false true e f = inr (inr (ltb-true m n f))
    by_less false false e f =
        let up : m ≤ n = ltb-false n m e in let down : n ≤ m = ltb-false m n f in let same : n ≡ m = omega (arith, up, down) in inr (inl same)

module _ (old new : Schema) where
  sound : (reason : Reason) → IsCompatible old new → IsBroken old new reason → ⊥
  sound reason ok broken = some_is_none reason (reason_at old new broken.steps) (ok broken.steps) broken.first

  -- of two numbers of steps neither is less
  same_steps : (one two : Reason) (a : IsBroken old new one) (b : IsBroken old new two) → (a.steps < b.steps → ⊥) → (b.steps < a.steps → ⊥)
      → a.steps ≡ b.steps
  same_steps one two a b less more =
      neither (compared a.steps b.steps)
    where
      neither : (a.steps < b.steps) ⊎ ((a.steps ≡ b.steps) ⊎ (b.steps < a.steps)) → a.steps ≡ b.steps
      neither (inl lt) = absurd (less lt)
      neither (inr (inl e)) = e
      neither (inr (inr gt)) = absurd (more gt)

  one_reason : (one two : Reason) → IsBroken old new one → IsBroken old new two → one ≡ two
  one_reason one two a b =
      let steps = same_steps one two a b (λ lt. some_is_none one (reason_at old new a.steps) (b.before a.steps lt) a.first)
      (λ gt. some_is_none two (reason_at old new b.steps) (a.before b.steps gt) b.first) in
      let same : Some one ≡ Some two = sym a.first ∙ ap (reason_at old new) steps ∙ b.first in
      let is : one ≡ two = cc in
      is

  pub one_verdict : (one two : Verdict) → Judges old new one → Judges old new two → one ≡ two
  one_verdict (Compatible n) (Compatible m) a b = ap (λ (k : ℕ). Compatible k) (a.1 ∙ sym b.1)
  one_verdict (Compatible n) (Broken two) a b = absurd (sound two a.0 b)
  one_verdict (Broken one) (Compatible m) a b = absurd (sound one b.0 a)
  one_verdict (Broken one) (Broken two) a b = ap (λ (r : Reason). Broken r) (one_reason one two a b)
