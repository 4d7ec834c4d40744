-- Things of a group, and things of others.
use Rattle.std.proofs.Common.{◌≡◌, ℕ, zero, suc, Bool, true, false, List, [], ◌∷◌, ◌++◌, drop, take, refl, sym, ap, ◌∙◌, inl, inr}
use Rattle.std.proofs.lemmas.List.{take-append-drop}
use Rattle.mj_base.specs.declared.ids.EndId.{EndId}
use Rattle.handle_table.specs.declared.thing.Thing.{Thing}
use Rattle.handle_table.specs.declared.thing.TokenId.{TokenId}
use Rattle.message_pipe.specs.declared.message.Message.{Message}
use Rattle.handle_table.specs.Things.{same, same_end, same_token, has, seq_of}
use Rattle.message_pipe.specs.Mail.{handles_of}
use Rattle.message_pipe.specs.Ends.{spread}
use Rattle.group_laws.specs.Apart.{seqs_of}
use Rattle.group_laws.proofs.Holding.{AllIn}
use Rattle.handle_table.proofs.ThingsLemmas.{same-refl, same-true, same_end-true, same_token-true, has-cases, has-back, or_cases}
use Rattle.message_pipe.proofs.MailLemmas.{handles-append}

pub two_ways : (b : Bool) → b ≡ true → b ≡ false → ⊥
two_ways true h k = absurd cc
two_ways false h k = absurd cc

module _ (inside : ℕ → Bool) where
  -- all these things are of the group, or none is
  abbrev pub Side : Bool → List Thing → Type 0
  Side b xs = (z : Thing) → has xs z ≡ true → inside (seq_of z) ≡ b

  -- an end of another group is none of this one
  pub other : (y x : EndId) → inside y.seq ≡ false → inside x.seq ≡ true → same_end y x ≡ false
  other y x f t = go (same_end y x) refl
    where
      go : (b : Bool) → same_end y x ≡ b → b ≡ false
      go true e = absurd (
          let s : inside y.seq ≡ inside x.seq = ap (λ (w : EndId). inside w.seq) (same_end-true y x e) in
          two_ways (inside x.seq) t (sym s ∙ f))
      go false e = refl

  -- a token of another group is none of this one
  pub other_token : (t u : TokenId) → inside t.seq ≡ false → inside u.seq ≡ true → same_token t u ≡ false
  other_token t u f i = go (same_token t u) refl
    where
      go : (b : Bool) → same_token t u ≡ b → b ≡ false
      go true e = absurd (
          let s : inside t.seq ≡ inside u.seq = ap (λ (w : TokenId). inside w.seq) (same_token-true t u e) in
          two_ways (inside u.seq) i (sym s ∙ f))
      go false e = refl

  pub no_other : (xs : List Thing) (z : Thing) → Side false xs → inside (seq_of z) ≡ true → has xs z ≡ false
  no_other xs z s t = go (has xs z) refl
    where
      go : (b : Bool) → has xs z ≡ b → b ≡ false
      go true e = absurd (two_ways (inside (seq_of z)) t (s z e))
      go false e = refl

  pub side_none : (b : Bool) → Side b []
  side_none b z e = absurd cc

  pub side_one : (b : Bool) (x : Thing) → inside (seq_of x) ≡ b → Side b (x ∷ [])
  side_one b x h z e = elim (or_cases (same x z) false e) [
    | inl k ↦ rw (← same-true x z k) h
    | inr k ↦ absurd cc
  ]

  pub side_more : (b : Bool) (xs ys : List Thing) → Side b xs → Side b ys → Side b (xs ++ ys)
  side_more b xs ys f g z e = elim (has-cases xs ys z e) [
    | inl k ↦ f z k
    | inr k ↦ g z k
  ]

  pub side_first : (b : Bool) (x : Thing) (xs : List Thing) → Side b (x ∷ xs) → inside (seq_of x) ≡ b
  side_first b x xs s = s x (rw (same-refl x) refl)

  pub side_rest : (b : Bool) (x : Thing) (xs : List Thing) → Side b (x ∷ xs) → Side b xs
  side_rest b x xs s z e = s z (has-back (x ∷ []) xs z e)

  pub side_drop : (b : Bool) (n : ℕ) (ms : List Message) → Side b (handles_of ms) → Side b (handles_of (drop n ms))
  side_drop b n ms s z e = s z (
      let all : ms ≡ take n ms ++ drop n ms = sym (take-append-drop n ms) in
      rw (all, handles-append) (has-back (handles_of (take n ms)) (handles_of (drop n ms)) z e))

  -- those that a command names
  pub side_named : (s : ℕ) (b : Bool) (xs : List Thing) (ts : List ℕ) → inside s ≡ b → AllIn inside s (seqs_of xs ++ ts) → Side b xs
  side_named s b [] ts i h z e = absurd cc
  side_named s b (x ∷ xs) ts i h z e = elim (or_cases (same x z) (has xs z) e) [
    | inl k ↦ rw (← same-true x z k) (h.0 ∙ i)
    | inr k ↦ side_named s b xs ts i h.1 z k
  ]

  pub side_names : (s : ℕ) (b : Bool) (xs : List Thing) → inside s ≡ b → AllIn inside s (seqs_of xs) → Side b xs
  side_names s b [] i h z e = absurd cc
  side_names s b (x ∷ xs) i h z e = elim (or_cases (same x z) (has xs z) e) [
    | inl k ↦ rw (← same-true x z k) (h.0 ∙ i)
    | inr k ↦ side_names s b xs i h.1 z k
  ]

  -- what is followed stays on its side
  pub spread_side : (c : Thing → List Thing) (b : Bool) → ((y : Thing) → inside (seq_of y) ≡ b → Side b (c y)) → (n : ℕ) (xs : List Thing) → Side b xs
      → Side b (spread c n xs)
  spread_side c b all zero xs s = s
  spread_side c b all (suc n) [] s = s
  spread_side c b all (suc n) (x ∷ xs) s =
      let first : inside (seq_of x) ≡ b = side_first b x xs s in
      side_more b (x ∷ []) (spread c n (xs ++ c x)) (side_one b x first)
      (spread_side c b all n (xs ++ c x) (side_more b xs (c x) (side_rest b x xs s) (all x first)))

  -- where two ways to carry agree on a side, what is followed is the same
  pub spread_same : (c d : Thing → List Thing) (b : Bool) → ((y : Thing) → inside (seq_of y) ≡ b → c y ≡ d y)
      → ((y : Thing) → inside (seq_of y) ≡ b → Side b (c y)) → (n : ℕ) (xs : List Thing) → Side b xs → spread c n xs ≡ spread d n xs
  spread_same c d b agree all zero xs s = refl
  spread_same c d b agree all (suc n) [] s = refl
  spread_same c d b agree all (suc n) (x ∷ xs) s =
      let first : inside (seq_of x) ≡ b = side_first b x xs s in
      let rest = spread_same c d b agree all n (xs ++ c x) (side_more b xs (c x) (side_rest b x xs s) (all x first)) in
      ap (λ ys. x ∷ ys) (rest ∙ ap (λ ys. spread d n (xs ++ ys)) (agree x first))
