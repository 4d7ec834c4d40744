-- Where steps lead in the long run.
use Rattle.std.proofs.Common.{◌≡◌, ℕ, zero, suc, ◌+◌, ◌-◌, ◌*◌, ◌<◌, ◌≤◌, List, length, refl, sym, ◌∙◌, ap, inl, inr, arith}
use Rattle.std.specs.Prelude.{◌⊎◌, Option, Some, None, slice_get}
use Rattle.std.proofs.Math.Nat.{mul-suc, suc-mul}
use Rattle.std.proofs.lemmas.Option.{none-some, slice_get_past}
use Rattle.const_meanings.specs.declared.origin.Origin.{Origin}
use Rattle.const_meanings.specs.declared.origin.Origin.TheVariants.{Written, Of, Next, Missing}
use Rattle.const_meanings.specs.Needs.{needed_by, needed, source, ahead, added, counts_on, NeedsItself, EndsAt}
use Rattle.const_meanings.proofs.Pigeons.{Twice, twice}

counts_none : (thing : ℕ) (o : Option Origin) → needed_by thing o ≡ None → counts_on o ≡ 0
counts_none thing None e = refl
counts_none thing (Some (Written l)) e = refl
counts_none thing (Some (Of j)) e = absurd cc
counts_none thing (Some Next) e = absurd cc
counts_none thing (Some Missing) e = refl

pub below : (m n : ℕ) → (m < n) ⊎ (n ≤ m)
below zero zero = inr (omega arith)
below zero (suc n) = inl (omega arith)
below (suc m) zero = inr (omega arith)
below (suc m) (suc n) = elim (below m n) [ inl e ↦ inl (omega arith) | inr e ↦ inr (omega arith) ]

total : (m n : ℕ) → (m ≤ n) ⊎ (n ≤ m)
total zero n = inl (omega arith)
total (suc m) zero = inr (omega arith)
total (suc m) (suc n) = elim (total m n) [ inl e ↦ inl (omega arith) | inr e ↦ inr (omega arith) ]

module _ (things : List Origin) where
  pub ahead_more : (a b thing : ℕ) → ahead things (a + b) thing ≡ ahead things b (ahead things a thing)
  unfolding ahead
  ahead_more zero b thing = let e : zero + b ≡ b = omega arith in rw e refl
  ahead_more (suc a) b thing = let e : suc a + b ≡ suc (a + b) = omega arith in rw e (ahead_more a b (source things thing))

  pub added_more : (a b thing : ℕ) → added things (a + b) thing ≡ added things a thing + added things b (ahead things a thing)
  unfolding ahead added
  added_more zero b thing = let e : zero + b ≡ b = omega arith in rw e (omega arith)
  added_more (suc a) b thing = let e : suc a + b ≡ suc (a + b) = omega arith in let h = added_more a b (source things thing) in rw (e, h) (omega arith)

  -- what needs nothing leads nowhere else
  pub stays : (n thing : ℕ) → needed things thing ≡ None → (ahead things n thing ≡ thing) × (added things n thing ≡ 0)
  unfolding ahead added
  stays zero thing none = (refl, refl)
  stays (suc n) thing none = let h = stays n thing none in rw (none, counts_none thing (slice_get things thing) none) (h.0, omega (arith, h.1))

  -- past the end of the list nothing is needed
  pub outside : (thing : ℕ) → length things ≤ thing → needed things thing ≡ None
  outside thing past = rw (slice_get_past things thing past) refl

  -- where more is needed, all steps before are in the list
  inside : (k far from other : ℕ) → k ≤ far → needed things (ahead things far from) ≡ Some other → ahead things k from < length things
  inside k far from other le needs = go (below (ahead things k from) (length things))
    where
      go : (ahead things k from < length things) ⊎ (length things ≤ ahead things k from) → ahead things k from < length things
      go (inl lt) = lt
      go (inr past) =
          let rest : ℕ = far - k in
          let split : k + rest ≡ far = omega arith in
          let none = outside (ahead things k from) past in
          let same : ahead things far from ≡ ahead things k from =
          ap (λ (n : ℕ). ahead things n from) (sym split) ∙ (ahead_more k rest from ∙ (stays rest (ahead things k from) none).0) in
          absurd (none-some other (sym none ∙ (sym (ap (λ (x : ℕ). needed things x) same) ∙ needs)))

  repeat : (m p thing : ℕ) → ahead things p thing ≡ thing → ahead things (m * p) thing ≡ thing
  unfolding ahead
  repeat zero p thing e = let z : zero * p ≡ zero = omega arith in rw z refl
  repeat (suc m) p thing e = rw (suc-mul m p, ahead_more (m * p) p thing, repeat m p thing e) e

  -- a thing that is met again needs itself
  pub loops : (thing other k : ℕ) → needed things thing ≡ Some other → ahead things (suc k) thing ≡ thing → NeedsItself things thing
  unfolding ahead
  loops thing other k needs e = record { other = other; needs = needs; steps = k; back = rw needs at e }

  pub comes_back : (thing : ℕ) (self : NeedsItself things thing) → ahead things (suc self.steps) thing ≡ thing
  unfolding ahead
  comes_back thing self = rw self.needs self.back

  -- what needs itself leads to nothing that needs nothing
  pub loops_on : (thing steps : ℕ) → NeedsItself things thing → needed things (ahead things steps thing) ≡ None → ⊥
  loops_on thing steps self none =
      let back : ahead things (steps * suc self.steps) thing ≡ thing = repeat steps (suc self.steps) thing (comes_back thing self) in
      let split : steps * suc self.steps ≡ steps + steps * self.steps = mul-suc steps self.steps ∙ omega arith in
      let last = ahead things steps thing in
      let same : last ≡ thing =
      sym (stays (steps * self.steps) last none).0
      ∙ (sym (ahead_more steps (steps * self.steps) thing) ∙ (ap (λ (k : ℕ). ahead things k thing) (sym split) ∙ back)) in
      none-some self.other (sym none ∙ (ap (λ (x : ℕ). needed things x) same ∙ self.needs))

  module _ (far : ℕ) (enough : length things ≤ far) where
    -- where far steps lead, and more is needed, is needed by itself
    pub reached_loops : (from other : ℕ) → needed things (ahead things far from) ≡ Some other → NeedsItself things (ahead things far from)
    reached_loops from other needs = go (twice (length things) (λ k. ahead things k from) (λ k le. inside k far from other (omega (arith, le, enough)) needs))
      where
        go : Twice (λ k. ahead things k from) (length things) → NeedsItself things (ahead things far from)
        go t =
            let lt = t.before in let le = t.within in
            let circle : ℕ = t.two - t.one - 1 in
            let rest : ℕ = far - t.one in
            let first : t.one + rest ≡ far = omega arith in
            let second : t.one + suc circle ≡ t.two = omega arith in
            let on : ahead things far from ≡ ahead things rest (ahead things t.one from) =
            ap (λ (k : ℕ). ahead things k from) (sym first) ∙ ahead_more t.one rest from in
            let again : ahead things (suc circle) (ahead things t.one from) ≡ ahead things t.one from =
            sym (ahead_more t.one (suc circle) from) ∙ (ap (λ (k : ℕ). ahead things k from) second ∙ sym t.same) in
            let swap : rest + suc circle ≡ suc circle + rest = omega arith in
            let back : ahead things (suc circle) (ahead things far from) ≡ ahead things far from =
            ap (λ (x : ℕ). ahead things (suc circle) x) on
            ∙ (sym (ahead_more rest (suc circle) (ahead things t.one from))
            ∙ (ap (λ (k : ℕ). ahead things k (ahead things t.one from)) swap
            ∙ (ahead_more (suc circle) rest (ahead things t.one from) ∙ (ap (λ (x : ℕ). ahead things rest x) again ∙ sym on)))) in
            loops (ahead things far from) other circle needs back

    -- what needs itself is where far steps lead from a thing
    pub loops_reached : (thing : ℕ) → NeedsItself things thing → (from : ℕ) × (from < length things) × (ahead things far from ≡ thing)
    loops_reached thing self =
        let from : ℕ = ahead things (far * self.steps) thing in
        let there : ahead things (far * suc self.steps) thing ≡ thing = repeat far (suc self.steps) thing (comes_back thing self) in
        let there_is : from < length things =
        elim (below from (length things)) [ inl lt ↦ lt | inr past ↦ absurd (loops_on thing (far * self.steps) self (outside from past)) ] in
        (from, there_is, sym (ahead_more (far * self.steps) far thing) ∙ (ap (λ (k : ℕ). ahead things k thing) (sym (mul-suc far self.steps)) ∙ there))

    -- what leads to an end leads there within far steps
    pub ends_in_time : (thing last more : ℕ) → EndsAt things thing last more → (ahead things far thing ≡ last) × (added things far thing ≡ more)
    ends_in_time thing last more end = go (total end.steps far)
      where
        go : (end.steps ≤ far) ⊎ (far ≤ end.steps) → (ahead things far thing ≡ last) × (added things far thing ≡ more)
        go (inl le) =
            let rest : ℕ = far - end.steps in
            let split : end.steps + rest ≡ far = omega arith in
            let on : ahead things far thing ≡ ahead things rest last =
            ap (λ (k : ℕ). ahead things k thing) (sym split) ∙ (ahead_more end.steps rest thing ∙ ap (λ (x : ℕ). ahead things rest x) end.there) in
            let sum : added things far thing ≡ added things end.steps thing + added things rest last =
            ap (λ (k : ℕ). added things k thing) (sym split)
            ∙ (added_more end.steps rest thing ∙ ap (λ (x : ℕ). added things end.steps thing + added things rest x) end.there) in
            let still = stays rest last end.ends in
            (on ∙ still.0, omega (arith, sum, still.1, end.counted))
        go (inr le) = late le (needed things (ahead things far thing)) refl
          where
            late : far ≤ end.steps → (o : Option ℕ) → needed things (ahead things far thing) ≡ o
                → (ahead things far thing ≡ last) × (added things far thing ≡ more)
            late le None e =
                let rest : ℕ = end.steps - far in
                let split : far + rest ≡ end.steps = omega arith in
                let still = stays rest (ahead things far thing) e in
                let on : last ≡ ahead things rest (ahead things far thing) =
                sym end.there ∙ (ap (λ (k : ℕ). ahead things k thing) (sym split) ∙ ahead_more far rest thing) in
                let sum : added things end.steps thing ≡ added things far thing + added things rest (ahead things far thing) =
                ap (λ (k : ℕ). added things k thing) (sym split) ∙ added_more far rest thing in
                (sym still.0 ∙ sym on, omega (arith, sum, still.1, end.counted))
            late le (Some o) e =
                let rest : ℕ = end.steps - far in
                let split : far + rest ≡ end.steps = omega arith in
                let on : ahead things rest (ahead things far thing) ≡ last =
                sym (ahead_more far rest thing) ∙ (ap (λ (k : ℕ). ahead things k thing) split ∙ end.there) in
                absurd (loops_on (ahead things far thing) rest (reached_loops thing o e) (ap (λ (x : ℕ). needed things x) on ∙ end.ends))

    pub ends_here : (thing : ℕ) → needed things (ahead things far thing) ≡ None → EndsAt things thing (ahead things far thing) (added things far thing)
    ends_here thing none = record { steps = far; there = refl; ends = none; counted = refl }

  -- a thing ends in one way
  pub one_end : (thing l m k n : ℕ) → EndsAt things thing l m → EndsAt things thing k n → (l ≡ k) × (m ≡ n)
  one_end thing l m k n a b = go (total a.steps b.steps)
    where
      at : (l m k n : ℕ) (a : EndsAt things thing l m) (b : EndsAt things thing k n) → a.steps ≤ b.steps → (l ≡ k) × (m ≡ n)
      at l m k n a b le =
          let rest : ℕ = b.steps - a.steps in
          let split : a.steps + rest ≡ b.steps = omega arith in
          let still = stays rest l a.ends in
          let on : k ≡ ahead things rest l =
          sym b.there
          ∙ (ap (λ (k : ℕ). ahead things k thing) (sym split) ∙ (ahead_more a.steps rest thing ∙ ap (λ (x : ℕ). ahead things rest x) a.there)) in
          let sum : added things b.steps thing ≡ added things a.steps thing + added things rest l =
          ap (λ (k : ℕ). added things k thing) (sym split)
          ∙ (added_more a.steps rest thing ∙ ap (λ (x : ℕ). added things a.steps thing + added things rest x) a.there) in
          (sym still.0 ∙ sym on, omega (arith, sum, still.1, a.counted, b.counted))

      go : (a.steps ≤ b.steps) ⊎ (b.steps ≤ a.steps) → (l ≡ k) × (m ≡ n)
      go (inl le) = at l m k n a b le
      go (inr le) = let h = at k n l m b a le in (sym h.0, sym h.1)
