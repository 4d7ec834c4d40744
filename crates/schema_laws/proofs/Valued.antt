-- Things that are not refused have values.
use Rattle.std.proofs.Common.{◌≡◌, ◌<◌, ◌-◌, ℕ, zero, suc, length, get_or, refl, sym, ◌∙◌, ap, arith}
use Rattle.std.specs.Prelude.{Bool, true, false, Option, Some, None, option_and_then, slice_get}
use Rattle.std.proofs.lemmas.Option.{slice_get_within, slice_get-get_or}
use Rattle.const_eval.specs.declared.consts.Consts.{Consts}
use Rattle.const_meanings.specs.declared.literal.Literal.{Literal}
use Rattle.const_meanings.specs.declared.literal.Literal.TheVariants as literals
use Rattle.const_meanings.specs.declared.meaning.Meaning.{Meaning}
use Rattle.const_meanings.specs.declared.meaning.Meaning.TheVariants.{Value, Circular, Nothing}
use Rattle.const_meanings.specs.declared.origin.Origin.{Origin}
use Rattle.const_meanings.specs.declared.origin.Origin.TheVariants.{Written, Of, Next, Missing}
use Rattle.const_meanings.specs.Known.{Known, TextValue, BoolValue, NumberValue, FloatValue, number_of, known_with}
use Rattle.const_meanings.specs.Needs.{needed_by, needed, or_itself, source, ahead, added, counts_on, NeedsItself, EndsAt}
use Rattle.const_meanings.specs.Meanings.{HasValue, IsMeaning, AreMeanings}
use Rattle.const_eval.specs.Consts.{known_of_origin, known_of_meaning, value_at, is_circular_meaning, is_circular}
use Rattle.const_meanings.proofs.Orbits.{reached_loops, ends_here}
use Rattle.const_meanings.proofs.Reaching.{one_meaning}

abbrev pub is_number : Known → Bool
is_number (NumberValue number) = true
is_number _ = false

abbrev pub is_missing : Origin → Bool
is_missing Missing = true
is_missing _ = false

-- a thing that is not refused: its value comes from somewhere, it doesn't need itself, and where it is the number after that of the thing
-- before, that has no other value
pub record IsSound (consts : Consts) (thing : ℕ) : Type 0 where
  pub origin : Origin
  pub is : slice_get consts.origins thing ≡ Some origin
  pub there : is_missing origin ≡ false
  pub straight : is_circular consts thing ≡ false
  pub counted : counts_on (Some origin) ≡ 1 → (k : Known) → value_at consts (thing - 1) ≡ Some k → is_number k ≡ true

-- its value is known
pub record HasKnown (consts : Consts) (thing : ℕ) : Type 0 where
  pub known : Known
  pub is : value_at consts thing ≡ Some known

abbrev is_number_literal : Literal → Bool
is_number_literal (literals.Number negative magnitude) = true
is_number_literal _ = false

-- what a literal is without more
alone_is : (literal : Literal) → (k : Known) × (known_with literal 0 ≡ Some k) × (is_number k ≡ is_number_literal literal)
alone_is (literals.Number negative magnitude) = (NumberValue (number_of negative magnitude 0), refl, refl)
alone_is (literals.Text bytes) = (TextValue bytes, refl, refl)
alone_is (literals.Bool value) = (BoolValue value, refl, refl)
alone_is literals.Float = (FloatValue, refl, refl)

-- so much more than a literal is known where it is a number
known_is : (literal : Literal) (more : ℕ) → ((n : ℕ) → more ≡ suc n → is_number_literal literal ≡ true)
    → (k : Known) × (known_with literal more ≡ Some k)
known_is (literals.Number negative magnitude) more number = (NumberValue (number_of negative magnitude more), refl)
known_is (literals.Text bytes) zero number = (TextValue bytes, refl)
known_is (literals.Text bytes) (suc n) number = let bad : false ≡ true = number n refl in absurd cc
known_is (literals.Bool value) zero number = (BoolValue value, refl)
known_is (literals.Bool value) (suc n) number = let bad : false ≡ true = number n refl in absurd cc
known_is literals.Float zero number = (FloatValue, refl)
known_is literals.Float (suc n) number = let bad : false ≡ true = number n refl in absurd cc

-- what needs nothing and isn't missing is written
written_is : (thing : ℕ) (origin : Origin) → needed_by thing (Some origin) ≡ None → is_missing origin ≡ false
    → (literal : Literal) × (origin ≡ Written literal)
written_is thing (Written literal) needs there = (literal, refl)
written_is thing (Of other) needs there = absurd cc
written_is thing Next needs there = absurd cc
written_is thing Missing needs there = absurd cc

-- what counts on needs the thing before
counts_next : (thing : ℕ) (o : Option Origin) → counts_on o ≡ 1 → needed_by thing o ≡ Some (thing - 1)
counts_next thing None e = absurd (let bad : ⊥ = omega arith in bad)
counts_next thing (Some (Written l)) e = absurd (let bad : ⊥ = omega arith in bad)
counts_next thing (Some (Of other)) e = absurd (let bad : ⊥ = omega arith in bad)
counts_next thing (Some Next) e = refl
counts_next thing (Some Missing) e = absurd (let bad : ⊥ = omega arith in bad)

counts_once : (o : Option Origin) (n : ℕ) → counts_on o ≡ suc n → counts_on o ≡ 1
counts_once None n e = absurd (let bad : ⊥ = omega arith in bad)
counts_once (Some (Written l)) n e = absurd (let bad : ⊥ = omega arith in bad)
counts_once (Some (Of other)) n e = absurd (let bad : ⊥ = omega arith in bad)
counts_once (Some Next) n e = refl
counts_once (Some Missing) n e = absurd (let bad : ⊥ = omega arith in bad)

module _ (consts : Consts) (are : AreMeanings consts.origins consts.meanings) where
  meaning_is : (thing : ℕ) (meaning : Meaning) → thing < length consts.origins → IsMeaning consts.origins thing meaning
      → slice_get consts.meanings thing ≡ Some meaning
  meaning_is thing meaning lt is =
      let found = slice_get-get_or consts.meanings thing Nothing (omega (arith, lt, are.count)) in
      let told = are.each thing lt (get_or consts.meanings thing Nothing) found in
      let same : get_or consts.meanings thing Nothing ≡ meaning =
      one_meaning consts.origins thing (get_or consts.meanings thing Nothing) meaning told is in
      found ∙ ap (λ (m : Meaning). let o : Option Meaning = Some m in o) same

  -- a thing whose need ends at a literal is so much more than that
  value_is : (thing last more : ℕ) (literal : Literal) → thing < length consts.origins → EndsAt consts.origins thing last more
      → slice_get consts.origins last ≡ Some (Written literal) → value_at consts thing ≡ known_with literal more
  value_is thing last more literal lt ends written =
      let has : HasValue consts.origins thing last more = record { literal = literal; ends = ends; written = written } in
      let meant = meaning_is thing (Value last more) lt has in
      ap (λ (o : Option Meaning). option_and_then (known_of_meaning consts.origins) o) meant
      ∙ ap (λ (o : Option Origin). option_and_then (known_of_origin more) o) written

  module _ (Told : ℕ → Type 0) (sound : (thing : ℕ) → Told thing → IsSound consts thing)
      (closed : (thing other : ℕ) → Told thing → needed consts.origins thing ≡ Some other → Told other) where
    within : (thing : ℕ) → Told thing → thing < length consts.origins
    within thing told = let s = sound thing told in slice_get_within consts.origins thing s.origin s.is

    told_source : (thing : ℕ) → Told thing → Told (source consts.origins thing)
    told_source thing told = go (needed consts.origins thing) (closed thing)
      where
        go : (o : Option ℕ) → ((other : ℕ) → Told thing → o ≡ Some other → Told other) → Told (or_itself thing o)
        go None next = told
        go (Some other) next = next other told refl

    told_ahead : (steps thing : ℕ) → Told thing → Told (ahead consts.origins steps thing)
    unfolding ahead
    told_ahead zero thing told = told
    told_ahead (suc steps) thing told = told_ahead steps (source consts.origins thing) (told_source thing told)

    -- where more is needed than there are things, a thing needs itself
    ends : (thing : ℕ) → Told thing → needed consts.origins (ahead consts.origins (length consts.origins) thing) ≡ None
    ends thing told = go (needed consts.origins (ahead consts.origins (length consts.origins) thing)) refl
      where
        go : (o : Option ℕ) → needed consts.origins (ahead consts.origins (length consts.origins) thing) ≡ o
            → needed consts.origins (ahead consts.origins (length consts.origins) thing) ≡ None
        go None e = e
        go (Some other) e =
            let far : ℕ = ahead consts.origins (length consts.origins) thing in
            let loop : NeedsItself consts.origins far =
            reached_loops consts.origins (length consts.origins) (omega arith) thing other e in
            let there = told_ahead (length consts.origins) thing told in
            let circle = meaning_is far Circular (within far there) loop in
            let bad : false ≡ true = sym (sound far there).straight ∙ ap is_circular_meaning circle in
            absurd cc

    -- where something counts on, the literal is a number
    numbers : (steps thing last n : ℕ) (literal : Literal) → Told thing → ahead consts.origins steps thing ≡ last
        → needed consts.origins last ≡ None → added consts.origins steps thing ≡ suc n
        → slice_get consts.origins last ≡ Some (Written literal) → is_number_literal literal ≡ true
    unfolding ahead added
    numbers zero thing last n literal told there none counted written = let bad : ⊥ = omega arith in absurd bad
    numbers (suc steps) thing last n literal told there none counted written =
        go (λ m e. numbers steps (source consts.origins thing) last m literal (told_source thing told) there none e written)
        (added consts.origins steps (source consts.origins thing)) refl
      where
        go : ((m : ℕ) → added consts.origins steps (source consts.origins thing) ≡ suc m → is_number_literal literal ≡ true)
            → (m : ℕ) → added consts.origins steps (source consts.origins thing) ≡ m → is_number_literal literal ≡ true
        go rest zero e =
            let s = sound thing told in
            let one : counts_on (slice_get consts.origins thing) ≡ 1 = counts_once (slice_get consts.origins thing) n (omega (arith, counted, e)) in
            let before : needed consts.origins thing ≡ Some (thing - 1) = counts_next thing (slice_get consts.origins thing) one in
            let same : source consts.origins thing ≡ thing - 1 = ap (or_itself thing) before in
            let end : EndsAt consts.origins (source consts.origins thing) last 0 = record { steps = steps; there = there; ends = none; counted = e } in
            let told_next = told_source thing told in
            let value = value_is (source consts.origins thing) last 0 literal (within (source consts.origins thing) told_next) end written in
            let alone = alone_is literal in
            let known : value_at consts (thing - 1) ≡ Some alone.0 = ap (value_at consts) (sym same) ∙ (value ∙ alone.1) in
            let one_of : counts_on (Some s.origin) ≡ 1 = ap counts_on (sym s.is) ∙ one in
            sym alone.2 ∙ s.counted one_of alone.0 known
        go rest (suc m) e = rest m e

    -- each thing has a value
    pub has_known : (thing : ℕ) → Told thing → HasKnown consts thing
    has_known thing told =
        let far : ℕ = ahead consts.origins (length consts.origins) thing in
        let none = ends thing told in
        let s = sound far (told_ahead (length consts.origins) thing told) in
        let last = written_is far s.origin (ap (needed_by far) (sym s.is) ∙ none) s.there in
        let written : slice_get consts.origins far ≡ Some (Written last.0) = s.is ∙ ap (λ (o : Origin). let w : Option Origin = Some o in w) last.1 in
        let end = ends_here consts.origins (length consts.origins) (omega arith) thing none in
        let more : ℕ = added consts.origins (length consts.origins) thing in
        let value = value_is thing far more last.0 (within thing told) end written in
        let known = known_is last.0 more (λ n e. numbers (length consts.origins) thing far n last.0 told refl none e written) in
        record { known = known.0; is = value ∙ known.1 }

    -- a thing that is another is what that is
    pub passed_on : (thing other : ℕ) → Told thing → needed consts.origins thing ≡ Some other → counts_on (slice_get consts.origins thing) ≡ 0
        → value_at consts thing ≡ value_at consts other
    unfolding ahead added
    passed_on thing other told needs plain =
        let told_other = closed thing other told needs in
        let far : ℕ = ahead consts.origins (length consts.origins) other in
        let more : ℕ = added consts.origins (length consts.origins) other in
        let none = ends other told_other in
        let s = sound far (told_ahead (length consts.origins) other told_other) in
        let last = written_is far s.origin (ap (needed_by far) (sym s.is) ∙ none) s.there in
        let written : slice_get consts.origins far ≡ Some (Written last.0) = s.is ∙ ap (λ (o : Origin). let w : Option Origin = Some o in w) last.1 in
        let same : source consts.origins thing ≡ other = ap (or_itself thing) needs in
        let here : EndsAt consts.origins thing far more = record {
          steps = suc (length consts.origins);
          there = ap (ahead consts.origins (length consts.origins)) same;
          ends = none;
          counted = let sum : added consts.origins (length consts.origins) (source consts.origins thing) ≡ more =
              ap (added consts.origins (length consts.origins)) same in
              omega (arith, sum, plain);
        } in
        let there = ends_here consts.origins (length consts.origins) (omega arith) other none in
        value_is thing far more last.0 (within thing told) here written ∙ sym (value_is other far more last.0 (within other told_other) there written)
