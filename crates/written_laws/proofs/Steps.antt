-- What a thing is by what it needs: the literal that is written, what another thing is, or one more than the thing before.
use Rattle.std.proofs.Common.{◌≡◌, ◌<◌, ◌-◌, ℕ, zero, suc, ℤ, pos, ◌+ℤ◌, length, get_or, refl, sym, ◌∙◌, ap, arith}
use Rattle.std.specs.Prelude.{Option, Some, None, option_and_then, slice_get}
use Rattle.std.proofs.lemmas.Int.{ints}
use Rattle.std.proofs.lemmas.Option.{none-some, same_Some, slice_get_within, slice_get-get_or}
use Rattle.const_eval.specs.declared.consts.Consts.{Consts}
use Rattle.const_meanings.specs.declared.literal.Literal.{Literal}
use Rattle.const_meanings.specs.declared.literal.Literal.TheVariants as literals
use Rattle.const_meanings.specs.declared.meaning.Meaning.{Meaning}
use Rattle.const_meanings.specs.declared.meaning.Meaning.TheVariants.{Value, Circular, Nothing}
use Rattle.const_meanings.specs.declared.origin.Origin.{Origin}
use Rattle.const_meanings.specs.declared.origin.Origin.TheVariants.{Written, Of, Next}
use Rattle.const_meanings.specs.Known.{Known, TextValue, BoolValue, NumberValue, FloatValue, signed, number_of, alone, known_with}
use Rattle.const_meanings.specs.Needs.{needed_by, or_itself, source, ahead, added, counts_on, EndsAt}
use Rattle.const_meanings.specs.Meanings.{HasValue, IsMeaning, AreMeanings}
use Rattle.const_eval.specs.Consts.{known_of_origin, known_of_meaning, value_at}
use Rattle.const_meanings.proofs.Reaching.{one_meaning}

-- one more

sub_more : (z : ℤ) (more : ℕ) → z +ℤ pos (suc more) ≡ z +ℤ pos more +ℤ pos 1
sub_more z more = omega (arith, ints)

alone_number : (known : Known) (more : ℕ) (n : ℤ) → ((m : ℤ) → known ≡ NumberValue m → ⊥) → alone known more ≡ Some (NumberValue n) → ⊥
alone_number known zero n none e = none n (same_Some known (NumberValue n) e)
alone_number known (suc more) n none e = none-some (NumberValue n) e

-- one more than a number
number_more : (literal : Literal) (more : ℕ) (n : ℤ) → known_with literal more ≡ Some (NumberValue n)
    → known_with literal (suc more) ≡ Some (NumberValue (n +ℤ pos 1))
number_more (literals.Number negative magnitude) more n e =
    let same : number_of negative magnitude more ≡ n = ap known_number (same_Some (NumberValue (number_of negative magnitude more)) (NumberValue n) e) in
    let sum : number_of negative magnitude (suc more) ≡ n +ℤ pos 1 =
    sub_more (signed negative magnitude) more ∙ ap (λ (z : ℤ). z +ℤ pos 1) same in
    ap (λ (z : ℤ). let o : Option Known = Some (NumberValue z) in o) sum
  where
    known_number : Known → ℤ
    known_number (NumberValue z) = z
    known_number _ = pos 0
number_more (literals.Text bytes) more n e = absurd (alone_number (TextValue bytes) more n (λ m same. cc) e)
number_more (literals.Bool value) more n e = absurd (alone_number (BoolValue value) more n (λ m same. cc) e)
number_more literals.Float more n e = absurd (alone_number FloatValue more n (λ m same. cc) e)

module _ (consts : Consts) (are : AreMeanings consts.origins consts.meanings) where
  meaning_is : (thing : ℕ) (meaning : Meaning) → thing < length consts.origins → IsMeaning consts.origins thing meaning
      → slice_get consts.meanings thing ≡ Some meaning
  meaning_is thing meaning lt is =
      let found = slice_get-get_or consts.meanings thing Nothing (omega (arith, lt, are.count)) in
      let told = are.each thing lt (get_or consts.meanings thing Nothing) found in
      let same : get_or consts.meanings thing Nothing ≡ meaning =
      one_meaning consts.origins thing (get_or consts.meanings thing Nothing) meaning told is in
      found ∙ ap (λ (m : Meaning). let o : Option Meaning = Some m in o) same

  -- a thing whose need ends at a literal is so much more than that
  value_is : (thing last more : ℕ) (literal : Literal) → thing < length consts.origins → EndsAt consts.origins thing last more
      → slice_get consts.origins last ≡ Some (Written literal) → value_at consts thing ≡ known_with literal more
  value_is thing last more literal lt ends written =
      let has : HasValue consts.origins thing last more = record { literal = literal; ends = ends; written = written } in
      let meant = meaning_is thing (Value last more) lt has in
      ap (λ (o : Option Meaning). option_and_then (known_of_meaning consts.origins) o) meant
      ∙ ap (λ (o : Option Origin). option_and_then (known_of_origin more) o) written

  -- where the value of a thing comes from
  record Comes (thing : ℕ) (known : Known) : Type 0 where
    last : ℕ
    more : ℕ
    literal : Literal
    ends : EndsAt consts.origins thing last more
    written : slice_get consts.origins last ≡ Some (Written literal)
    is : known_with literal more ≡ Some known

  comes : (thing : ℕ) (known : Known) → value_at consts thing ≡ Some known → Comes thing known
  comes thing known e = go (slice_get consts.meanings thing) refl e
    where
      go : (o : Option Meaning) → slice_get consts.meanings thing ≡ o → option_and_then (known_of_meaning consts.origins) o ≡ Some known
          → Comes thing known
      go None is e = absurd (none-some known e)
      go (Some Circular) is e = absurd (none-some known e)
      go (Some Nothing) is e = absurd (none-some known e)
      go (Some (Value last more)) is e =
          let below = slice_get_within consts.meanings thing (Value last more) is in
          let has : HasValue consts.origins thing last more =
          are.each thing (omega (arith, below, are.count)) (Value last more) is in
          record {
            last = last;
            more = more;
            literal = has.literal;
            ends = has.ends;
            written = has.written;
            is = sym (ap (option_and_then (known_of_origin more)) has.written) ∙ e;
          }

  -- a thing at which a literal is written
  pub written_is : (thing : ℕ) (literal : Literal) → slice_get consts.origins thing ≡ Some (Written literal) → value_at consts thing ≡ known_with literal 0
  unfolding ahead added
  written_is thing literal e =
      let end : EndsAt consts.origins thing thing 0 = record { steps = zero; there = refl; ends = ap (needed_by thing) e; counted = refl } in
      value_is thing thing 0 literal (slice_get_within consts.origins thing (Written literal) e) end e

  -- a thing that is another
  pub passed_is : (thing other : ℕ) (known : Known) → slice_get consts.origins thing ≡ Some (Of other) → value_at consts other ≡ Some known
      → value_at consts thing ≡ Some known
  unfolding ahead added
  passed_is thing other known from e =
      let c = comes other known e in
      let same : source consts.origins thing ≡ other = ap (or_itself thing) (ap (needed_by thing) from) in
      let plain : counts_on (slice_get consts.origins thing) ≡ 0 = ap counts_on from in
      let end : EndsAt consts.origins thing c.last c.more = record {
        steps = suc c.ends.steps;
        there = ap (ahead consts.origins c.ends.steps) same ∙ c.ends.there;
        ends = c.ends.ends;
        counted = let sum : added consts.origins c.ends.steps (source consts.origins thing) ≡ c.more =
            ap (added consts.origins c.ends.steps) same ∙ c.ends.counted in
            omega (arith, sum, plain);
      } in
      value_is thing c.last c.more c.literal (slice_get_within consts.origins thing (Of other) from) end c.written ∙ c.is

  -- a thing that is one more than the one before
  pub next_is : (thing : ℕ) (n : ℤ) → slice_get consts.origins thing ≡ Some Next → value_at consts (thing - 1) ≡ Some (NumberValue n)
      → value_at consts thing ≡ Some (NumberValue (n +ℤ pos 1))
  unfolding ahead added
  next_is thing n from e =
      let c = comes (thing - 1) (NumberValue n) e in
      let same : source consts.origins thing ≡ thing - 1 = ap (or_itself thing) (ap (needed_by thing) from) in
      let one : counts_on (slice_get consts.origins thing) ≡ 1 = ap counts_on from in
      let end : EndsAt consts.origins thing c.last (suc c.more) = record {
        steps = suc c.ends.steps;
        there = ap (ahead consts.origins c.ends.steps) same ∙ c.ends.there;
        ends = c.ends.ends;
        counted = let sum : added consts.origins c.ends.steps (source consts.origins thing) ≡ c.more =
            ap (added consts.origins c.ends.steps) same ∙ c.ends.counted in
            omega (arith, sum, one);
      } in
      value_is thing c.last (suc c.more) c.literal (slice_get_within consts.origins thing Next from) end c.written
      ∙ number_more c.literal c.more n c.is
