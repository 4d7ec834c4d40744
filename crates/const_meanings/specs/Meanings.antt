-- What constants and enumerators mean.
use Rattle.std.specs.Prelude.{ℕ, ◌<◌, ◌≡◌, List, length, slice_get, Some}
use Rattle.const_meanings.specs.declared.literal.Literal.{Literal}
use Rattle.const_meanings.specs.declared.origin.Origin.{Origin}
use Rattle.const_meanings.specs.declared.origin.Origin.TheVariants.{Written}
use Rattle.const_meanings.specs.declared.meaning.Meaning.{Meaning}
use Rattle.const_meanings.specs.declared.meaning.Meaning.TheVariants.{Value, Circular, Nothing}
use Rattle.const_meanings.specs.Needs.{NeedsItself, EndsAt}

-- what is needed ends at this thing, where a literal is written, and so many steps there count on
pub record HasValue (things : List Origin) (thing last more : ℕ) : Type 0 where
  pub literal : Literal
  pub ends : EndsAt things thing last more
  pub written : slice_get things last ≡ Some (Written literal)

-- a thing means a literal and how much is added to it, or needs itself, or neither
abbrev pub IsMeaning : List Origin → ℕ → Meaning → Type 0
IsMeaning things thing (Value last more) = HasValue things thing last more
IsMeaning things thing Circular = NeedsItself things thing
IsMeaning things thing Nothing = ¬ NeedsItself things thing × ((last more : ℕ) → ¬ HasValue things thing last more)

-- each thing, what it means
pub record AreMeanings (things : List Origin) (meanings : List Meaning) : Type 0 where
  pub count : length meanings ≡ length things
  pub each : (thing : ℕ) → thing < length things → (meaning : Meaning) → slice_get meanings thing ≡ Some meaning → IsMeaning things thing meaning
