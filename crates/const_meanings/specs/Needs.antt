-- What constants and enumerators need, and what values they have.
use Rattle.std.specs.Prelude.{ℕ, zero, suc, ◌+◌, ◌-◌, ◌≡◌, List, slice_get, Option, Some, None}
use Rattle.const_meanings.specs.declared.origin.Origin.{Origin}
use Rattle.const_meanings.specs.declared.origin.Origin.TheVariants.{Of, Next}

-- what a thing of this number needs, whose value comes from here: the one other thing of that number, or nothing
abbrev pub needed_by : ℕ → Option Origin → Option ℕ
needed_by thing (Some (Of other)) = Some other
needed_by thing (Some Next) = Some (thing - 1)
needed_by thing _ = None

-- what a thing needs, by its number
abbrev pub needed : List Origin → ℕ → Option ℕ
needed things thing = needed_by thing (slice_get things thing)

-- where its value comes from: the thing that it needs, or itself where it needs nothing
abbrev pub or_itself : ℕ → Option ℕ → ℕ
or_itself thing None = thing
or_itself thing (Some other) = other

-- where the value of a thing comes from, by its number
abbrev pub source : List Origin → ℕ → ℕ
source things thing = or_itself thing (needed things thing)

-- where so many steps lead
unfoldable pub ahead : List Origin → ℕ → ℕ → ℕ
ahead things zero thing = thing
ahead things (suc steps) thing = ahead things steps (source things thing)

-- one where the value is the number after that of the thing before
abbrev pub counts_on : Option Origin → ℕ
counts_on (Some Next) = 1
counts_on _ = 0

-- how many of so many steps count on
unfoldable pub added : List Origin → ℕ → ℕ → ℕ
added things zero thing = 0
added things (suc steps) thing = counts_on (slice_get things thing) + added things steps (source things thing)

-- it needs something, and what that needs, and so on, comes back to it
pub record NeedsItself (things : List Origin) (thing : ℕ) : Type 0 where
  pub other : ℕ
  pub needs : needed things thing ≡ Some other
  pub steps : ℕ
  pub back : ahead things steps other ≡ thing

-- some steps lead to this thing, which needs nothing, and so many of them count on
pub record EndsAt (things : List Origin) (thing : ℕ) (last : ℕ) (more : ℕ) : Type 0 where
  pub steps : ℕ
  pub there : ahead things steps thing ≡ last
  pub ends : needed things last ≡ None
  pub counted : added things steps thing ≡ more
