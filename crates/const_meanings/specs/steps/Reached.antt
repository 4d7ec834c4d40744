-- What the code keeps of where steps lead.
use Rattle.std.specs.Prelude.{ℕ, ◌+◌, ◌<◌, ◌≡◌, ◌==◌, Bool, true, false, List, length, slice_get, Option, Some, None}
use Rattle.std.specs.List.{list_any}
use Rattle.const_meanings.specs.declared.origin.Origin.{Origin}
use Rattle.const_meanings.specs.declared.origin.Origin.TheVariants.{Written}
use Rattle.const_meanings.specs.declared.reach.Reach.{Reach}
use Rattle.const_meanings.specs.Needs.{needed_by, or_itself, counts_on, ahead, added}

-- where one step leads
abbrev pub step : ℕ → Origin → Reach
step thing origin = record { thing = or_itself thing (needed_by thing (Some origin)); added = counts_on (Some origin) }

-- where so many steps lead from this thing
abbrev pub reach : List Origin → ℕ → ℕ → Reach
reach things steps thing = record { thing = ahead things steps thing; added = added things steps thing }

-- where so many steps lead from each thing
pub record AreFar (things : List Origin) (steps : ℕ) (reaches : List Reach) : Type 0 where
  pub count : length reaches ≡ length things
  pub far : (thing : ℕ) → thing < length things → slice_get reaches thing ≡ Some (reach things steps thing)

-- the steps of one, and then those of another
abbrev pub and_then : Reach → Option Reach → Reach
and_then one None = one
and_then one (Some other) = record { thing = other.thing; added = one.added + other.added }

-- as many steps again
abbrev pub beyond : List Reach → Reach → Reach
beyond reaches one = and_then one (slice_get reaches one.thing)

-- one of them leads there
abbrev pub is_reached : List Reach → ℕ → Bool
is_reached reaches thing = list_any (λ (r : Reach). r.thing == thing) reaches

-- a literal is written there
abbrev pub is_written : Option Origin → Bool
is_written (Some (Written literal)) = true
is_written _ = false
