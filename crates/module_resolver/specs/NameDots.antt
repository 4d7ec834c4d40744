-- How many dots names have, and which numbers of dots full names have, as the code keeps it.
use Rattle.std.specs.Prelude.{ℕ, ◌+◌, ◌==◌, ◌<◌, ◌≤◌, if◌then◌else◌, List, [], ◌∷◌, length, get_or}

-- how many dots a text has
abbrev pub dots_in : List ℕ → ℕ
dots_in [] = 0
dots_in (byte ∷ text) = (if byte == 46 then 1 else 0) + dots_in text

-- the greatest number of a full name, not above this one; or a number that is above those of all
abbrev pub reached : List ℕ → ℕ → ℕ
reached lengths len = get_or lengths len (length lengths)

-- the number stands between two of full names
pub record IsBetween (lengths : List ℕ) (between : ℕ) : Type 0 where
  pub len : ℕ
  pub above : reached lengths len < between
  pub below : between ≤ len
