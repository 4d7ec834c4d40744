-- Which numbers of dots full names have, as the code keeps it.
use Rattle.std.specs.Prelude.{ℕ, ◌≡◌, ◌+◌, ◌-◌, ◌<◌, ◌≤◌, nat_lt, Bool, false, if◌then◌else◌, List, length, get_or, Option, Some, None}
use Rattle.module_resolver.specs.NameDots.{reached}

-- for each number the greatest that is marked and not above it
pub record IsLesser (marks : List Bool) (lesser : List ℕ) : Type 0 where
  pub long : length lesser ≡ length marks
  pub skips : (len between : ℕ) → len < length marks → get_or lesser len 0 < between → between ≤ len → get_or marks between false ≡ false

-- how many dots an outer name, of no more than so many, may have where a full name is that of a name of so many in it
abbrev pub limit_of : List ℕ → ℕ → ℕ → Option ℕ
limit_of lengths outer name =
    if nat_lt name (reached lengths (outer + name + 1)) then Some (reached lengths (outer + name + 1) - name - 1) else None
