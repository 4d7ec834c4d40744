-- What is read of a stream whose bytes are known.
use Rattle.std.specs.Prelude.{ℕ, ◌≤◌, List, length, Option, Some, None}
use Rattle.std.specs.Io.KnownBytes.{Consumes}
use Rattle.mj_io.specs.Outside.{FetchedOf}
use Rattle.mj_io.specs.declared.Fetched.{Fetched}

-- where the bytes that are left are known, they are fetched as those of a file
abbrev pub ReadUpTo : Option (List ℕ) → Fetched → ℕ → List ℕ → List ℕ → Type 0
ReadUpTo None fetched limit old new = Unit {0}
ReadUpTo (Some bytes) fetched limit old new = FetchedOf fetched limit bytes old new

-- at most `most` bytes were taken from the stream
pub record TakesAtMost (most : ℕ) (before now : Option (List ℕ)) : Type 0 where
  pub bytes : List ℕ
  pub taken : Consumes before now bytes
  pub few : length bytes ≤ most
