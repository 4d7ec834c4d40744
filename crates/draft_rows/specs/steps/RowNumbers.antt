-- Numbers of rows in 32 bits.
use Rattle.std.specs.Prelude.{ℕ, ◌^◌, nat_lt, if◌then◌else◌, Option, Some, None, Bool, ◌&&◌}
use Rattle.draft_rows.specs.declared.counts.Counts.{Counts}

-- a number of rows, where 32 bits hold it
abbrev pub row_number : ℕ → Option ℕ
row_number n = if nat_lt n (2 ^ 32) then Some n else None

-- whether 32 bits hold each of these numbers
abbrev pub are_small : Counts → Bool
are_small counts =
    nat_lt counts.structs (2 ^ 32) && nat_lt counts.unions (2 ^ 32) && nat_lt counts.enums (2 ^ 32)
    && nat_lt counts.interfaces (2 ^ 32) && nat_lt counts.consts (2 ^ 32)

-- numbers of rows, where 32 bits hold each
abbrev pub numbered : Counts → Option Counts
numbered counts = if are_small counts then Some counts else None
