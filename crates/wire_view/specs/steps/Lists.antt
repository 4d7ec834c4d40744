-- Lists of bytes behind pointers.
use Rattle.std.specs.Prelude.{◌≡◌, ℕ, ◌+◌, ◌≤◌, ◌==◌, List, length, take, drop, Option, Some, None, false, if◌then◌else◌}
use Rattle.mj_base.specs.Bytes.{number32, number64}

-- the bytes of the list at a place
abbrev pub bytes_at : List ℕ → ℕ → List ℕ
bytes_at bytes p = take (number32 bytes (p + 4)) (drop (p + 8) bytes)

-- what a pointer leads to, unless it is null
abbrev pub bytes_behind : List ℕ → ℕ → Option (List ℕ)
bytes_behind bytes p = if number64 bytes p == 0 then None else Some (bytes_at bytes (p + number64 bytes p))

-- where it isn't null, the list lies within the bytes
abbrev pub IsThere : List ℕ → ℕ → Type 0
IsThere bytes p = ((number64 bytes p == 0) ≡ false) → p + number64 bytes p + 8 + number32 bytes (p + number64 bytes p + 4) ≤ length bytes
