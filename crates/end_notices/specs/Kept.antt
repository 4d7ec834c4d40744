-- Numbers that an end keeps by the ids of its endpoints.
use Rattle.std.specs.Prelude.{ℕ, Bool, ◌==◌, List, unwrap_or, is_some}
use Rattle.std.specs.Map.{lookup}

-- how many queries wait at the endpoint of an id
abbrev pub waiting : List (ℕ × ℕ) → ℕ → ℕ
waiting counts id = unwrap_or (lookup (λ k. id == k) counts) 0

-- whether there is a place for those of the endpoint of an id
abbrev pub has_place : List (ℕ × ℕ) → ℕ → Bool
has_place counts id = is_some (lookup (λ k. id == k) counts)
