use Rattle.std.proofs.Common.{◌≡◌, ◌⊎◌, ◌≤◌, ◌+◌, ℕ, length, Some}
use Rattle.std.specs.Prelude.{slice_get, vec_capacity}
use Rattle.hub_tests.proofs.seats.rise_all.Given as goal

abbrev pub invariant-loop-row : goal.invariant-loop-row
invariant-loop-row g l =
    (length l.passes.items + length l.rows.items ≡ length l.fn.rows.items) × (length l.fn.rows.items ≤ vec_capacity l.passes)
    × (length l.told.items + length l.rows.items ≡ length l.fn.rows.items) × (length l.fn.rows.items ≤ vec_capacity l.told)
    × ((j : ℕ) (row : _) → slice_get l.rows.items j ≡ Some row → slice_get l.fn.rows.items j ≡ Some row)
    × ((j : ℕ) (row : _) → slice_get l.fn.rows.items j ≡ Some row → (slice_get l.rows.items j ≡ Some row)
    ⊎ ((k : ℕ) × (slice_get l.passes.items k ≡ Some row.seat.pass)))
    × ((k : ℕ) (p : _) → slice_get l.passes.items k ≡ Some p → (j : ℕ) × (row : _) × (slice_get l.fn.rows.items j ≡ Some row) × (row.seat.pass ≡ p))

abbrev pub decreases-loop-row : goal.decreases-loop-row
decreases-loop-row g l = length l.rows.items
