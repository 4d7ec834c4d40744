use Rattle.std.proofs.Common.{◌≡◌, ◌⊎◌, ◌≤◌, ◌+◌, ℕ, length, Some}
use Rattle.std.specs.Prelude.{slice_get, vec_capacity}
use Rattle.hub_tests.proofs.seats.seat_all.Given as goal

abbrev pub invariant-loop-pass : goal.invariant-loop-pass
invariant-loop-pass g l =
    (length l.passes.items + length l.rows.items ≡ length l.fn.passes.items) × (vec_capacity l.passes ≡ vec_capacity l.fn.passes)
    × (length l.fn.passes.items ≤ vec_capacity l.rows)
    × ((j : ℕ) (row : _) → slice_get l.rows.items j ≡ Some row → row.seat.hub.now ≡ l.fn.hub)
    × ((k : ℕ) (p : _) → slice_get l.passes.items k ≡ Some p → slice_get l.fn.passes.items k ≡ Some p)
    × ((k : ℕ) (p : _) → slice_get l.fn.passes.items k ≡ Some p → (slice_get l.passes.items k ≡ Some p)
    ⊎ ((j : ℕ) × (row : _) × (slice_get l.rows.items j ≡ Some row) × (row.seat.pass ≡ p)))

abbrev pub decreases-loop-pass : goal.decreases-loop-pass
decreases-loop-pass g l = length l.passes.items
