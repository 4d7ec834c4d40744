use Rattle.std.proofs.Common.{◌≡◌, ◌≤◌, ℕ, length, Some}
use Rattle.std.specs.Prelude.{slice_get}
use Rattle.std.specs.Vec.{vec_capacity, vec_len}
use Rattle.turn_lock.specs.Passing.{IsFresh}
use Rattle.turn_lock.specs.steps.Turns.{HasDealt}
use Rattle.turn_lock.proofs.pass.Turn.new.Given as goal

abbrev pub invariant-loop : goal.invariant-loop
invariant-loop g l =
    ((l.board.shared.table_id.words ≡ 2) × (l.board.shared.table_id.slots ≡ 1))
    × HasDealt l.board.shared.table_id (Some (g.T.Entries.basis l.fn.value)) l.counter l.dealer.table_id l.dealer.me
    × (l.board.shared.key.1 ≡ l.fn.seats) × (length l.passes.items ≡ l.counter) × (l.seats ≤ vec_capacity l.passes) × (vec_len l.passes ≡ l.counter)
    × ((k : ℕ) (p : _) → slice_get l.passes.items k ≡ Some p → (p.number ≡ k)
    × IsFresh l.board.shared.table_id l.dealer.me.0.basis k p.place.table_id p.place.me)
