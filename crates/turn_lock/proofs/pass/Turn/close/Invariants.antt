use Rattle.std.proofs.Common.{◌≡◌, ◌⊎◌, ℕ, length, Some}
use Rattle.std.specs.Prelude.{slice_get}
use Rattle.turn_lock.specs.Lists.{Begins}
use Rattle.turn_lock.specs.steps.Turns.{IsIdle, HasPart}
use Rattle.turn_lock.specs.Passing.{mine_of}
use Rattle.turn_lock.proofs.pass.Turn.close.Given as goal

abbrev pub invariant-loop-pass : goal.invariant-loop-pass
invariant-loop-pass g l =
    (l.seat.table_id ≡ l.board.shared.table_id) × ((l.board.shared.table_id.words ≡ 2) × (l.board.shared.table_id.slots ≡ 1)) × IsIdle l.seat.me
    × (l.seat.me.0.basis ≡ Some (g.T.Entries.basis l.fn.self.board.shared.key.0.value)) × (l.board.shared.table_id ≡ l.fn.self.board.shared.table_id)
    × ((k : ℕ) (p : _) → slice_get l.fn.passes.items k ≡ Some p → (slice_get l.passes.items k ≡ Some p)
    ⊎ (Begins p.place.me.0.seen l.seat.me.0.seen × HasPart p.number (mine_of p.place.me.0.parts) l.seat.me.0.parts))
    × ((k : ℕ) (p : _) → slice_get l.passes.items k ≡ Some p → slice_get l.fn.passes.items k ≡ Some p)

abbrev pub decreases-loop-pass : goal.decreases-loop-pass
decreases-loop-pass g l = length l.passes.items
