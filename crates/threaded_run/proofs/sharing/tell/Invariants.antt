use Rattle.std.proofs.Common.{◌≡◌, ◌≤◌, ◌<◌, ℕ, Some, length}
use Rattle.std.specs.Prelude.{slice_get}
use Rattle.threaded_run.specs.steps.Passes.{Shown}
use Rattle.threaded_run.proofs.sharing.tell.Given as goal

abbrev pub invariant-loop-other : goal.invariant-loop-other
invariant-loop-other l =
    Shown l.hub.turn.board.shared.table_id l.hub.turn.board.shared.key.0.value.core.schema l.hub.turn.board.shared.key.0.value.core.seqs l.fn.one.number
    l.fn.one.place.me.0 l.fn.one.place.me.0.seen l.one.number l.one.place.table_id l.one.place.me.0
    × (length l.other-items ≡ length l.fn.others)
    × ((k : ℕ) (p : _) → k < l.other-index → slice_get l.fn.others k ≡ Some p → (q : _) × (slice_get l.other-items k ≡ Some q)
    × Shown l.hub.turn.board.shared.table_id l.hub.turn.board.shared.key.0.value.core.schema l.hub.turn.board.shared.key.0.value.core.seqs p.number
    p.place.me.0 l.fn.one.place.me.0.seen q.number q.place.table_id q.place.me.0)
    × ((k : ℕ) (p : _) → l.other-index ≤ k → slice_get l.fn.others k ≡ Some p → slice_get l.other-items k ≡ Some p)
