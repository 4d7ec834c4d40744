use Rattle.std.proofs.Common.{◌≡◌, ◌⊎◌, ◌≤◌, ◌+◌, ℕ, length, Some, None}
use Rattle.std.specs.Prelude.{Err, OnOk, slice_get, vec_capacity}
use Rattle.remote_receiver.specs.Held.{kept_of}
use Rattle.remote_receiver.specs.Waits.{AreDrawn}
use Rattle.threaded_run.proofs.seats.rise_all.Given as goal

-- the first workers still sit, and what the others had is put back, the last one's first
abbrev pub invariant-loop-worker : goal.invariant-loop-worker
invariant-loop-worker g l = record {
  counts : (length l.crew.rests.items ≡ length l.crew.passes.items) × (length l.crew.rooms.items ≡ length l.crew.passes.items);
  all : length l.crew.passes.items + length l.workers.items ≡ length l.fn.workers.items;
  room : (length l.fn.workers.items ≤ vec_capacity l.crew.passes) × (length l.fn.workers.items ≤ vec_capacity l.crew.rests)
      × (length l.fn.workers.items ≤ vec_capacity l.crew.rooms);
  old : (j : ℕ) (w : _) → slice_get l.workers.items j ≡ Some w → slice_get l.fn.workers.items j ≡ Some w;
  back : (k : ℕ) (p : _) (rest : _) → slice_get l.crew.passes.items k ≡ Some p → slice_get l.crew.rests.items k ≡ Some rest
      → (j : ℕ) × (w : _) × (slice_get l.fn.workers.items j ≡ Some w) × (k + (j + 1) ≡ length l.fn.workers.items)
      × (w.desk.stepper.pass ≡ p) × (kept_of rest.jobs ≡ kept_of w.desk.jobs) × AreDrawn p.place.me.0.seen rest.jobs.waiting.callbacks;
  done : OnOk l.done ((j : ℕ) (w : _) → slice_get l.fn.workers.items j ≡ Some w → (slice_get l.workers.items j ≡ Some w) ⊎ (w.cut ≡ None));
  cut : (why : _) → l.done ≡ Err why → (j : ℕ) × (w : _) × (slice_get l.fn.workers.items j ≡ Some w) × (w.cut ≡ Some why);
}

abbrev pub decreases-loop-worker : goal.decreases-loop-worker
decreases-loop-worker g l = length l.workers.items
