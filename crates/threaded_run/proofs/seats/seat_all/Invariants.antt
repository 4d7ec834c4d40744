use Rattle.std.proofs.Common.{◌≡◌, ◌≤◌, ◌+◌, ℕ, length, Some}
use Rattle.std.specs.Prelude.{slice_get, vec_capacity}
use Rattle.remote_receiver.specs.Held.{kept_of}
use Rattle.threaded_run.specs.steps.Workers.{IsSeated}
use Rattle.threaded_run.proofs.seats.seat_all.Given as goal

-- the first of the passes, desks and rooms are still there, and the others sit at their places, the last first
abbrev pub invariant-loop-place : goal.invariant-loop-place
invariant-loop-place g l = record {
  counts : (length l.crew.rests.items ≡ length l.crew.passes.items) × (length l.crew.rooms.items ≡ length l.crew.passes.items);
  all : length l.crew.passes.items + length l.workers.items ≡ length l.fn.crew.passes.items;
  room : length l.fn.crew.passes.items ≤ vec_capacity l.workers;
  capacity : (vec_capacity l.crew.passes ≡ vec_capacity l.fn.crew.passes) × (vec_capacity l.crew.rests ≡ vec_capacity l.fn.crew.rests)
      × (vec_capacity l.crew.rooms ≡ vec_capacity l.fn.crew.rooms);
  passes : (k : ℕ) (p : _) → slice_get l.crew.passes.items k ≡ Some p → slice_get l.fn.crew.passes.items k ≡ Some p;
  rests : (k : ℕ) (rest : _) → slice_get l.crew.rests.items k ≡ Some rest → slice_get l.fn.crew.rests.items k ≡ Some rest;
  rooms : (k : ℕ) (room : _) → slice_get l.crew.rooms.items k ≡ Some room → slice_get l.fn.crew.rooms.items k ≡ Some room;
  hub : (j : ℕ) (w : _) → slice_get l.workers.items j ≡ Some w → w.desk.stepper.hub.now ≡ l.hub;
  each : (j : ℕ) (w : _) → slice_get l.workers.items j ≡ Some w
      → IsSeated l.fn.crew.passes.items l.fn.crew.rests.items l.fn.crew.rooms.items j w.desk.stepper.pass (kept_of w.desk.jobs) w.room;
}

abbrev pub decreases-loop-place : goal.decreases-loop-place
decreases-loop-place g l = length l.crew.passes.items
