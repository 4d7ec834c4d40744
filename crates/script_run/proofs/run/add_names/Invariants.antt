use Rattle.std.proofs.Common.{◌≡◌, ◌≤◌, ◌<◌, ℕ, Some}
use Rattle.std.specs.Prelude.{slice_get}
use Rattle.script_names.specs.declared.rooms.Rooms.{Rooms}
use Rattle.script_run.specs.Rooms.{IsUnnamed}
use Rattle.script_run.proofs.run.add_names.Given as goal

abbrev pub invariant-loop-room : goal.invariant-loop-room
invariant-loop-room l = record {
  done : (k : ℕ) (room : Rooms) → k < l.room-index → slice_get l.room-items k ≡ Some room → IsUnnamed l.names room;
  left : (k : ℕ) (room : Rooms) → l.room-index ≤ k → slice_get l.room-items k ≡ Some room → IsUnnamed 0 room;
}
