use Rattle.std.proofs.Common.{◌≡◌, ◌≤◌, ℕ, Some, vec_len, vec_capacity}
use Rattle.std.specs.Prelude.{slice_get}
use Rattle.script_names.specs.declared.rooms.Rooms.{Rooms}
use Rattle.script_run.specs.Rooms.{IsUnnamed}
use Rattle.script_run.proofs.run.add_rooms.Given as goal

abbrev pub invariant-loop : goal.invariant-loop
invariant-loop l = record {
  room : l.script.seqs ≤ vec_capacity l.rooms;
  count : vec_len l.rooms ≡ l.counter;
  each : (k : ℕ) (room : Rooms) → slice_get l.rooms.items k ≡ Some room → IsUnnamed 0 room;
}
