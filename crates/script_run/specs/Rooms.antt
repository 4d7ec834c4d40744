-- The rooms of the sequences: before the joins, and what a join gives to them.
use Rattle.std.specs.Prelude.{ℕ, Bool, true, false, ◌≡◌, ◌==◌, List, length, replicate, Option, Some, None, slice_get}
use Rattle.mj_base.specs.declared.ids.SeqId.{SeqId}
use Rattle.handle_table.specs.declared.thing.Thing.{Thing}
use Rattle.call_script.specs.declared.script.NameId.{NameId}
use Rattle.script_names.specs.Rooms.{HasPlaces}
use Rattle.script_names.specs.Tables.{filled}
use Rattle.script_names.specs.declared.rooms.Rooms.{Rooms}
use Rattle.script_run.specs.declared.joins.Joint.{Joint}

-- ## Rooms at the start

-- a room with so many names, which stand for nothing
pub record IsUnnamed (size : ℕ) (room : Rooms) : Type 0 where
  pub stands : room.stands.things.items ≡ replicate size None
  pub handles : room.handles.named.items ≡ replicate size None
  pub pendings : room.pendings.named.items ≡ replicate size None
  pub responders : room.responders.named.items ≡ replicate size None

-- so many of them
pub record AreUnnamed (seqs size : ℕ) (rooms : List Rooms) : Type 0 where
  pub count : length rooms ≡ seqs
  pub each : (k : ℕ) (room : Rooms) → slice_get rooms k ≡ Some room → IsUnnamed size room

-- ## Rooms by their numbers

-- each of the rooms comes of the one at its number before
abbrev pub ComesOf : (ℕ → Rooms → Rooms → Type 0) → List Rooms → List Rooms → Type 0
ComesOf how old new =
    (k : ℕ) (after : Rooms) → slice_get new k ≡ Some after → (before : Rooms) × (slice_get old k ≡ Some before) × how k before after

-- so does each, and there are as many as before
pub record Come (how : ℕ → Rooms → Rooms → Type 0) (old new : List Rooms) : Type 0 where
  pub count : length new ≡ length old
  pub each : ComesOf how old new

-- in the room of a sequence there are places for so much that there may be no place for elsewhere
abbrev pub HasPlacesAt : ℕ → SeqId → List Rooms → Type 0
HasPlacesAt count s rooms = (room : Rooms) → slice_get rooms s.0 ≡ Some room → HasPlaces count room

-- ## What a join gives

-- it is held under the name, where it is for this sequence
abbrev pub filled_if : Bool → List (Option Thing) → NameId → Thing → List (Option Thing)
filled_if true table n x = filled table n x
filled_if false table n x = table

-- both ends of a join came under their names
pub record GaveBoth (joint : Joint) (x y : Thing) (k : ℕ) (before after : Rooms) : Type 0 where
  pub stands : after.stands.things.items ≡ filled (filled before.stands.things.items joint.second y) joint.first x
  pub handles : after.handles.named.items
      ≡ filled_if (joint.seq.0 == k) (filled_if (joint.other.0 == k) before.handles.named.items joint.second y) joint.first x
  pub pendings : after.pendings.named ≡ before.pendings.named
  pub responders : after.responders.named ≡ before.responders.named
