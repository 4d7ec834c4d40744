-- What a sequence holds, as its names see it.
use Rattle.std.specs.Prelude.{ℕ, ◌≡◌, ◌+◌, ◌≤◌, length, vec_len, vec_capacity}
use Rattle.bind_model.specs.declared.commands.Command.{Command}
use Rattle.bind_model.specs.declared.commands.Reply.{Reply}
use Rattle.script_names.specs.declared.rooms.Rooms.{Rooms}
use Rattle.script_names.specs.Carried.{halves_back, halves_room, halves_with, things_back, things_with}

-- nothing of this differs
pub record SameHeld (old new : Rooms) : Type 0 where
  pub stands : new.stands ≡ old.stands
  pub handles : new.handles.named ≡ old.handles.named
  pub pendings : new.pendings.named ≡ old.pendings.named
  pub responders : new.responders.named ≡ old.responders.named

-- room for what there may be no place for: two lists and a command
abbrev pub HasPlaces : ℕ → Rooms → Type 0
HasPlaces count rooms = count + vec_len rooms.kept ≤ vec_capacity rooms.kept

-- room for so many handles and pendings without names, and for a responder
pub record HasRoom (things halves : ℕ) (rooms : Rooms) : Type 0 where
  pub handles : things + vec_len rooms.handles.others ≤ vec_capacity rooms.handles.others
  pub pendings : halves + vec_len rooms.pendings.others ≤ vec_capacity rooms.pendings.others
  pub responders : 1 + vec_len rooms.responders.others ≤ vec_capacity rooms.responders.others

-- room for what may come back of a command
abbrev pub HasRoomFor : Command → Rooms → Type 0
HasRoomFor command rooms = HasRoom (length (things_with command)) (halves_room command) rooms

-- room for what comes back with a refused command
abbrev pub HasRoomBack : Command → Rooms → Type 0
HasRoomBack command rooms = HasRoom (length (things_with command)) (length (halves_with command)) rooms

-- room for what comes back with a reply
abbrev pub HasRoomBehind : Reply → Rooms → Type 0
HasRoomBehind reply rooms = HasRoom (length (things_back reply)) (halves_back reply) rooms
