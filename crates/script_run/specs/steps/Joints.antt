-- What a join gives to the sequences.
use Rattle.std.specs.Prelude.{ℕ, Bool, true, false, ◌≡◌, ◌+◌, ◌≤◌, ◌<◌, ◌==◌, ◌++◌, List, [], ◌∷◌, length, Some, slice_get, vec_len, vec_capacity}
use Rattle.mj_base.specs.declared.ids.SeqId.{SeqId}
use Rattle.mj_base.specs.declared.limits.TheConstants.{MAX_EVENTS}
use Rattle.handle_table.specs.declared.thing.Thing.{Thing}
use Rattle.bind_core.specs.Play.{Play}
use Rattle.bind_model.specs.Seen.{KeepsLegal}
use Rattle.bind_model.specs.declared.asked.Asked.TheVariants as asks
use Rattle.bind_model.specs.declared.event.Event.{Event}
use Rattle.bind_model.specs.declared.told.Told.TheVariants as tells
use Rattle.call_script.specs.declared.script.NameId.{NameId}
use Rattle.remote_receiver.specs.declared.rest.Rest.{Rest}
use Rattle.script_run.specs.declared.joins.Joint.{Joint}
use Rattle.script_run.specs.declared.plain.Plain.{Plain}
use Rattle.script_names.specs.declared.rooms.Rooms.{Rooms}
use Rattle.script_run.specs.Draining.{HaveRested}
use Rattle.script_names.specs.Tables.{filled}
use Rattle.script_run.specs.Rooms.{Come, GaveBoth, filled_if}

-- ## Space in rooms

-- in a room there is a place for so many handles without names
abbrev pub HasSpace : ℕ → Rooms → Type 0
HasSpace count room = count + vec_len room.handles.others ≤ vec_capacity room.handles.others

-- in the room of a sequence there is such a place
abbrev pub HasSpaceAt : ℕ → SeqId → List Rooms → Type 0
HasSpaceAt count s rooms = (room : Rooms) → slice_get rooms s.0 ≡ Some room → HasSpace count room

-- ## What happens to a room

-- it has more space, and else nothing differs
pub record Spared (k : ℕ) (before after : Rooms) : Type 0 where
  pub stands : after.stands ≡ before.stands
  pub handles : after.handles.named ≡ before.handles.named
  pub pendings : after.pendings ≡ before.pendings
  pub responders : after.responders ≡ before.responders
  pub kept : after.kept ≡ before.kept

-- a name stands for this from now on
pub record Knows (n : NameId) (x : Thing) (k : ℕ) (before after : Rooms) : Type 0 where
  pub stands : after.stands.things.items ≡ filled before.stands.things.items n x
  pub handles : after.handles ≡ before.handles
  pub pendings : after.pendings ≡ before.pendings
  pub responders : after.responders ≡ before.responders

-- where it was told already
abbrev pub KnowsIf : NameId → Thing → Bool → ℕ → Rooms → Rooms → Type 0
KnowsIf n x true k before after = Knows n x k before after
KnowsIf n x false k before after = after ≡ before

-- an end came under a name: all know it, and the sequence that it is for holds it
pub record Gave (s : SeqId) (n : NameId) (x : Thing) (k : ℕ) (before after : Rooms) : Type 0 where
  pub stands : after.stands.things.items ≡ filled before.stands.things.items n x
  pub handles : after.handles.named.items ≡ filled_if (s.0 == k) before.handles.named.items n x
  pub pendings : after.pendings.named ≡ before.pendings.named
  pub responders : after.responders.named ≡ before.responders.named
  pub used : vec_len after.handles.others ≤ vec_len before.handles.others + 1
  pub space : vec_capacity after.handles.others ≡ vec_capacity before.handles.others

-- ## The whole join

-- its event
abbrev pub joint_event : Joint → Thing → Thing → Event
joint_event joint x y = record { seq = joint.seq; asked = asks.Join joint.other; told = tells.Made (x ∷ y ∷ []) }

-- it was asked, and told these two ends
pub record Joined (joint : Joint) (x y : Thing) (before after : Play) (desks : List (Rest Plain)) : Type 0 where
  pub schema : after.schema ≡ before.schema
  pub seqs : after.seqs ≡ before.seqs
  pub event : after.events ≡ before.events ++ joint_event joint x y ∷ []
  pub legal : KeepsLegal before.schema before.seqs before.events after.events
  pub few : length before.events < MAX_EVENTS
  pub rests : HaveRested after desks

-- and they came under their names
pub record HasMade (joint : Joint) (before after : Play) (desks : List (Rest Plain)) (old new : List Rooms) : Type 0 where
  pub first : Thing
  pub second : Thing
  pub joined : Joined joint first second before after desks
  pub rooms : Come (GaveBoth joint first second) old new
