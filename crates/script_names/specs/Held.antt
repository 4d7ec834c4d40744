-- What a sequence holds, as its names see it.
use Rattle.std.specs.Prelude.{ℕ, ◌≡◌, length, Option, List, slice_get, option_and_then}
use Rattle.std.specs.Option.{option_map}
use Rattle.bind_model.specs.Pendings.{Half}
use Rattle.bind_model.specs.declared.endpoint.PendingId.{PendingId}
use Rattle.script_names.specs.declared.rooms.Rooms.{Rooms}
use Rattle.script_names.specs.Names.{Named}
use Rattle.call_script.specs.declared.script.NameId.{NameId}

module _ {X : Type 0} where
  -- what is held under a name, by its number
  abbrev pub held_at : List (Option X) → NameId → Option X
  held_at table n = option_and_then (λ (held : Option X). held) (slice_get table n.0)

-- the name of what is held
abbrev pub name_of : Option Half → Option PendingId
name_of half = option_map (λ (h : Half). h.name) half

-- what names stand for and hold
abbrev pub names_in : Rooms → Named
names_in rooms = record {
  stands = held_at rooms.stands.things.items;
  handle = held_at rooms.handles.named.items;
  pending = λ n. name_of (held_at rooms.pendings.named.items n);
  responder = held_at rooms.responders.named.items;
}

-- there are so many names
pub record HaveNames (count : ℕ) (rooms : Rooms) : Type 0 where
  pub stands : length rooms.stands.things.items ≡ count
  pub handles : length rooms.handles.named.items ≡ count
  pub pendings : length rooms.pendings.named.items ≡ count
  pub responders : length rooms.responders.named.items ≡ count
