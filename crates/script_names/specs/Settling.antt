-- What a line's command takes from under names, and what names hold once a reply to it is settled.
use Rattle.std.specs.Prelude.{ℕ, ◌≡◌, ◌+◌, Bool, true, false, List, [], ◌∷◌, ◌++◌, drop, length, Option, Some, None, slice_get}
use Rattle.handle_table.specs.declared.thing.Thing.{Thing}
use Rattle.bind_model.specs.Pendings.{Half}
use Rattle.bind_model.specs.Plain.{asked_of}
use Rattle.bind_model.specs.declared.endpoint.ResponderId.{ResponderId}
use Rattle.bind_model.specs.declared.commands.Command.{Command}
use Rattle.bind_model.specs.declared.commands.Command.TheVariants.{Bind, Attach, Call, Answer, Raw, Close, Flow}
use Rattle.bind_model.specs.declared.commands.ToClose.TheVariants as close
use Rattle.bind_model.specs.declared.commands.Reply.{Reply}
use Rattle.bind_model.specs.declared.commands.Reply.TheVariants.{Made, Associated, Wrote, Got, Flowed, No}
use Rattle.call_script.specs.declared.script.Command.{Command as LineCommand}
use Rattle.call_script.specs.declared.script.NameId.{NameId}
use Rattle.script_names.specs.declared.names.Names.{Names}
use Rattle.script_names.specs.declared.rooms.Rooms.{Rooms}
use Rattle.script_names.specs.Names.{handles_spent, pendings_spent, responders_spent}
use Rattle.script_names.specs.Carried.{halves_with, responder_with, things_with}
use Rattle.script_names.specs.Tables.{filled_one, given, left_by, taken_from}

-- ## Where what goes with a command was held

-- the name that goes by itself, as a list
abbrev pub listed : Option NameId → List NameId
listed None = []
listed (Some n) = n ∷ []

-- what is there, as a list
abbrev pub list_of : {X : Type 0} → Option X → List X
list_of None = []
list_of (Some x) = x ∷ []

-- what stands by itself before a list; without it nothing has a name
abbrev pub before_list : Option NameId → List NameId → List NameId
before_list None list = []
before_list (Some n) list = n ∷ list

-- by the name of what goes by itself, and those of the lists
module _ (one : Option NameId) (handle_names pending_names : List NameId) where
  -- the names of the handles that go with a command
  abbrev pub handles_under : Command → List NameId
  handles_under (Bind handle side interface) = listed one
  handles_under (Call end id prepared hs ps moment) = handle_names
  handles_under (Answer responder prepared hs ps moment) = handle_names
  handles_under (Raw handle bytes hs) = before_list one handle_names
  handles_under (Close (close.Handle handle)) = listed one
  handles_under (Flow handle flow) = before_list one []
  handles_under command = []

  -- those of the pendings
  abbrev pub pendings_under : Command → List NameId
  pendings_under (Attach pending seq) = listed one
  pendings_under (Call end id prepared hs ps moment) = pending_names
  pendings_under (Answer responder prepared hs ps moment) = pending_names
  pendings_under (Close (close.Pending pending)) = listed one
  pendings_under command = []

  -- and that of the responder
  abbrev pub responder_under : Command → List NameId
  responder_under (Answer responder prepared hs ps moment) = listed one
  responder_under (Close (close.Responder responder)) = listed one
  responder_under command = []

  -- what goes with a command was taken from under its names, and nothing else was
  pub record Took (command : Command) (old new : Rooms) : Type 0 where
    pub handles : taken_from old.handles.named.items (handles_under command) ≡ Some (things_with command)
    pub no_handles : new.handles.named.items ≡ left_by old.handles.named.items (handles_under command)
    pub pendings : taken_from old.pendings.named.items (pendings_under command) ≡ Some (halves_with command)
    pub no_pendings : new.pendings.named.items ≡ left_by old.pendings.named.items (pendings_under command)
    pub responder : taken_from old.responders.named.items (responder_under command) ≡ Some (list_of (responder_with command))
    pub no_responder : new.responders.named.items ≡ left_by old.responders.named.items (responder_under command)
    pub stands : new.stands ≡ old.stands
    pub kept : new.kept ≡ old.kept

-- the command of a line whose names these are
abbrev pub TookFor : Names → Command → Rooms → Rooms → Type 0
TookFor names command old new = Took names.one names.handles.items names.pendings.items command old new

-- the name of an end that bytes are written from, or of a token that bytes are moved at, stands before those of the list: it comes back, so that it isn't spent
abbrev pub own_before : Command → Option NameId → List NameId → List NameId
own_before (Raw handle bytes hs) one spent = before_list one spent
own_before (Flow handle flow) one spent = before_list one spent
own_before command one spent = spent

-- the names under which the command of a line takes are those that are spent where it is done
pub record SpendsAs (stands : NameId → Option Thing) (line : LineCommand) (names : Names) (command : Command) : Type 0 where
  pub handles : handles_under names.one names.handles.items names.pendings.items command
      ≡ own_before command names.one (handles_spent stands line (asked_of command))
  pub pendings : pendings_under names.one names.handles.items names.pendings.items command ≡ pendings_spent stands line (asked_of command)
  pub responder : responder_under names.one names.handles.items names.pendings.items command ≡ responders_spent stands line (asked_of command)

module _ (names : Names) where
  -- ## Once a reply is settled

  -- what names stand for then: those that the line sets stand for what came, in order
  abbrev pub settled_stands : Reply → List (Option Thing) → List (Option Thing)
  settled_stands (Made handles) table = given names.sets.items handles table
  settled_stands (Got g) table = given names.sets.items g.handles table
  settled_stands reply table = table

  -- the handles under names then: those that came, and those that come back from what was refused, written or moved
  abbrev pub settled_handles : Reply → List (Option Thing) → List (Option Thing)
  settled_handles (Made handles) table = given names.sets.items handles table
  settled_handles (Got g) table = given names.sets.items g.handles table
  settled_handles (Wrote handle) table = filled_one names.one handle table
  settled_handles (Flowed handle flowed) table = filled_one names.one handle table
  settled_handles (No why command) table = given (handles_under names.one names.handles.items names.pendings.items command) (things_with command) table
  settled_handles reply table = table

  -- the pendings under names then: those that came go by the names behind those of the handles
  abbrev pub settled_pendings : Reply → List (Option Half) → List (Option Half)
  settled_pendings (Associated pending) table = filled_one (slice_get names.sets.items 0) pending table
  settled_pendings (Got g) table = given (drop (length g.handles) names.sets.items) g.pendings table
  settled_pendings (No why command) table = given (pendings_under names.one names.handles.items names.pendings.items command) (halves_with command) table
  settled_pendings reply table = table

  -- the name for a responder, where it isn't answered at once
  abbrev pub place_for : Bool → ℕ → Option NameId
  place_for true count = None
  place_for false count = slice_get names.sets.items count

  -- a responder under this name, where there are both
  abbrev pub held_under : Option NameId → Option ResponderId → List (Option ResponderId) → List (Option ResponderId)
  held_under name None table = table
  held_under name (Some r) table = filled_one name r table

  -- the responders under names then: one that came goes by the name behind those of handles and pendings
  abbrev pub settled_responders : Bool → Reply → List (Option ResponderId) → List (Option ResponderId)
  settled_responders is_due (Got g) table = held_under (place_for is_due (length g.handles + length g.pendings)) g.responder table
  settled_responders is_due (No why command) table =
      given (responder_under names.one names.handles.items names.pendings.items command) (list_of (responder_with command)) table
  settled_responders is_due reply table = table

  -- the names of a line hold what came with a reply
  pub record Settles (reply : Reply) (is_due : Bool) (old new : Rooms) : Type 0 where
    pub stands : new.stands.things.items ≡ settled_stands reply old.stands.things.items
    pub handles : new.handles.named.items ≡ settled_handles reply old.handles.named.items
    pub pendings : new.pendings.named.items ≡ settled_pendings reply old.pendings.named.items
    pub responders : new.responders.named.items ≡ settled_responders is_due reply old.responders.named.items

-- it is the last
abbrev pub EndsWith : ResponderId → List ResponderId → Type 0
EndsWith r rs = (front : List ResponderId) × (rs ≡ front ++ r ∷ [])

-- the responder that is to be answered by itself is the last of those without a name
abbrev pub LeavesLast : Bool → Reply → Rooms → Type 0
LeavesLast true (Got g) new = (r : ResponderId) → g.responder ≡ Some r → EndsWith r new.responders.others.items
LeavesLast is_due reply new = Unit {0}
