-- The names of what goes with what a line asks, by the names that it has; and what names hold once that is spent, and something came.
use Rattle.std.specs.Prelude.{◌≡◌, ◌+◌, List, [], drop, length, if◌then◌else◌}
use Rattle.bind_model.specs.Machine.{handed}
use Rattle.bind_model.specs.declared.asked.Asked.{Asked}
use Rattle.bind_model.specs.declared.asked.Asked.TheVariants.{Answer, Attach, Bind, Call, Close, Raw}
use Rattle.bind_model.specs.declared.asked.Closing.TheVariants.{Handle, Pending, Responder}
use Rattle.bind_model.specs.declared.endpoint.ResponderId.{ResponderId}
use Rattle.bind_model.specs.declared.event.Event.{Event}
use Rattle.bind_model.specs.declared.told.Told.{Told}
use Rattle.call_script.specs.declared.script.NameId.{NameId}
use Rattle.script_names.specs.Names.{is_done, pendings_handed}
use Rattle.script_names.specs.Settling.{listed}
use Rattle.script_names.specs.Tables.{given, left_by}
use Rattle.script_names.specs.declared.names.Names.{Names}
use Rattle.plain_names.specs.declared.named.PlainNames.{PlainNames}

-- of things, but for an end that bytes are written from, and a token that they are moved at
abbrev pub handles_gone : Names → Asked → List NameId
handles_gone names (Bind x side interface) = listed names.one
handles_gone names (Call y id out) = names.handles.items
handles_gone names (Answer r out) = names.handles.items
handles_gone names (Raw x bytes xs) = names.handles.items
handles_gone names (Close (Handle x)) = listed names.one
handles_gone names asked = []

-- of pendings
abbrev pub pendings_gone : Names → Asked → List NameId
pendings_gone names (Attach p seq) = listed names.one
pendings_gone names (Call y id out) = names.pendings.items
pendings_gone names (Answer r out) = names.pendings.items
pendings_gone names (Close (Pending p)) = listed names.one
pendings_gone names asked = []

-- of the right to answer
abbrev pub responders_gone : Names → Asked → List NameId
responders_gone names (Answer r out) = listed names.one
responders_gone names (Close (Responder r)) = listed names.one
responders_gone names asked = []

-- what went with an event is held no longer, where that was done
pub record Spends (lists : Names) (event : Event) (old new : PlainNames) : Type 0 where
  pub stands : new.stands ≡ old.stands
  pub handles : new.handles.items.items ≡ left_by old.handles.items.items (if is_done event.told then handles_gone lists event.asked else [])
  pub pendings : new.pendings.items.items ≡ left_by old.pendings.items.items (if is_done event.told then pendings_gone lists event.asked else [])
  pub responders : new.responders.items.items
      ≡ left_by old.responders.items.items (if is_done event.told then responders_gone lists event.asked else [])

-- what came with a reply is held under these names: first the things, then the pendings, and then these rights to answer
pub record Came (sets : List NameId) (told : Told) (rights : List ResponderId) (old new : PlainNames) : Type 0 where
  pub stands : new.stands.things.items ≡ given sets (handed told) old.stands.things.items
  pub handles : new.handles.items.items ≡ given sets (handed told) old.handles.items.items
  pub pendings : new.pendings.items.items ≡ given (drop (length (handed told)) sets) (pendings_handed told) old.pendings.items.items
  pub responders : new.responders.items.items
      ≡ given (drop (length (handed told) + length (pendings_handed told)) sets) rights old.responders.items.items
