-- The plain forms of commands and replies: things in place of their handles.
use Rattle.std.specs.Prelude.{ℕ, ℤ, ◌≡◌, ◌<◌, ◌≤◌, List, [], ◌∷◌, map, Option, Some, None}
use Rattle.mj_base.specs.declared.ids.EndId.{EndId}
use Rattle.mj_base.specs.declared.limits.TheConstants.{MAX_EVENTS}
use Rattle.mj_schema.specs.declared.schema.Schema.{Schema}
use Rattle.handle_table.specs.declared.thing.Thing.{Thing}
use Rattle.handle_table.specs.declared.thing.Thing.TheVariants.{End, Token}
use Rattle.handle_table.specs.declared.thing.TokenId.{TokenId}
use Rattle.wire_encoder.specs.declared.endpoint.EndpointSide.TheVariants.{Remote}
use Rattle.wire_encoder.specs.Prepared.{IsPrepared}
use Rattle.wire_encoder.specs.declared.prepared.Prepared.{Prepared}
use Rattle.wire_model.specs.Trees.{view}
use Rattle.bind_model.specs.declared.asked.Closing.{Closing}
use Rattle.bind_model.specs.declared.asked.Closing.TheVariants as closings
use Rattle.bind_model.specs.Machine.{endpoint_at, other_side}
use Rattle.bind_model.specs.Pendings.{Half, names_of}
use Rattle.bind_model.specs.Replies.{responders_handed}
use Rattle.bind_model.specs.Wire.{Wire}
use Rattle.bind_model.specs.declared.asked.Asked.{Asked}
use Rattle.bind_model.specs.declared.asked.Asked.TheVariants as asks
use Rattle.bind_model.specs.declared.asked.Outgoing.{Outgoing}
use Rattle.bind_model.specs.declared.endpoint.Endpoint.{Endpoint}
use Rattle.bind_model.specs.declared.endpoint.PendingId.{PendingId}
use Rattle.bind_model.specs.declared.endpoint.ResponderId.{ResponderId}
use Rattle.bind_model.specs.declared.event.Event.{Event}
use Rattle.bind_model.specs.declared.told.Told.{Told}
use Rattle.bind_model.specs.declared.told.Told.TheVariants as tells
use Rattle.bind_model.specs.declared.commands.ToClose.{ToClose}
use Rattle.bind_model.specs.declared.commands.ToClose.TheVariants as close
use Rattle.bind_model.specs.declared.commands.Command.{Command}
use Rattle.bind_model.specs.declared.commands.Command.TheVariants.{Pipe, Join, Mint, Bind, Associate, Attach, Call, Answer, Raw, Take, Close, Notify}
use Rattle.bind_model.specs.declared.commands.Command.TheVariants.{Pause, Data, Flow, Skip}
use Rattle.bind_model.specs.declared.commands.Reply.{Reply}
use Rattle.bind_model.specs.declared.commands.Reply.TheVariants.{Made, Bound, Associated, Attached, Sent, Wrote, Got, Dropped, Control, Bad, Closed}
use Rattle.bind_model.specs.declared.commands.Reply.TheVariants.{Notified, Pausing, Flowed, Skipped, No}
use Rattle.bind_model.specs.declared.commands.Refused.{Refused}
use Rattle.bind_model.specs.declared.commands.Refused.TheVariants.{Memory, Spent}

-- what is closed
abbrev pub closing_of : ToClose → Closing
closing_of (close.Handle handle) = closings.Handle handle
closing_of (close.Pending pending) = closings.Pending pending.name
closing_of (close.Responder responder) = closings.Responder responder
closing_of (close.Endpoint end id) = closings.Endpoint end id

-- what is sent, with these handles and pendings, and this moment
abbrev pub outgoing_of : Prepared → List Thing → List Half → Option ℤ → Outgoing
outgoing_of prepared handles pendings moment = record {
  target = prepared.target;
  parameters = view prepared.value;
  handles = handles;
  pendings = names_of pendings;
  moment = moment;
}

-- the end that a handle is of; no token was ever written from
abbrev pub end_written : Thing → EndId
end_written (End x) = x
end_written (Token t) = record { seq = t.seq; serial = t.serial }

-- the token that a handle is of; no bytes were ever moved at an end
abbrev pub token_written : Thing → TokenId
token_written (End x) = record { seq = x.seq; serial = x.serial }
token_written (Token t) = t

-- what a command asks
abbrev pub asked_of : Command → Asked
asked_of Pipe = asks.Pipe
asked_of (Join other) = asks.Join other
asked_of (Mint sort) = asks.Mint sort
asked_of (Bind handle side interface) = asks.Bind handle side interface
asked_of (Associate end side interface) = asks.Associate end side interface
asked_of (Attach pending seq) = asks.Attach pending.name seq
asked_of (Call end id prepared handles pendings moment) = asks.Call end id (outgoing_of prepared handles pendings moment)
asked_of (Answer responder prepared handles pendings moment) = asks.Answer responder (outgoing_of prepared handles pendings moment)
asked_of (Raw handle bytes handles) = asks.Raw handle bytes handles
asked_of (Take end) = asks.Take end
asked_of (Close thing) = asks.Close (closing_of thing)
asked_of (Notify end notice) = asks.Notify end notice
asked_of (Pause end other flush) = asks.Pause end other flush
asked_of (Data size) = asks.Data size
asked_of (Flow handle flow) = asks.Flow handle flow
asked_of (Skip line) = asks.Skip line

-- what a reply tells
abbrev pub told_of : Reply → Told
told_of (Made handles) = tells.Made handles
told_of (Bound end) = tells.Bound end
told_of (Associated pending) = tells.Associated pending.name
told_of (Attached id) = tells.Attached id
told_of (Sent request bytes) = tells.Sent request bytes
told_of (Wrote handle) = tells.Wrote (end_written handle)
told_of (Got g) = tells.Taken (record {
  id = g.id;
  target = g.target;
  parameters = g.parameters;
  request = g.request;
  handles = g.handles;
  pendings = names_of g.pendings;
  gone = g.gone;
  moment = g.moment;
})
told_of (Dropped id gone) = tells.Dropped id gone
told_of (Control id) = tells.Control id
told_of (Bad why gone) = tells.Bad why gone
told_of (Closed gone) = tells.Closed gone
told_of (Notified what) = tells.Notified what
told_of Pausing = tells.Pausing
told_of (Flowed handle flowed) = tells.Flowed (token_written handle) flowed
told_of Skipped = tells.Skipped
told_of (No why command) = tells.No why

-- what a command sends was prepared for this schema
abbrev pub IsOf : Schema → Command → Type 0
IsOf schema (Call end id prepared handles pendings moment) = IsPrepared schema prepared
IsOf schema (Answer responder prepared handles pendings moment) = IsPrepared schema prepared
IsOf schema command = Unit {0}

-- bytes were written from the end that the command has
abbrev pub HandsEnd : Thing → Command → Type 0
HandsEnd back (Raw handle bytes handles) = back ≡ handle
HandsEnd back command = Unit {0}

-- bytes were moved at the token that the command has
abbrev pub HandsToken : Thing → Command → Type 0
HandsToken back (Flow handle flow) = back ≡ handle
HandsToken back command = Unit {0}

-- a reply that is a refusal hands the command back, one that bytes were written the end, and one that bytes were moved the token
abbrev pub HandsBack : Command → Reply → Type 0
HandsBack command (No why back) = back ≡ command
HandsBack command (Wrote back) = HandsEnd back command
HandsBack command (Flowed back flowed) = HandsToken back command
HandsBack command reply = Unit {0}

-- the responders that a reply hands out
abbrev pub responders_in : Reply → List ResponderId
responders_in (Got g) = elim g.responder [ Some r ↦ r ∷ [] | None ↦ [] ]
responders_in reply = []

-- it hands out those that the machine does
abbrev pub HandsResponders : Wire → Command → Reply → Type 0
HandsResponders wire command reply = responders_in reply ≡ responders_handed wire (told_of reply) (asked_of command)

-- the pendings that a reply hands out
abbrev pub halves_in : Reply → List Half
halves_in (Associated pending) = pending ∷ []
halves_in (Got g) = g.pendings
halves_in reply = []

-- what the pending of a received endpoint stands for: that endpoint
abbrev pub half_of : PendingId → Option Endpoint → Half
half_of p None = record { name = p; side = Remote; interface = 0 }
half_of p (Some e) = record { name = p; side = e.side; interface = e.interface }

-- those that the machine hands out, where the events are these then: of an endpoint that is made the other half, under its id,
-- and each endpoint that is received
abbrev pub halves_handed : Wire → List Event → Told → Asked → List Half
halves_handed wire past (tells.Associated p) (asks.Associate end side interface) = record { name = p; side = other_side side; interface = interface } ∷ []
halves_handed wire past (tells.Taken g) (asks.Take y) = map (λ (p : PendingId). half_of p (endpoint_at wire past p.end p.id)) g.pendings
halves_handed wire past told asked = []

-- it hands out those that the machine does
abbrev pub HandsPendings : Wire → List Event → Command → Reply → Type 0
HandsPendings wire past command reply = halves_in reply ≡ halves_handed wire past (told_of reply) (asked_of command)

-- the command that comes back without an event
abbrev pub command_of : Refused → Command
command_of (Memory command) = command
command_of (Spent command) = command

-- it is spent exactly where there are 16,777,216 events
abbrev pub IsSpentAt : ℕ → Refused → Type 0
IsSpentAt events (Memory command) = events < MAX_EVENTS
IsSpentAt events (Spent command) = MAX_EVENTS ≤ events
