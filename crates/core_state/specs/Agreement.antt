-- What the state is of the history.
use Rattle.handle_table.specs.declared.places.Place.TheVariants as places
use Rattle.std.specs.Prelude.{ℕ, Bool, true, false, ◌≡◌, ◌≤◌, List, length, reverse, Option, Some, None, is_some}
use Rattle.std.specs.Arc.{arc_value}
use Rattle.mj_base.specs.declared.limits.TheConstants.{MAX_EVENTS}
use Rattle.mj_base.specs.declared.ids.EndId.{EndId}
use Rattle.mj_schema.specs.declared.schema.Schema.{Schema}
use Rattle.handle_table.specs.Things.{has}
use Rattle.handle_table.specs.Places.{place_of, ends_made, tokens_made}
use Rattle.handle_table.specs.declared.places.Place.{Place}
use Rattle.handle_table.specs.declared.thing.Thing.{Thing}
use Rattle.handle_table.specs.declared.thing.Thing.TheVariants.{End}
use Rattle.message_pipe.specs.Contents.{Contents}
use Rattle.message_pipe.specs.Ends.{end_of}
use Rattle.message_pipe.specs.declared.message.Message.{Message}
use Rattle.message_pipe.specs.declared.pipe_end.PipeEnd.{PipeEnd}
use Rattle.bind_model.specs.declared.event.Event.{Event}
use Rattle.bind_model.specs.Wire.{Wire}
use Rattle.bind_model.specs.WireOf.{wire_of}
use Rattle.bind_model.specs.Machine.{made, out, gone, peer, is_gone, unread}
use Rattle.bind_model.specs.Replies.{legal, serials, tokens}
use Rattle.bind_model.specs.Pendings.{KnowsPendings}
use Rattle.bind_model.specs.Responders.{CountsResponders}
use Rattle.end_notices.specs.Agreement.{AllAgree as NoticesAgree}
use Rattle.endpoint_router.specs.Agreement.{Agrees as AgreesAt}
use Rattle.core_state.specs.declared.tables.Tables.{Tables}
use Rattle.data_pipe.specs.Agreement.{DataAgrees}
use Rattle.end_notices.specs.Table.{Lines}
use Rattle.core_state.specs.Routers.{Routers, router_at}
use Rattle.core_state.specs.declared.state.State.{State}

-- an end of a pipe by its parts; none where it was never made
abbrev pub end_with : Bool → EndId → Bool → List Message → Option PipeEnd
end_with true p c ms = Some (record { peer = p; closed = c; unread = ms })
end_with false p c ms = None

-- an end of a pipe, as the events give it
abbrev pub end_in : Wire → List Event → EndId → Option PipeEnd
end_in wire past x = end_with (has (made past) (End x)) (peer past x) (is_gone past x) (unread wire past x)

-- whether a handle is with a caller, by its place
abbrev pub is_out : Option Place → Bool
is_out None = false
is_out (Some place) = elim place [ places.Out ↦ true | places.Unread end ↦ false | places.Bound ↦ false | places.Closed ↦ false ]

-- whether a thing is closed, by its place
abbrev pub is_shut : Option Place → Bool
is_shut None = false
is_shut (Some place) = elim place [ places.Out ↦ false | places.Unread end ↦ false | places.Bound ↦ false | places.Closed ↦ true ]

-- pipes, places and the routers of all ends are those that the events give
pub record Agrees (wire : Wire) (past : List Event) (pipes : Contents) (endpoints : Routers) : Type 0 where
  pub ends : (x : EndId) → end_of pipes.ends x ≡ end_in wire past x
  pub outs : (z : Thing) → is_out (place_of pipes.table z) ≡ has (out past) z
  pub there : (z : Thing) → is_some (place_of pipes.table z) ≡ has (made past) z
  pub shuts : (z : Thing) → is_shut (place_of pipes.table z) ≡ has (gone past) z
  pub made : pipes.made ≡ length (made past)
  pub serials : (s : ℕ) → ends_made pipes.table s ≡ serials past s
  pub tokens : (s : ℕ) → tokens_made pipes.table s ≡ tokens past s
  pub routers : (x : EndId) → AgreesAt wire past x (router_at endpoints x)

-- the events, the newest first
abbrev pub past_of : State → List Event
past_of s = reverse s.log.events

-- the schema
abbrev pub schema_of : State → Schema
schema_of s = arc_value s.schema

-- the wire of its schema
abbrev pub wire_in : State → Wire
wire_in s = wire_of (schema_of s)

-- what is kept of controls and of data pipes is what the events say
pub record TablesAgree (past : List Event) (tables : Tables) : Type 0 where
  pub notices : NoticesAgree past tables.notices
  pub flows : DataAgrees past tables.flows

-- the state with these notices
abbrev pub with_notices : State → Lines → State
with_notices s lines = record s { tables = record s.tables { notices = lines } }

-- the history is legal, and the rest is what it says
pub record Holds (s : State) : Type 0 where
  pub legal : legal (wire_in s) s.seqs (past_of s)
  pub agrees : Agrees (wire_in s) (past_of s) s.pipes s.endpoints
  pub tables : TablesAgree (past_of s) s.tables
  pub responders : CountsResponders (wire_in s) (past_of s) s.rights.responders
  pub pendings : KnowsPendings (past_of s) s.rights.pendings
  pub few : length s.log.events ≤ MAX_EVENTS
