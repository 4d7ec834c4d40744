-- Taking from an end: what there is to take, and what comes out of a message.
use Rattle.std.specs.Prelude.{◌≡◌, ◌≤◌, true, List, [], length, Option, Some, None, Result, Ok, Err, if◌then◌else◌, vec_capacity}
use Rattle.mj_base.specs.declared.ids.EndId.{EndId}
use Rattle.handle_table.specs.Places.{place_of, is_kept}
use Rattle.handle_table.specs.Things.{has, is_distinct}
use Rattle.handle_table.specs.declared.thing.Thing.{Thing}
use Rattle.message_pipe.specs.Contents.{Contents}
use Rattle.message_pipe.specs.Ends.{carried_in, end_of, is_closed, peer_of, spread, unread_at}
use Rattle.message_pipe.specs.Mail.{front_of}
use Rattle.message_pipe.specs.declared.message.Message.{Message}
use Rattle.bind_model.specs.Notices.{first_unmet, waits}
use Rattle.bind_model.specs.Replies.{pendings_at}
use Rattle.bind_model.specs.declared.endpoint.Endpoint.{Endpoint}
use Rattle.bind_model.specs.declared.told.Got.{Got}
use Rattle.bind_model.specs.declared.told.Why.{Why}
use Rattle.bind_model.specs.declared.told.Why.TheVariants.{NoName, Disconnected, Empty, PeerClosed, Paused}
use Rattle.core_state.specs.Agreement.{past_of}
use Rattle.core_state.specs.Routers.{Routers, found_at}
use Rattle.core_state.specs.declared.state.State.{State}
use Rattle.core_taking.specs.Founds.{pending_ids}
use Rattle.core_taking.specs.declared.reading.Arrived.{Arrived}
use Rattle.core_taking.specs.declared.receive.Brings.{Brings}

-- why nothing is taken where nothing is unread, by the other end of the pipe
abbrev pub nothing_at : Contents → Option EndId → Why
nothing_at pipes None = Empty
nothing_at pipes (Some peer) = if is_closed (end_of pipes.ends peer) then PeerClosed else Empty

-- the oldest unread message at an open end
abbrev pub front_open : Contents → EndId → Option Message → Result Message Why
front_open pipes y (Some m) = Ok m
front_open pipes y None = Err (nothing_at pipes (peer_of (end_of pipes.ends y)))

-- that of an open end that waits for this one, or for none
abbrev pub front_free : Contents → EndId → Option EndId → Result Message Why
front_free pipes y (Some x) = Err (Paused x)
front_free pipes y None = front_open pipes y (front_of (unread_at pipes.ends y))

-- that of an end with this endpoint 0
abbrev pub front_bound : Contents → EndId → Option EndId → Option Endpoint → Result Message Why
front_bound pipes y pause None = Err NoName
front_bound pipes y pause (Some main) = if is_closed (end_of pipes.ends y) then Err Disconnected else front_free pipes y pause

-- the oldest unread message at a bound end that is open and takes, or why nothing is taken there
abbrev pub front_found : Contents → Routers → EndId → Option EndId → Result Message Why
front_found pipes endpoints y pause = front_bound pipes y pause (found_at endpoints y 0)

-- the same, where the state says whom the end waits for
abbrev pub front_in : State → EndId → Result Message Why
front_in s y = front_found s.pipes s.endpoints y (first_unmet (past_of s) (waits (past_of s) y))

-- the handles of these are kept, and none stands twice
pub record LieThere (pipes : Contents) (things : List Thing) : Type 0 where
  pub once : is_distinct things ≡ true
  pub kept : (z : Thing) → has things z ≡ true → is_kept (place_of pipes.table z) ≡ true

-- what arrived at y as it is noted, with the things that go
abbrev pub noted_as : EndId → Arrived → List Thing → Got
noted_as y a gone = record {
  id = a.id;
  target = a.target;
  parameters = a.parameters;
  request = a.request;
  handles = a.named;
  pendings = pendings_at y (pending_ids a.admitted.entries.items);
  gone = gone;
  moment = a.moment;
}

-- what a message brings: the reply as it is noted, the things that come out, and those that go
pub record Bringing : Type 0 where
  pub noted : Got
  pub things : List Thing
  pub gone : List Thing

-- it is that of what arrived at an end
pub record IsBringing (pipes : Contents) (y : EndId) (a : Arrived) (b : Bringing) : Type 0 where
  pub noted : b.noted ≡ noted_as y a b.gone
  pub gone : b.gone ≡ spread (carried_in pipes.ends (Some y)) pipes.made a.left
  pub things : b.things ≡ a.named

-- all that a message at y brings was made
pub record IsBrought (pipes : Contents) (y : EndId) (a : Arrived) (b : Brings) : Type 0 where
  pub noted : b.noted ≡ noted_as y a b.gone
  pub gone : b.gone ≡ spread (carried_in pipes.ends (Some y)) pipes.made a.left
  pub things : b.things ≡ a.named
  pub empty : b.room.items ≡ []
  pub room : length b.things ≤ vec_capacity b.room
  pub none : b.pendings.items ≡ []
  pub ample : length (pending_ids a.admitted.entries.items) ≤ vec_capacity b.pendings
