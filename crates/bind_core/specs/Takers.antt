-- Who takes at an end when nobody asks, by what the state keeps.
use Rattle.std.specs.Prelude.{ℕ, Bool, ◌==◌, List, Option, Some, None, Result, Ok, Err, if◌then◌else◌}
use Rattle.mj_base.specs.declared.fault.Fault.{Fault}
use Rattle.mj_base.specs.declared.ids.EndId.{EndId}
use Rattle.mj_base.specs.declared.ids.SeqId.{SeqId}
use Rattle.message_pipe.specs.Ends.{end_of, is_closed, unread_at}
use Rattle.message_pipe.specs.Mail.{front_of}
use Rattle.message_pipe.specs.declared.message.Message.{Message}
use Rattle.wire_model.specs.HeaderMarks.{CONTROL_ID}
use Rattle.bind_model.specs.Notices.{first_unmet, waits}
use Rattle.bind_model.specs.Ready.{on_of}
use Rattle.bind_model.specs.Wire.{Header}
use Rattle.bind_model.specs.WireOf.{header_in}
use Rattle.bind_model.specs.declared.endpoint.Endpoint.{Endpoint}
use Rattle.bind_model.specs.declared.endpoint.State.{State as EndpointState}
use Rattle.bind_model.specs.declared.endpoint.State.TheVariants as states
use Rattle.core_state.specs.Agreement.{past_of}
use Rattle.core_state.specs.Routers.{found_at}
use Rattle.core_state.specs.declared.state.State.{State}

-- the endpoint that a message of these bytes is for, where its header says one
abbrev pub id_in : Result Header Fault → Option ℕ
id_in (Err fault) = None
id_in (Ok h) = if h.id == CONTROL_ID then None else Some h.id

-- the same, by the bytes
abbrev pub id_meant : List ℕ → Option ℕ
id_meant bytes = id_in (header_in bytes)

-- who takes a message for an endpoint in this state: nobody while it is pending, and once it is closed the sequence of endpoint 0
abbrev pub taker_in : Option SeqId → EndpointState → Option SeqId
taker_in main states.Pending = None
taker_in main (states.Bound t) = Some t
taker_in main states.Closed = main

-- for an endpoint that isn't there, that of endpoint 0 too
abbrev pub taker_for : Option SeqId → Option Endpoint → Option SeqId
taker_for main None = main
taker_for main (Some r) = taker_in main r.state

-- by which endpoint a message is for, and by the endpoints of an end
module _ (meant : Message → Option ℕ) (endpoints : ℕ → Option Endpoint) where
  -- a message that is for no endpoint is taken by the sequence of endpoint 0
  abbrev pub taker_meant : Option SeqId → Option ℕ → Option SeqId
  taker_meant main None = main
  taker_meant main (Some id) = taker_for main (endpoints id)

  -- nobody takes where nothing is unread
  abbrev pub taker_front : Option SeqId → Option Message → Option SeqId
  taker_front main None = None
  taker_front main (Some m) = taker_meant main (meant m)

  -- nobody takes at an end that is closed, or that has no endpoint 0
  abbrev pub taker_open : Bool → Option Message → Option Endpoint → Option SeqId
  taker_open closed front None = None
  taker_open closed front (Some main) = if closed then None else taker_front (on_of (Some main)) front

  -- who takes at an end, by whether it is closed, and by its oldest message
  abbrev pub taker_at : Bool → Option Message → Option SeqId
  taker_at closed front = taker_open closed front (endpoints 0)

-- the sequence whose take at an end would consume a message or find it bad, whatever the end waits for
abbrev pub taker_of : State → EndId → Option SeqId
taker_of s x = taker_at (λ m. id_meant m.bytes) (found_at s.endpoints x) (is_closed (end_of s.pipes.ends x)) (front_of (unread_at s.pipes.ends x))

-- nobody takes at an end that waits for another
abbrev pub unless_paused : Option EndId → Option SeqId → Option SeqId
unless_paused None takes = takes
unless_paused (Some x) takes = None

-- the sequence whose take at an end is ready
abbrev pub ready_taker : State → EndId → Option SeqId
ready_taker s x = unless_paused (first_unmet (past_of s) (waits (past_of s) x)) (taker_of s x)
