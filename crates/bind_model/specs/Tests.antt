-- The tests of commands, of which the first that fails refuses.
use Rattle.std.specs.Prelude.{ℕ, Bool, true, false, ◌==◌, ◌&&◌, ◌||◌, nat_le, List, [], ◌∷◌, not, length, if◌then◌else◌, Option, Some, None}
use Rattle.std.specs.List.{list_all}
use Rattle.mj_base.specs.declared.ids.EndId.{EndId}
use Rattle.mj_base.specs.declared.ids.SeqId.{SeqId}
use Rattle.handle_table.specs.declared.thing.Thing.{Thing}
use Rattle.handle_table.specs.declared.thing.Thing.TheVariants.{End, Token}
use Rattle.wire_encoder.specs.declared.endpoint.EndpointSide.{EndpointSide}
use Rattle.wire_encoder.specs.declared.endpoint.EndpointSide.TheVariants.{Remote, Receiver}
use Rattle.wire_encoder.specs.declared.endpoint.WantedEndpoint.{WantedEndpoint}
use Rattle.mj_base.specs.declared.limits.TheConstants.{MAX_UNREAD_MESSAGES}
use Rattle.wire_model.specs.declared.target.Target.{Target}
use Rattle.bind_model.specs.declared.endpoint.PendingId.{PendingId}
use Rattle.bind_model.specs.declared.endpoint.Endpoint.{Endpoint}
use Rattle.bind_model.specs.declared.endpoint.State.TheVariants as states
use Rattle.bind_model.specs.declared.asked.Outgoing.{Outgoing}
use Rattle.bind_model.specs.declared.told.Why.{Why}
use Rattle.bind_model.specs.declared.told.Why.TheVariants.{Disconnected, Unbound, Elsewhere, WrongTokens, WrongPipe, SelfSend, Full, Busy}
use Rattle.bind_model.specs.declared.told.Told.{Told}
use Rattle.bind_model.specs.declared.told.Told.TheVariants.{No}
use Rattle.bind_model.specs.declared.event.Event.{Event}
use Rattle.message_pipe.specs.Mail.{weighs}
use Rattle.handle_table.specs.Things.{same_end, has, is_distinct, alike}
use Rattle.bind_model.specs.Wire.{Wire}
use Rattle.bind_model.specs.Machine.{peer, is_gone, out, is_local, endpoint_at, unread, other_side}
use Rattle.bind_model.specs.Data.{begun, is_busy}
use Rattle.bind_model.specs.Rights.{is_response, has_pending, distinct_pendings, pendings_out}

-- the first test that fails, else what is done
abbrev pub first_of : List (Option Why) → Told → Told
first_of [] done = done
first_of (None ∷ tests) done = first_of tests done
first_of (Some why ∷ tests) done = No why

-- a test: it holds, or the command is refused for this
abbrev pub unless : Bool → Why → Option Why
unless holds why = if holds then None else Some why

-- these things are out here, each named once
abbrev pub all_out : List Event → List Thing → Bool
all_out past things = list_all (λ x. has (out past) x) things && is_distinct things

-- these pendings are out here, each named once
abbrev pub all_pending : List Event → List PendingId → Bool
all_pending past ps = list_all (λ p. has_pending (pendings_out past) p) ps && distinct_pendings ps

-- a waiting endpoint is bound nowhere yet; a bound one answers to its own sequence
abbrev pub unbound : ℕ → Endpoint → Option Why
unbound id r = elim r.state [ states.Pending ↦ Some (Unbound id) | states.Bound t ↦ None | states.Closed ↦ None ]

-- an endpoint that is bound is used by the sequence that it is bound on
abbrev pub elsewhere : SeqId → Endpoint → Option Why
elsewhere seq r = elim r.state [ states.Bound t ↦ unless (t.0 == seq.0) (Elsewhere t) | states.Pending ↦ None | states.Closed ↦ None ]

-- whether a side is the receiver
abbrev pub is_receiver : EndpointSide → Bool
is_receiver Receiver = true
is_receiver Remote = false

-- whether two sides are one
abbrev pub same_side : EndpointSide → EndpointSide → Bool
same_side a b = alike (is_receiver a) (is_receiver b)

-- the side that a pending endpoint is to be: of one that was made here, the other than its half here has
abbrev pub pending_side : List Event → PendingId → EndpointSide → EndpointSide
pending_side past p here = if is_local past p then other_side here else here

-- whether a pending endpoint is of this side and interface
abbrev pub suits : Wire → List Event → PendingId → WantedEndpoint → Bool
suits wire past p n =
    elim (endpoint_at wire past p.end p.id) [ None ↦ false | Some r ↦ same_side (pending_side past p r.side) n.side && (r.interface == n.interface) ]

-- as many pendings as are wanted, each of the side and interface wanted there
abbrev pub all_suit : Wire → List Event → List PendingId → List WantedEndpoint → Bool
all_suit wire past [] [] = true
all_suit wire past [] (n ∷ wants) = false
all_suit wire past (p ∷ ps) [] = false
all_suit wire past (p ∷ ps) (n ∷ wants) = suits wire past p n && all_suit wire past ps wants

-- the first pending that was not made at the end that sends it
abbrev pub wrong_pipe : List Event → EndId → List PendingId → Option Why
wrong_pipe past y [] = None
wrong_pipe past y (p ∷ ps) = if same_end p.end y && is_local past p then wrong_pipe past y ps else Some (WrongPipe p.id)

-- whether as many unread messages stand at an end as may; those that the machine wrote do not count
abbrev pub is_full : Wire → List Event → EndId → Bool
is_full wire past x = nat_le MAX_UNREAD_MESSAGES (weighs (unread wire past x))

-- the handles and pendings are those that the parameters name
abbrev pub tokens_right : Wire → List Event → Outgoing → Bool
tokens_right wire past s = (length s.handles == wire.handles s.target s.parameters) && all_suit wire past s.pendings (wire.wants s.target s.parameters)

-- the test of the handles and pendings
abbrev pub wrong_tokens : Wire → List Event → Outgoing → Option Why
wrong_tokens wire past s = unless (tokens_right wire past s) WrongTokens

-- the first token that something was begun at goes nowhere
abbrev pub busy : List Event → List Thing → Option Why
busy past [] = None
busy past (End x ∷ things) = busy past things
busy past (Token t ∷ things) = if is_busy (begun past t) then Some (Busy t) else busy past things

-- the last tests of whatever writes at y
abbrev pub cannot_write : Wire → List Event → EndId → Bool → List Thing → List (Option Why)
cannot_write wire past y peer_closed handles =
    unless (not (has handles (End (peer past y)))) SelfSend
    ∷ busy past handles
    ∷ unless (not (is_gone past (peer past y) || peer_closed)) Disconnected
    ∷ unless (not (is_full wire past (peer past y))) Full
    ∷ []

-- whether two messages are of one interface, method and side
abbrev pub same_target : Target → Target → Bool
same_target a b = (a.interface == b.interface) && (a.method == b.method) && alike (is_response a.side) (is_response b.side)

-- whether a list has nothing
abbrev pub is_none : {A : Type 0} → List A → Bool
is_none [] = true
is_none (x ∷ xs) = false
