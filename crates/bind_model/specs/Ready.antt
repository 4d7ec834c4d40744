-- Which end is taken from next when nobody asks, and by whom.
use Rattle.std.specs.Prelude.{ℕ, Bool, true, false, ◌==◌, ◌&&◌, ◌||◌, nat_lt, List, [], ◌∷◌, Option, Some, None, Ok, Err, if◌then◌else◌, filter, fold, option_and_then}
use Rattle.std.specs.Option.{option_map}
use Rattle.mj_base.specs.declared.ids.EndId.{EndId}
use Rattle.mj_base.specs.declared.ids.SeqId.{SeqId}
use Rattle.handle_table.specs.declared.thing.Thing.{Thing}
use Rattle.handle_table.specs.declared.thing.Thing.TheVariants.{End, Token}
use Rattle.message_pipe.specs.declared.message.Message.{Message}
use Rattle.bind_model.specs.declared.endpoint.Endpoint.{Endpoint}
use Rattle.bind_model.specs.declared.endpoint.State.TheVariants as states
use Rattle.bind_model.specs.declared.told.Told.{Told}
use Rattle.bind_model.specs.declared.told.Told.TheVariants.{Taken, Dropped, Control, Bad}
use Rattle.bind_model.specs.declared.event.Event.{Event}
use Rattle.wire_model.specs.HeaderMarks.{CONTROL_ID}
use Rattle.bind_model.specs.Wire.{Wire}
use Rattle.bind_model.specs.Machine.{made, endpoint_at, unread, front_of}
use Rattle.bind_model.specs.Replies.{took, took_open}

-- the sequence that an endpoint is bound on
abbrev pub on_of : Option Endpoint → Option SeqId
on_of None = None
on_of (Some r) = elim r.state [ states.Bound t ↦ Some t | states.Pending ↦ None | states.Closed ↦ None ]

-- the first sequence, or the other where there is none
abbrev pub or_else : Option SeqId → Option SeqId → Option SeqId
or_else (Some t) other = Some t
or_else None other = other

-- the endpoint that a message is for, where its header says one
abbrev pub meant : Wire → Message → Option ℕ
meant wire m = elim (wire.header m.bytes) [ Ok h ↦ (if h.id == CONTROL_ID then None else Some h.id) | Err fault ↦ None ]

-- who takes at y: the sequence of the endpoint that the front is for, where that is bound, else that of endpoint 0
abbrev pub taker : Wire → List Event → EndId → Option SeqId
taker wire past y = or_else
    (option_and_then (λ id. on_of (endpoint_at wire past y id)) (option_and_then (λ m. meant wire m) (front_of (unread wire past y))))
    (on_of (endpoint_at wire past y 0))

-- whether a take was told that it consumed a message or found it bad
abbrev pub is_settled : Told → Bool
is_settled (Taken g) = true
is_settled (Dropped id gone) = true
is_settled (Control c) = true
is_settled (Bad why gone) = true
is_settled told = false

-- whether a take by that sequence would consume a message or find it bad
abbrev pub settles : Wire → List Event → EndId → Option SeqId → Bool
settles wire past y None = false
settles wire past y (Some seq) = is_settled (took wire past seq y)

-- the same, whatever the end waits for: what a core watches, since a wait is met by what happens at another end
abbrev pub settles_unpaused : Wire → List Event → EndId → Option SeqId → Bool
settles_unpaused wire past y None = false
settles_unpaused wire past y (Some seq) = is_settled (took_open wire past seq y)

-- whether a take by the one who takes there would, whatever the end waits for
abbrev pub is_takeable : Wire → List Event → EndId → Bool
is_takeable wire past y = settles_unpaused wire past y (taker wire past y)

-- whether a take there would consume a message or find it bad
abbrev pub is_ready : Wire → List Event → EndId → Bool
is_ready wire past y = settles wire past y (taker wire past y)

-- ends stand by the sequence that numbered them, and then by number
abbrev pub is_before : EndId → EndId → Bool
is_before a b = nat_lt a.seq b.seq || ((a.seq == b.seq) && nat_lt a.serial b.serial)

-- the lesser of two ends
abbrev pub lesser : Option EndId → EndId → Option EndId
lesser None y = Some y
lesser (Some x) y = if is_before y x then Some y else Some x

-- the ends among things
abbrev pub ends_of : List Thing → List EndId
ends_of [] = []
ends_of (End x ∷ things) = x ∷ ends_of things
ends_of (Token t ∷ things) = ends_of things

-- the least end
abbrev pub least : List EndId → Option EndId
least ends = fold lesser None ends

-- the least end that is ready, behind the sequence that takes there
abbrev pub ready : Wire → List Event → Option (SeqId × EndId)
ready wire past = option_and_then (λ y. option_map (λ (t : SeqId). (t, y)) (taker wire past y)) (least (filter (is_ready wire past) (ends_of (made past))))
