-- The requests, the pendings and the responders that events leave with callers.
use Rattle.std.specs.Prelude.{ℕ, Bool, true, false, ◌==◌, ◌&&◌, ◌++◌, List, [], ◌∷◌, not, filter, if◌then◌else◌}
use Rattle.std.specs.List.{list_any}
use Rattle.mj_base.specs.declared.ids.EndId.{EndId}
use Rattle.wire_model.specs.declared.target.MessageSide.{MessageSide}
use Rattle.wire_model.specs.declared.target.MessageSide.TheVariants.{Request, Response}
use Rattle.bind_model.specs.declared.endpoint.PendingId.{PendingId}
use Rattle.bind_model.specs.declared.endpoint.ResponderId.{ResponderId}
use Rattle.bind_model.specs.declared.asked.Closing.TheVariants as closings
use Rattle.bind_model.specs.declared.asked.Asked.{Asked}
use Rattle.bind_model.specs.declared.asked.Asked.TheVariants.{Attach, Call, Answer, Take, Close}
use Rattle.bind_model.specs.declared.told.Told.{Told}
use Rattle.bind_model.specs.declared.told.Told.TheVariants.{Associated, Attached, Sent, Taken, Closed}
use Rattle.bind_model.specs.declared.event.Event.{Event}
use Rattle.handle_table.specs.Things.{same_end}
use Rattle.bind_model.specs.Wire.{Wire}

-- a request that was sent with a response to come
pub record Drawn : Type 0 where
  pub request : ℕ
  pub method : ℕ

-- the request that an event sent at an endpoint
abbrev pub draws : Told → Asked → EndId → ℕ → List Drawn
draws (Sent request bytes) (Call y n outgoing) x id =
    if same_end y x && (n == id) && not (request == 0) then record { request = request; method = outgoing.target.method } ∷ [] else []
draws told asked x id = []

-- the requests sent at an endpoint, in order: the k-th has number k, from 1
abbrev pub drawn : List Event → EndId → ℕ → List Drawn
drawn [] x id = []
drawn (event ∷ past) x id = drawn past x id ++ draws event.told event.asked x id

-- whether a message is a response
abbrev pub is_response : MessageSide → Bool
is_response Response = true
is_response Request = false

-- the request whose response an event got at an endpoint
abbrev pub answers : Told → Asked → EndId → ℕ → List ℕ
answers (Taken g) (Take y) x id = if same_end y x && (g.id == id) && is_response g.target.side then g.request ∷ [] else []
answers told asked x id = []

-- the requests whose responses were got at an endpoint
abbrev pub answered : List Event → EndId → ℕ → List ℕ
answered [] x id = []
answered (event ∷ past) x id = answered past x id ++ answers event.told event.asked x id

-- whether a request of this number and method was sent, and no response to it was got
abbrev pub is_asked : List Event → EndId → ℕ → ℕ → ℕ → Bool
is_asked past x id request method =
    list_any (λ (d : Drawn). (d.request == request) && (d.method == method)) (drawn past x id) && not (list_any (λ k. k == request) (answered past x id))

-- whether two pendings are one
abbrev pub same_pending : PendingId → PendingId → Bool
same_pending p q = same_end p.end q.end && (p.id == q.id)

-- whether a pending stands in a list
abbrev pub has_pending : List PendingId → PendingId → Bool
has_pending ps p = list_any (λ q. same_pending q p) ps

-- no pending stands twice in a list
abbrev pub distinct_pendings : List PendingId → Bool
distinct_pendings [] = true
distinct_pendings (p ∷ ps) = not (has_pending ps p) && distinct_pendings ps

-- the pendings that a caller gave away with a command that was done
abbrev pub pendings_given : Told → Asked → List PendingId
pendings_given (Attached n) (Attach p t) = p ∷ []
pendings_given (Sent request bytes) (Call y id outgoing) = outgoing.pendings
pendings_given (Sent request bytes) (Answer r outgoing) = outgoing.pendings
pendings_given (Closed gone) (Close (closings.Pending p)) = p ∷ []
pendings_given told asked = []

-- the pendings that a reply hands out
abbrev pub pendings_handed : Told → List PendingId
pendings_handed (Associated p) = p ∷ []
pendings_handed (Taken g) = g.pendings
pendings_handed told = []

-- the pendings that are with callers
abbrev pub pendings_out : List Event → List PendingId
pendings_out [] = []
pendings_out (event ∷ past) = filter (λ p. not (has_pending (pendings_given event.told event.asked) p)) (pendings_out past) ++ pendings_handed event.told

-- whether two responders are of one name
abbrev pub same_responder : ResponderId → ResponderId → Bool
same_responder r s = same_end r.end s.end && (r.id == s.id) && (r.request == s.request) && (r.interface == s.interface) && (r.method == s.method)

-- the list without its first one of this name: two requests of one number give two responders of one name
abbrev pub less_one : ResponderId → List ResponderId → List ResponderId
less_one r [] = []
less_one r (s ∷ rs) = if same_responder s r then rs else s ∷ less_one r rs

-- the responder that a got request hands out, where its method has a response
abbrev pub responders_handed : Wire → Told → Asked → List ResponderId
responders_handed wire (Taken g) (Take y) =
    if not (is_response g.target.side) && wire.responds g.target.interface g.target.method
    then record { end = y; id = g.id; request = g.request; interface = g.target.interface; method = g.target.method } ∷ [] else []
responders_handed wire told asked = []

-- the responders that an event leaves with callers: an answer and a close spend one
abbrev pub responders_after : Told → Asked → List ResponderId → List ResponderId
responders_after (Sent request bytes) (Answer r outgoing) rs = less_one r rs
responders_after (Closed gone) (Close (closings.Responder r)) rs = less_one r rs
responders_after told asked rs = rs

-- the responders that are with callers
abbrev pub responders_out : Wire → List Event → List ResponderId
responders_out wire [] = []
responders_out wire (event ∷ past) = responders_after event.told event.asked (responders_out wire past) ++ responders_handed wire event.told event.asked
