-- What is told of the oldest message at an end, by what was read of it.
use Rattle.std.proofs.Common.{◌≡◌, ◌<◌, ℕ, zero, suc, Bool, true, false, List, [], refl, sym, ap, ◌∙◌, subst}
use Rattle.std.specs.Prelude.{if◌then◌else◌, not, ◌&&◌, slice_get, Option, Some, Result, Ok, Err}
use Rattle.std.proofs.lemmas.Bool.{eq-eqb, ne_eqb}
use Rattle.mj_base.specs.declared.ids.EndId.{EndId}
use Rattle.mj_base.specs.declared.ids.SeqId.{SeqId}
use Rattle.mj_base.specs.declared.fault.Fault.{Fault}
use Rattle.mj_base.specs.declared.header.Header.{Header as Read}
use Rattle.message_pipe.specs.declared.message.Message.{Message}
use Rattle.wire_model.specs.HeaderMarks.{CONTROL_ID}
use Rattle.wire_model.specs.Message.{ids_read}
use Rattle.wire_model.specs.declared.target.MessageSide.{MessageSide}
use Rattle.bind_model.specs.declared.endpoint.Endpoint.{Endpoint}
use Rattle.bind_model.specs.declared.event.Event.{Event}
use Rattle.bind_model.specs.declared.told.BadWhy.TheVariants as bads
use Rattle.bind_model.specs.declared.told.Told.TheVariants as tells
use Rattle.bind_model.specs.Wire.{Content, Named, Wire, Header}
use Rattle.bind_model.specs.Machine.{Endpoints, endpoint_at, endpoint_named, first_strange, goes_behind, is_closed}
use Rattle.bind_model.specs.Replies.{at_endpoint, bad, controlled, got_asked, got_known, headed, is_response}
use Rattle.endpoint_router.specs.Rows.{is_pending, row_at}
use Rattle.endpoint_router.proofs.Agreeing.{unasked_told as router_unasked}
use Rattle.core_state.specs.Agreement.{Holds, past_of, wire_in}
use Rattle.core_state.specs.Routers.{found_at, router_at}
use Rattle.core_taking.specs.declared.admit.Admitted.{Admitted}
use Rattle.core_taking.specs.Admits.{Admits, by_slot}
use Rattle.core_state.specs.declared.state.State.{State}
use Rattle.core_taking.specs.Founds.{IsDropped, IsRead, Tells, carried_ids, front_at, header_of, is_unasked, things_in}
use Rattle.core_state.proofs.Steady.{found_is}
use Rattle.core_taking.specs.declared.reading.Found.{Found}

-- a message that is no control is told what its endpoint says
pub delivers : (wire : Wire) (past : List Event) (seq : SeqId) (y : EndId) (m : Message) (header : Read) → IsRead wire past y m header
    → (header.interface_id ≡ CONTROL_ID → ⊥) → (found : Option Endpoint) → found ≡ endpoint_at wire past y header.interface_id → (what : Found)
    → Tells wire past y what (at_endpoint wire past seq y m (header_of m header) found)
    → Tells wire past y what (headed wire past seq y m (wire.header m.bytes))
delivers wire past seq y m header read other found e what t =
    subst (λ (h : Result Header Fault). Tells wire past y what (headed wire past seq y m h)) (sym read.says)
    (subst (λ (b : Bool). Tells wire past y what
    (if b then controlled wire past y m (wire.says m.bytes) else at_endpoint wire past seq y m (header_of m header)
    (endpoint_at wire past y header.interface_id)))
    (sym (ne_eqb header.interface_id CONTROL_ID other))
    (subst (λ (r : Option Endpoint). Tells wire past y what (at_endpoint wire past seq y m (header_of m header) r)) e t))

-- a control is told what it says
pub obeys : (wire : Wire) (past : List Event) (seq : SeqId) (y : EndId) (m : Message) (h : Header) → wire.header m.bytes ≡ Ok h → h.id ≡ CONTROL_ID
    → (what : Found) → Tells wire past y what (controlled wire past y m (wire.says m.bytes))
    → Tells wire past y what (headed wire past seq y m (wire.header m.bytes))
obeys wire past seq y m h read is what t =
    subst (λ (r : Result Header Fault). Tells wire past y what (headed wire past seq y m r)) (sym read)
    (subst (λ (b : Bool). Tells wire past y what
    (if b then controlled wire past y m (wire.says m.bytes) else at_endpoint wire past seq y m h (endpoint_at wire past y h.id)))
    (sym (eq-eqb h.id CONTROL_ID is)) t)

-- a message that stands is told by whether it is a response that nobody waits for
module _ (wire : Wire) (past : List Event) (y : EndId) (m : Message) (h : Header) (r : Endpoint) (c : Content) (request method : ℕ) (side : MessageSide)
    (same_request : request ≡ c.request) (same_method : method ≡ c.target.method) (same_side : side ≡ c.target.side) where
  pub unasked_told : is_unasked past y h.id r.peer_closed side request method ≡ true → got_asked wire past y m h r c ≡ bad wire past y (bads.Unasked request)
  unasked_told e =
      let f : is_unasked past y h.id r.peer_closed c.target.side c.request c.target.method ≡ true = rw (← same_request, ← same_method, ← same_side) e in
      rw f (ap (λ (n : ℕ). bad wire past y (bads.Unasked n)) (sym same_request))

  pub asked_told : is_unasked past y h.id r.peer_closed side request method ≡ false
      → got_asked wire past y m h r c ≡ got_known wire past y m h c (first_strange (endpoint_at wire past y) [] h.ids)
  asked_told e =
      let f : is_unasked past y h.id r.peer_closed c.target.side c.request c.target.method ≡ false = rw (← same_request, ← same_method, ← same_side) e in
      rw f refl

-- as the routers have it: nobody waits for a response where no request of its number and method does
pub unasked_is : (s : State) → Holds s → (y : EndId) (id : ℕ) (e : Endpoint) → endpoint_at (wire_in s) (past_of s) y id ≡ Some e → is_closed e ≡ false
    → (side : MessageSide) (request method : ℕ)
    → is_unasked (past_of s) y id e.peer_closed side request method
    ≡ (is_response side && not (is_pending (row_at (router_at s.endpoints y) id) request method))
unasked_is s h y id e there alive side request method =
    ap (λ (b : Bool). is_response side && b)
    (sym (router_unasked (wire_in s) (past_of s) y (router_at s.endpoints y) (h.agrees.routers y) id e there alive request method))

-- where the value names no ids
pub no_slots : (many k : ℕ) → k < many → endpoint_named [] k ≡ by_slot (slice_get [] k)
no_slots many zero lt = refl
no_slots many (suc k) lt = refl

-- what is told of a message that is dropped, by what its ids are to the end
pub dropped_tells : (s : State) → Holds s → (y : EndId) (m : Message) (header : Read) (ids : List ℕ) (a : Admitted) → ids ≡ ids_read m.bytes
    → Admits (found_at s.endpoints y) [] ids a → IsRead (wire_in s) (past_of s) y m header
    → IsDropped (wire_in s) (past_of s) y header.interface_id a
    (tells.Dropped header.interface_id (goes_behind (wire_in s) (past_of s) y m.handles))
dropped_tells s h y m header ids a e admits read = record {
  is = ap (λ (o : Option Message). tells.Dropped header.interface_id (goes_behind (wire_in s) (past_of s) y (things_in o))) (sym read.front);
  admits = subst (λ (js : List ℕ). Admits (endpoint_at (wire_in s) (past_of s) y) [] js a) (e ∙ sym carried)
      (subst (λ (es : Endpoints). Admits es [] ids a) (λ i n. found_is h.agrees y n i) admits);
}
  where
    carried : carried_ids (wire_in s) (front_at (wire_in s) (past_of s) y) ≡ ids_read m.bytes
    carried = ap (carried_ids (wire_in s)) read.front ∙ ap (λ (r : Result Header Fault). elim r [ Ok k ↦ k.ids | Err fault ↦ [] ]) read.says

-- the first strange id, by what the ids are to the end
pub strange_is : (s : State) → Holds s → (y : EndId) (m : Message) (ids : List ℕ) (named : List Named) (a : Admitted) → ids ≡ ids_read m.bytes
    → Admits (found_at s.endpoints y) named ids a → first_strange (endpoint_at (wire_in s) (past_of s) y) [] (ids_read m.bytes) ≡ a.strange
strange_is s h y m ids named a e admits =
    ap (first_strange (endpoint_at (wire_in s) (past_of s) y) []) (sym e)
    ∙ (ap (λ (es : Endpoints). first_strange es [] ids) (λ i n. sym (found_is h.agrees y n) i) ∙ sym admits.strange)
