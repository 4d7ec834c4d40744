-- That a call is refused or done, by its way.
use Rattle.std.proofs.Common.{◌≡◌, ◌≤◌, ◌<◌, ℕ, ◌+◌, Bool, true, false, List, [], ◌∷◌, ◌++◌, length, refl, sym, ap, ◌∙◌, subst, arith}
use Rattle.std.specs.Prelude.{if◌then◌else◌, ◌&&◌, ◌||◌, not, ◌==◌, Option, Some, Result, Ok, Err, is_some, IsSome, IsTrue}
use Rattle.std.proofs.lemmas.List.{length-reverse}
use Rattle.mj_base.specs.declared.ids.EndId.{EndId}
use Rattle.mj_base.specs.declared.ids.SeqId.{SeqId}
use Rattle.mj_base.specs.declared.limits.TheConstants.{MAX_EVENTS, MAX_UNREAD_MESSAGES}
use Rattle.handle_table.specs.Things.{has, same_end}
use Rattle.handle_table.specs.declared.places.Place.TheVariants as places
use Rattle.handle_table.specs.declared.thing.Thing.TheVariants.{End}
use Rattle.message_pipe.specs.Contents.{Becomes, Contents}
use Rattle.message_pipe.specs.Ends.{end_of, is_closed, unread_at, with_message}
use Rattle.message_pipe.specs.Mail.{weighs}
use Rattle.message_pipe.specs.declared.message.Message.{Message}
use Rattle.message_pipe.specs.declared.pipe_end.PipeEnd.{PipeEnd}
use Rattle.bind_model.specs.declared.asked.Asked.TheVariants as asks
use Rattle.bind_model.specs.declared.asked.Outgoing.{Outgoing}
use Rattle.bind_model.specs.declared.endpoint.Endpoint.{Endpoint}
use Rattle.bind_model.specs.declared.event.Event.{Event}
use Rattle.bind_model.specs.declared.told.Told.TheVariants as tells
use Rattle.bind_model.specs.declared.told.Why.{Why}
use Rattle.bind_model.specs.declared.told.Why.TheVariants.{NoName}
use Rattle.bind_model.specs.Wire.{Wire}
use Rattle.bind_model.specs.Machine.{endpoint_at, made, peer}
use Rattle.bind_model.specs.Replies.{drawn, ids_of, is_response}
use Rattle.bind_model.proofs.Fresh.{kept}
use Rattle.bind_model.proofs.Kept.{Kept, bound_made}
use Rattle.bind_model.proofs.Outcomes.{Outcome, outcome, Writes, Open, calls}
use Rattle.bind_model.proofs.Responses.{own_responses}
use Rattle.endpoint_router.specs.Agreement.{row_with}
use Rattle.endpoint_router.specs.Changes.{IsBound, with_request}
use Rattle.endpoint_router.specs.Rows.{RowSeen, can_draw, next_number, row_at}
use Rattle.endpoint_router.proofs.Agreeing.{row_there}
use Rattle.core_state.specs.Routers.{Routers, found_at, router_at}
use Rattle.core_sending.specs.Calls.{AreOf, MaySend, command_of, number_of, outgoing_named, request_id, sealed_bytes}
use Rattle.core_state.specs.Requests.{SendsAt}
use Rattle.core_state.specs.steps.Spends.{SpendsAll}
use Rattle.core_sending.specs.Carrying.{all_own, names_in}
use Rattle.core_sending.specs.Fitting.{way}
use Rattle.core_state.specs.Placing.{PutsAll}
use Rattle.bind_model.specs.Plain.{asked_of}
use Rattle.bind_model.specs.Responders.{CountsResponders}
use Rattle.bind_model.specs.declared.responder.ResponderName.{ResponderName}
use Rattle.wire_model.specs.Message.{AreIds}
use Rattle.core_state.specs.Agreement.{Agrees, past_of, schema_of, wire_in}
use Rattle.core_state.specs.Doing.{CanDo, Done, told_in}
use Rattle.core_state.specs.Opens.{opened}
use Rattle.endpoint_router.specs.Turns.{IsSame}
use Rattle.core_sending.specs.declared.call.Request.{Request}
use Rattle.core_sending.specs.declared.carried.CarriedNames.{CarriedNames}
use Rattle.bind_model.specs.declared.commands.Reply.{Reply}
use Rattle.core_sending.specs.declared.writing.Writes.{Writes as Written}
use Rattle.bind_model.specs.declared.commands.Reply.TheVariants as replies
use Rattle.core_state.specs.declared.state.State.{State}
use Rattle.core_sending.proofs.Calling.{goes, open_ok, way_refused, way_sends}
use Rattle.core_sending.proofs.Fitted.{Fits, passed}
use Rattle.core_state.proofs.Facts.{peer_is}
use Rattle.core_state.proofs.Held.{event_of, finish_with, unstirred}
use Rattle.core_state.proofs.Numbers.{drawn_few, next_fresh}
use Rattle.core_state.proofs.Opening.{opened_bound, opened_there}
use Rattle.core_state.proofs.Quiet.{counts_still, pendings_spent}
use Rattle.core_sending.proofs.Sending.{IsWriting, sent_agrees}
use Rattle.core_state.proofs.Steady.{AllAgree, call_turns, found_is}
use Rattle.core_state.proofs.Turned.{send_same, turns_after}

-- what is known of a call that is sent
facts : (wire : Wire) (seqs : ℕ) (past : List Event) (seq : SeqId) (y : EndId) (id : ℕ) (s : Outgoing) (request : ℕ) (bytes : List ℕ)
    → Outcome wire seqs past seq (asks.Call y id s) (tells.Sent request bytes) → Writes wire past y s.handles × ((r : Endpoint) × Open wire past seq y id r)
facts wire seqs past seq y id s request bytes (calls r o ps mk e w b) = (w, (r, o))

-- ## The state

module _ (old : State) (seq : SeqId) (r : Request) (can : CanDo old seq (command_of r)) where
  k : Kept (wire_in old) (past_of old)
  k = kept (wire_in old) old.seqs (past_of old) can.able.holds.legal

  few_past : length (past_of old) ≤ MAX_EVENTS
  few_past = let few = can.able.holds.few in omega (arith, few, length-reverse old.log.events)

  abbrev pub names : CarriedNames
  names = names_in r.carried

  -- the way of the call with these names
  abbrev pub way_named : CarriedNames → Result EndId Why
  way_named ns = way seq r.end r.id r.prepared ns (all_own old.pipes old.rights.pendings ns) old.pipes old.tables.flows old.endpoints

  pub call_refused : (why : Why) → way_named names ≡ Err why → told_in old seq (command_of r) ≡ tells.No why
  call_refused why h =
      way_refused (schema_of old) old.seqs (past_of old) k old.pipes old.endpoints can.able.holds.agrees can.able.holds.legal few_past
      old.tables.flows can.able.holds.tables.flows
      old.rights.pendings can.able.holds.pendings seq r.end r.id r.prepared can.prepared names r.moment why h

  -- what is asked, and what is told where it is sent
  abbrev out : Outgoing
  out = outgoing_named r.prepared names r.moment

  abbrev number : ℕ
  number = request_id (past_of old) r.end r.id r.prepared

  abbrev bytes_for : ℕ → List ℕ
  bytes_for request = sealed_bytes r.id request r.moment (ids_of names.pendings) r.prepared

  module _ (x : EndId) (free : way_named names ≡ Ok x) where
    g : (is_response r.prepared.target.side ≡ false) × Fits (past_of old) old.pipes r.end r.prepared names x
    g =
        goes (schema_of old) old.seqs (past_of old) k old.pipes old.endpoints can.able.holds.agrees can.able.holds.legal few_past
        old.tables.flows can.able.holds.tables.flows
        old.rights.pendings can.able.holds.pendings seq r.end r.id r.prepared can.prepared names r.moment x free

    -- its ids may be written
    pub wanted : length (ids_of names.pendings) ≡ length r.prepared.endpoints.items
    wanted = g.1.wanted

    -- the end that it goes to isn't full
    pub room : weighs (unread_at old.pipes.ends x) < MAX_UNREAD_MESSAGES
    room = g.1.room

    pub are_ids : AreIds (ids_of names.pendings)
    are_ids = g.1.ids

    sends : told_in old seq (command_of r) ≡ tells.Sent number (bytes_for number)
    sends =
        way_sends (schema_of old) old.seqs (past_of old) k old.pipes old.endpoints can.able.holds.agrees can.able.holds.legal few_past
        old.tables.flows can.able.holds.tables.flows
        old.rights.pendings can.able.holds.pendings seq r.end r.id r.prepared can.prepared names r.moment x g.0 free

    known : Writes (wire_in old) (past_of old) r.end r.carried.handles × ((e : Endpoint) × Open (wire_in old) (past_of old) seq r.end r.id e)
    known =
        facts (wire_in old) old.seqs (past_of old) seq r.end r.id out number (bytes_for number)
        (outcome (wire_in old) old.seqs (past_of old) seq (asked_of (command_of r)) (tells.Sent number (bytes_for number)) (sym sends))

    made_here : has (made (past_of old)) (End r.end) ≡ true
    made_here = bound_made (wire_in old) (past_of old) k (End r.end) (k.endpoints r.end r.id known.1.0 known.1.1.here)

    peer_here : x ≡ peer (past_of old) r.end
    peer_here =
        let p = peer_is (wire_in old) (past_of old) k old.pipes old.endpoints can.able.holds.agrees r.end made_here in
        let q = g.1.peer in cc

    -- the other end was made
    pub there : is_some (end_of old.pipes.ends x) ≡ true
    there = ap (λ (o : Option PipeEnd). is_some o) (can.able.holds.agrees.ends x) ∙ rw (peer_here, k.peers r.end made_here) refl

    -- ## The endpoint that it is sent from

    abbrev open_here : Result Endpoint Why
    open_here = opened seq (is_closed (end_of old.pipes.ends r.end)) r.id (found_at old.endpoints r.end r.id)

    opens : (e : Endpoint) × (open_here ≡ Ok e)
    opens =
        open_ok (schema_of old) old.seqs (past_of old) k old.pipes old.endpoints can.able.holds.agrees can.able.holds.legal few_past
        old.tables.flows can.able.holds.tables.flows
        old.rights.pendings can.able.holds.pendings seq r.end r.id r.prepared can.prepared names r.moment open_here x
        (passed (not (all_own old.pipes old.rights.pendings names)) NoName _ x free).1

    stands : endpoint_at (wire_in old) (past_of old) r.end r.id ≡ Some opens.0
    stands =
        sym (found_is can.able.holds.agrees r.end r.id)
        ∙ opened_there seq (is_closed (end_of old.pipes.ends r.end)) r.id (found_at old.endpoints r.end r.id) opens.0 opens.1

    row_is : row_at (router_at old.endpoints r.end) r.id ≡ Some (row_with (past_of old) r.end r.id opens.0)
    row_is = row_there (wire_in old) (past_of old) r.end (router_at old.endpoints r.end) (can.able.holds.agrees.routers r.end) r.id opens.0 stands

    pub row_here : IsSome (row_at (router_at old.endpoints r.end) r.id)
    row_here = subst (λ (o : Option RowSeen). IsSome o) (sym row_is) refl

    -- the number of the request
    number_is : number_of old.endpoints r.end r.id r.prepared ≡ number
    number_is = ap (λ (n : ℕ). if r.prepared.flags == 0 then 0 else n) (ap next_number row_is)

    -- it may be sent where there is a place for it
    pub may_send : (request : ℕ) (mid : Routers) → ((y : EndId) → IsSame (router_at old.endpoints y) (router_at mid y))
        → IsTrue ((request == 0) || can_draw (router_at mid r.end) r.id) → MaySend request (router_at mid r.end) r.id
    may_send request mid same room = λ some.
        send_same (router_at old.endpoints r.end) (router_at mid r.end) r.id (same r.end)
        (subst (λ (o : Option RowSeen). IsBound o) (sym row_is)
        (opened_bound seq (is_closed (end_of old.pipes.ends r.end)) r.id (found_at old.endpoints r.end r.id) opens.0
        (row_with (past_of old) r.end r.id opens.0) refl opens.1))
        few (rw some at room)
      where
        few : next_number (row_at (router_at old.endpoints r.end) r.id) ≤ MAX_EVENTS
        few =
            let least = can.able.few in
            let all = length-reverse old.log.events in
            let drawn = drawn_few (past_of old) r.end r.id in
            rw row_is (omega (arith, least, all, drawn))

    -- the number of a request that has one is the next
    next_is : (request m : ℕ) (b : Bool) → request ≡ (if b then 0 else m) → (request == 0) ≡ false → request ≡ m
    next_is request m true e f = absurd (let z : (request == 0) ≡ true = rw e refl in cc)
    next_is request m false e f = e

    module _ (new : State) (schema : schema_of new ≡ schema_of old) (seqs : new.seqs ≡ old.seqs)
        (kept : new.rights.responders ≡ old.rights.responders) (unnoticed : new.tables ≡ old.tables) where
      abbrev reply_with : ℕ → List ℕ → Reply
      reply_with request bytes = replies.Sent request bytes

      abbrev event_with : ℕ → List ℕ → Event
      event_with request bytes = event_of seq (command_of r) (reply_with request bytes)

      -- the pipes and the routers are those that the events give
      agrees_now : (request : ℕ) (bytes : List ℕ) (mid : Contents) (reserved : Routers)
          → request ≡ number_of old.endpoints r.end r.id r.prepared
          → Becomes x (with_message (record { bytes = bytes; handles = r.carried.handles; emitted = false })) old.pipes mid
          → PutsAll r.carried.handles (places.Unread x) mid new.pipes
          → ((y : EndId) → IsSame (router_at old.endpoints y) (router_at reserved y))
          → SendsAt r.end r.id request r.prepared.target.method reserved new.endpoints
          → Agrees (wire_in old) (event_with request bytes ∷ past_of old) new.pipes new.endpoints
      agrees_now request bytes mid reserved n b p same sent =
          sent_agrees (wire_in old) (past_of old) k seq (asks.Call r.end r.id out) (tells.Sent request bytes) r.end r.carried.handles bytes
          sent_writes refl (λ z. refl) known.0.own known.0.open_there old.pipes mid new.pipes old.endpoints new.endpoints
          (subst (λ (z : EndId). Becomes z (with_message (record { bytes = bytes; handles = r.carried.handles; emitted = false })) old.pipes mid) peer_here b)
          (subst (λ (z : EndId). PutsAll r.carried.handles (places.Unread z) mid new.pipes) peer_here p)
          turned
          can.able.holds.agrees
        where
          sent_writes : IsWriting (tells.Sent request bytes) (asks.Call r.end r.id out)
          sent_writes = record { made = refl; gone = refl; handed = refl; takes = λ z. refl; peer = λ z before. refl }

          turned : AllAgree (wire_in old) (event_with request bytes ∷ past_of old) new.endpoints
          turned =
              call_turns (wire_in old) (past_of old) seq old.endpoints new.endpoints can.able.holds.agrees.routers r.end r.id request out bytes
              (next_is request (length (drawn (past_of old) r.end r.id) + 1) (r.prepared.flags == 0) (n ∙ number_is))
              (next_fresh (past_of old) (own_responses (wire_in old) old.seqs (past_of old) can.able.holds.legal) r.end r.id)
              (λ y.
              turns_after (with_request r.prepared.target.method) r.id (same_end r.end y && not (request == 0))
              (router_at old.endpoints y) (router_at reserved y) (router_at new.endpoints y) (same y) (sent y))

      named_done : (request : ℕ) (w : Written) (mid : Contents) (reserved : Routers)
          → request ≡ number_of old.endpoints r.end r.id r.prepared
          → AreOf r.prepared names r.moment (bytes_for request) w
          → Becomes x (with_message w.message) old.pipes mid → PutsAll r.carried.handles (places.Unread x) mid new.pipes
          → SpendsAll names.pendings old.rights.pendings new.rights.pendings
          → new.log.events ≡ old.log.events ++ record { seq = seq; asked = asks.Call r.end r.id w.outgoing; told = tells.Sent request w.noted } ∷ []
          → ((y : EndId) → IsSame (router_at old.endpoints y) (router_at reserved y))
          → SendsAt r.end r.id request r.prepared.target.method reserved new.endpoints
          → Done old new seq (command_of r) (reply_with request w.told)
      named_done request w mid reserved n a b p spent events same sent =
          finish_with old new seq (command_of r) (reply_with request w.told) can.able schema seqs
          (events ∙ rw (a.outgoing, a.noted, a.told) refl)
          (rw (a.told, n, number_is) (sym sends))
          (agrees_now request w.told mid reserved n (subst (λ (m : Message). Becomes x (with_message m) old.pipes mid) message b) p same sent)
          (subst (λ (counts : List (ResponderName × ℕ)). CountsResponders (wire_in old) (event_with request w.told ∷ past_of old) counts) (sym kept)
          (counts_still (wire_in old) (event_with request w.told) (past_of old) old.rights.responders refl refl can.able.holds.responders))
          tt
          refl
          (pendings_spent (event_with request w.told) (past_of old) names.pendings old.rights.pendings new.rights.pendings refl refl spent
          can.able.holds.pendings)
          refl
          (unstirred old new seq (command_of r) (reply_with request w.told) can.able unnoticed refl)
        where
          message : w.message ≡ record { bytes = w.told; handles = r.carried.handles; emitted = false }
          message = a.message ∙ rw a.told refl

      pub call_done : (request : ℕ) (ns : CarriedNames) (w : Written) (mid : Contents) (reserved : Routers)
          → request ≡ number_of old.endpoints r.end r.id r.prepared → ns ≡ names
          → AreOf r.prepared ns r.moment (sealed_bytes r.id request r.moment (ids_of ns.pendings) r.prepared) w
          → Becomes x (with_message w.message) old.pipes mid → PutsAll r.carried.handles (places.Unread x) mid new.pipes
          → SpendsAll names.pendings old.rights.pendings new.rights.pendings
          → new.log.events ≡ old.log.events ++ record { seq = seq; asked = asks.Call r.end r.id w.outgoing; told = tells.Sent request w.noted } ∷ []
          → ((y : EndId) → IsSame (router_at old.endpoints y) (router_at reserved y))
          → SendsAt r.end r.id request r.prepared.target.method reserved new.endpoints
          → Done old new seq (command_of r) (replies.Sent request w.told)
      call_done request ns w mid reserved n e a b p spent events same sent =
          named_done request w mid reserved n
          (subst (λ (ms : CarriedNames). AreOf r.prepared ms r.moment (sealed_bytes r.id request r.moment (ids_of ms.pendings) r.prepared) w) e a)
          b p spent events same sent
