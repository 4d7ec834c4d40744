-- That an answer is refused or done, by its way.
use Rattle.std.proofs.Common.{◌≡◌, ◌≤◌, ◌<◌, arith, ℕ, ◌+◌, Bool, true, false, List, [], ◌∷◌, ◌++◌, length, refl, sym, ap, ◌∙◌, subst}
use Rattle.std.specs.Prelude.{if◌then◌else◌, ◌&&◌, not, ◌==◌, Result, Ok, Err, Option, is_some}
use Rattle.std.specs.List.{list_any}
use Rattle.std.proofs.lemmas.List.{length-reverse}
use Rattle.mj_base.specs.declared.limits.TheConstants.{MAX_EVENTS, MAX_UNREAD_MESSAGES}
use Rattle.mj_base.specs.declared.ids.EndId.{EndId}
use Rattle.mj_base.specs.declared.ids.SeqId.{SeqId}
use Rattle.handle_table.specs.Things.{has}
use Rattle.handle_table.specs.declared.places.Place.TheVariants as places
use Rattle.handle_table.specs.declared.thing.Thing.{Thing}
use Rattle.handle_table.specs.declared.thing.Thing.TheVariants.{End}
use Rattle.message_pipe.specs.Contents.{Becomes, Contents}
use Rattle.message_pipe.specs.Ends.{end_of, unread_at, with_message}
use Rattle.message_pipe.specs.Mail.{weighs}
use Rattle.message_pipe.specs.declared.message.Message.{Message}
use Rattle.message_pipe.specs.declared.pipe_end.PipeEnd.{PipeEnd}
use Rattle.bind_model.specs.declared.asked.Asked.TheVariants as asks
use Rattle.bind_model.specs.declared.asked.Closing.TheVariants as closings
use Rattle.bind_model.specs.declared.asked.Outgoing.{Outgoing}
use Rattle.bind_model.specs.declared.endpoint.Endpoint.{Endpoint}
use Rattle.bind_model.specs.declared.endpoint.ResponderId.{ResponderId}
use Rattle.bind_model.specs.declared.event.Event.{Event}
use Rattle.bind_model.specs.declared.told.Told.TheVariants as tells
use Rattle.bind_model.specs.declared.told.Why.{Why}
use Rattle.bind_model.specs.declared.told.Why.TheVariants.{NoName}
use Rattle.bind_model.specs.Wire.{Wire}
use Rattle.bind_model.specs.Machine.{made, peer}
use Rattle.bind_model.specs.Replies.{first_of, ids_of, responders_out, same_responder, unless}
use Rattle.bind_model.proofs.Fresh.{kept}
use Rattle.bind_model.proofs.Kept.{Kept, bound_made}
use Rattle.bind_model.proofs.Outcomes.{Outcome, outcome, Writes, Open, answers}
use Rattle.core_state.specs.Routers.{Routers}
use Rattle.core_state.specs.Agreement.{Agrees, past_of, schema_of, wire_in}
use Rattle.bind_model.specs.Plain.{asked_of}
use Rattle.wire_model.specs.Message.{AreIds}
use Rattle.bind_model.specs.Pendings.{KnowsPendings}
use Rattle.bind_model.specs.Responders.{count_of}
use Rattle.bind_model.specs.declared.names.EndpointName.{EndpointName}
use Rattle.core_sending.specs.Answering.{command_of, way_back}
use Rattle.core_sending.specs.Calls.{AreOf, outgoing_named, sealed_bytes}
use Rattle.core_state.specs.steps.Spends.{SpendsAll}
use Rattle.core_sending.specs.Carrying.{all_own, names_in}
use Rattle.core_sending.specs.declared.carried.CarriedNames.{CarriedNames}
use Rattle.core_state.specs.Doing.{CanDo, Done, HasRoom, told_in, told_to}
use Rattle.core_state.specs.Placing.{PutsAll}
use Rattle.core_sending.specs.declared.answer.Response.{Response}
use Rattle.bind_model.specs.declared.commands.Command.TheVariants as commands
use Rattle.bind_model.specs.declared.commands.Reply.TheVariants as replies
use Rattle.bind_model.specs.declared.commands.ToClose.TheVariants as close
use Rattle.core_sending.specs.declared.writing.Writes.{Writes as Written}
use Rattle.core_state.specs.declared.state.State.{State}
use Rattle.core_sending.proofs.Fitted.{Fits}
use Rattle.core_state.proofs.Facts.{peer_is}
use Rattle.core_state.proofs.Held.{event_of, finish_with, unstirred}
use Rattle.core_sending.proofs.Replying.{back_goes, back_refused, back_sends}
use Rattle.core_state.proofs.Responding.{counts_spent, out_counted}
use Rattle.core_sending.proofs.Sending.{IsWriting, sent_agrees}
use Rattle.core_state.proofs.Steady.{steady}
use Rattle.core_state.proofs.Still.{still}
use Rattle.core_state.proofs.Quiet.{pendings_spent, pendings_still}

-- what is known of an answer that is sent
facts : (wire : Wire) (seqs : ℕ) (past : List Event) (seq : SeqId) (r : ResponderId) (s : Outgoing) (request : ℕ) (bytes : List ℕ)
    → Outcome wire seqs past seq (asks.Answer r s) (tells.Sent request bytes)
    → Writes wire past r.end s.handles × ((e : Endpoint) × Open wire past seq r.end r.id e)
facts wire seqs past seq r s request bytes (answers e o rs ps n w b) = (w, (e, o))

-- ## The state

module _ (old : State) (seq : SeqId) (r : Response) (can : CanDo old seq (command_of r)) where
  k : Kept (wire_in old) (past_of old)
  k = kept (wire_in old) old.seqs (past_of old) can.able.holds.legal

  few_past : length (past_of old) ≤ MAX_EVENTS
  few_past = let few = can.able.holds.few in omega (arith, few, length-reverse old.log.events)

  abbrev pub names : CarriedNames
  names = names_in r.carried

  -- the way of the answer with these names
  abbrev pub way_named : CarriedNames → Result EndId Why
  way_named ns =
      way_back seq r.responder r.prepared ns (not (count_of old.rights.responders r.responder == 0) && all_own old.pipes old.rights.pendings ns)
      old.pipes old.tables.flows old.endpoints

  pub answer_refused : (why : Why) → way_named names ≡ Err why → told_in old seq (command_of r) ≡ tells.No why
  answer_refused why h =
      back_refused (schema_of old) old.seqs (past_of old) k old.pipes old.endpoints can.able.holds.agrees can.able.holds.legal few_past
      old.tables.flows can.able.holds.tables.flows
      old.rights.pendings can.able.holds.pendings old.rights.responders can.able.holds.responders seq r.responder r.prepared can.prepared names r.moment why h

  abbrev out : Outgoing
  out = outgoing_named r.prepared names r.moment

  abbrev bytes : List ℕ
  bytes = sealed_bytes r.responder.id r.responder.request r.moment (ids_of names.pendings) r.prepared

  module _ (x : EndId) (free : way_named names ≡ Ok x) where
    g : (not (count_of old.rights.responders r.responder == 0) ≡ true) × Fits (past_of old) old.pipes r.responder.end r.prepared names x
    g =
        back_goes (schema_of old) old.seqs (past_of old) k old.pipes old.endpoints can.able.holds.agrees can.able.holds.legal few_past
        old.tables.flows can.able.holds.tables.flows
        old.rights.pendings can.able.holds.pendings old.rights.responders can.able.holds.responders seq r.responder r.prepared can.prepared names r.moment
        x free

    -- the caller has the responder
    pub spendable : not (count_of old.rights.responders r.responder == 0) ≡ true
    spendable = g.0

    -- its ids may be written
    pub wanted : length (ids_of names.pendings) ≡ length r.prepared.endpoints.items
    wanted = g.1.wanted

    -- the end that it goes to isn't full
    pub room : weighs (unread_at old.pipes.ends x) < MAX_UNREAD_MESSAGES
    room = g.1.room

    pub are_ids : AreIds (ids_of names.pendings)
    are_ids = g.1.ids

    sends : told_in old seq (command_of r) ≡ tells.Sent r.responder.request bytes
    sends =
        back_sends (schema_of old) old.seqs (past_of old) k old.pipes old.endpoints can.able.holds.agrees can.able.holds.legal few_past
        old.tables.flows can.able.holds.tables.flows
        old.rights.pendings can.able.holds.pendings old.rights.responders can.able.holds.responders seq r.responder r.prepared can.prepared names r.moment
        x free

    known : Writes (wire_in old) (past_of old) r.responder.end r.carried.handles
        × ((e : Endpoint) × Open (wire_in old) (past_of old) seq r.responder.end r.responder.id e)
    known =
        facts (wire_in old) old.seqs (past_of old) seq r.responder out r.responder.request bytes
        (outcome (wire_in old) old.seqs (past_of old) seq (asked_of (command_of r)) (tells.Sent r.responder.request bytes) (sym sends))

    made_here : has (made (past_of old)) (End r.responder.end) ≡ true
    made_here =
        bound_made (wire_in old) (past_of old) k (End r.responder.end) (k.endpoints r.responder.end r.responder.id known.1.0 known.1.1.here)

    peer_here : x ≡ peer (past_of old) r.responder.end
    peer_here =
        let p = peer_is (wire_in old) (past_of old) k old.pipes old.endpoints can.able.holds.agrees r.responder.end made_here in
        let q = g.1.peer in cc

    -- the other end was made
    pub there : is_some (end_of old.pipes.ends x) ≡ true
    there = ap (λ (o : Option PipeEnd). is_some o) (can.able.holds.agrees.ends x) ∙ rw (peer_here, k.peers r.responder.end made_here) refl

    module _ (new : State) (schema : schema_of new ≡ schema_of old) (seqs : new.seqs ≡ old.seqs) (same : new.endpoints ≡ old.endpoints)
        (unnoticed : new.tables ≡ old.tables) where
      abbrev event_with : List ℕ → Event
      event_with told = event_of seq (command_of r) (replies.Sent r.responder.request told)

      agrees_now : (told : List ℕ) (mid : Contents)
          → Becomes x (with_message (record { bytes = told; handles = r.carried.handles; emitted = false })) old.pipes mid
          → PutsAll r.carried.handles (places.Unread x) mid new.pipes
          → Agrees (wire_in old) (event_with told ∷ past_of old) new.pipes new.endpoints
      agrees_now told mid b p =
          subst (λ (tables : Routers). Agrees (wire_in old) (event_with told ∷ past_of old) new.pipes tables) (sym same)
          (sent_agrees (wire_in old) (past_of old) k seq (asks.Answer r.responder out) (tells.Sent r.responder.request told) r.responder.end
          r.carried.handles told sent_writes refl (λ z. refl)
          known.0.own known.0.open_there old.pipes mid new.pipes old.endpoints old.endpoints
          (subst (λ (z : EndId). Becomes z (with_message (record { bytes = told; handles = r.carried.handles; emitted = false })) old.pipes mid) peer_here b)
          (subst (λ (z : EndId). PutsAll r.carried.handles (places.Unread z) mid new.pipes) peer_here p)
          (steady (wire_in old) (event_with told) (past_of old)
          (record { draws = λ y n. refl; answers = λ y n. refl; associates = λ y. refl; endpoints = λ y n. refl }) old.endpoints can.able.holds.agrees.routers)
          can.able.holds.agrees)
        where
          sent_writes : IsWriting (tells.Sent r.responder.request told) (asks.Answer r.responder out)
          sent_writes = record { made = refl; gone = refl; handed = refl; takes = λ z. refl; peer = λ z before. refl }

      named_done : (w : Written) (mid : Contents) → AreOf r.prepared names r.moment bytes w
          → Becomes x (with_message w.message) old.pipes mid → PutsAll r.carried.handles (places.Unread x) mid new.pipes
          → SpendsAll names.pendings old.rights.pendings new.rights.pendings
          → ((q : ResponderId) → count_of new.rights.responders q + (if same_responder r.responder q then 1 else 0) ≡ count_of old.rights.responders q)
          → new.log.events ≡ old.log.events
          ++ record { seq = seq; asked = asks.Answer r.responder w.outgoing; told = tells.Sent r.responder.request w.noted } ∷ []
          → Done old new seq (command_of r) (replies.Sent r.responder.request w.told)
      named_done w mid a b p spent less events =
          finish_with old new seq (command_of r) (replies.Sent r.responder.request w.told) can.able schema seqs
          (events ∙ rw (a.outgoing, a.noted, a.told) refl)
          (rw a.told (sym sends))
          (agrees_now w.told mid (subst (λ (m : Message). Becomes x (with_message m) old.pipes mid) message b) p)
          (counts_spent (wire_in old) (event_with w.told) (past_of old) r.responder
          old.rights.responders new.rights.responders refl refl spendable less can.able.holds.responders)
          tt
          refl
          (pendings_spent (event_with w.told) (past_of old) names.pendings old.rights.pendings new.rights.pendings refl refl spent can.able.holds.pendings)
          refl
          (unstirred old new seq (command_of r) (replies.Sent r.responder.request w.told) can.able unnoticed refl)
        where
          message : w.message ≡ record { bytes = w.told; handles = r.carried.handles; emitted = false }
          message = a.message ∙ rw a.told refl

      pub answer_done : (ns : CarriedNames) (w : Written) (mid : Contents) → ns ≡ names
          → AreOf r.prepared ns r.moment (sealed_bytes r.responder.id r.responder.request r.moment (ids_of ns.pendings) r.prepared) w
          → Becomes x (with_message w.message) old.pipes mid → PutsAll r.carried.handles (places.Unread x) mid new.pipes
          → SpendsAll names.pendings old.rights.pendings new.rights.pendings
          → ((q : ResponderId) → count_of new.rights.responders q + (if same_responder r.responder q then 1 else 0) ≡ count_of old.rights.responders q)
          → new.log.events ≡ old.log.events
          ++ record { seq = seq; asked = asks.Answer r.responder w.outgoing; told = tells.Sent r.responder.request w.noted } ∷ []
          → Done old new seq (command_of r) (replies.Sent r.responder.request w.told)
      answer_done ns w mid e a b p spent less events =
          named_done w mid
          (subst (λ (ms : CarriedNames).
          AreOf r.prepared ms r.moment (sealed_bytes r.responder.id r.responder.request r.moment (ids_of ms.pendings) r.prepared) w) e a)
          b p spent less events

-- ## The closing of a responder

module _ (old : State) (seq : SeqId) (able : HasRoom old seq) (r : ResponderId) where
  abbrev event : Event
  event = record { seq = seq; asked = asks.Close (closings.Responder r); told = tells.Closed [] }

  -- whether it is out decides
  closing_told : told_to old seq (asks.Close (closings.Responder r))
      ≡ (if not (count_of old.rights.responders r == 0) then tells.Closed [] else tells.No NoName)
  closing_told =
      rw (able.holds.responders r, ← out_counted (responders_out (wire_in old) (past_of old)) r)
      (go (list_any (λ (q : ResponderId). same_responder q r) (responders_out (wire_in old) (past_of old))))
    where
      go : (b : Bool) → first_of (unless b NoName ∷ []) (tells.Closed [])
          ≡ (if b then tells.Closed [] else tells.No NoName)
      go true = refl
      go false = refl

  pub closing_refused : not (count_of old.rights.responders r == 0) ≡ false → told_to old seq (asks.Close (closings.Responder r)) ≡ tells.No NoName
  closing_refused h = closing_told ∙ rw h refl

  pub closing_done : (new : State) → not (count_of old.rights.responders r == 0) ≡ true → schema_of new ≡ schema_of old → new.seqs ≡ old.seqs
      → new.pipes ≡ old.pipes → new.endpoints ≡ old.endpoints → new.tables ≡ old.tables → new.rights.pendings ≡ old.rights.pendings
      → ((q : ResponderId) → count_of new.rights.responders q + (if same_responder r q then 1 else 0) ≡ count_of old.rights.responders q)
      → (noted told : List Thing) → noted ≡ [] → told ≡ []
      → new.log.events ≡ old.log.events ++ record { seq = seq; asked = asks.Close (closings.Responder r); told = tells.Closed noted } ∷ []
      → Done old new seq (commands.Close (close.Responder r)) (replies.Closed told)
  closing_done new here schema seqs pipes endpoints unnoticed kept less noted told n t events =
      finish_with old new seq (commands.Close (close.Responder r)) (replies.Closed told) able schema seqs
      (events ∙ rw (n, t) refl)
      (rw t (sym (closing_told ∙ rw here refl)))
      (rw t
      (subst (λ (c : Contents). Agrees (wire_in old) (event ∷ past_of old) c new.endpoints) (sym pipes)
      (subst (λ (tables : Routers). Agrees (wire_in old) (event ∷ past_of old) old.pipes tables) (sym endpoints)
      (still (wire_in old) event (past_of old)
      (record { made = refl; gone = refl; given = refl; handed = refl; takes = λ x. refl; puts = λ x. refl; peer = λ x. refl })
      (record { draws = λ x id. refl; answers = λ x id. refl; associates = λ x. refl; endpoints = λ x id. refl })
      old.pipes old.endpoints able.holds.agrees))))
      (counts_spent (wire_in old) event (past_of old) r old.rights.responders new.rights.responders refl refl here less able.holds.responders)
      tt
      refl
      (subst (λ (names : List (EndpointName × Bool)). KnowsPendings (event ∷ past_of old) names) (sym kept)
      (pendings_still event (past_of old) old.rights.pendings refl refl able.holds.pendings))
      refl
      (unstirred old new seq (commands.Close (close.Responder r)) (replies.Closed told) able unnoticed refl)
