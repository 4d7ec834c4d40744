-- That a pending which was received is closed, by what the parts of this did.
use Rattle.control_bytes.specs.declared.control.Control.TheVariants as says
use Rattle.std.proofs.Common.{◌≡◌, ℕ, Bool, true, false, List, [], ◌∷◌, ◌++◌, Some, length, refl, sym, ap, ◌∙◌, subst, arith}
use Rattle.std.specs.Prelude.{if◌then◌else◌, ◌&&◌, ◌||◌, not, ◌==◌, Option, is_some, IsSome}
use Rattle.std.specs.Option.{option_map}
use Rattle.std.proofs.lemmas.Bool.{eq-eqb, ne_eqb}
use Rattle.std.proofs.lemmas.List.{append-nil, length-reverse}
use Rattle.mj_base.specs.declared.ids.EndId.{EndId}
use Rattle.mj_base.specs.declared.ids.SeqId.{SeqId}
use Rattle.handle_table.specs.Things.{same_end}
use Rattle.handle_table.specs.declared.thing.Thing.{Thing}
use Rattle.message_pipe.specs.Contents.{Contents}
use Rattle.message_pipe.specs.Ends.{end_of, is_closed, peer_of}
use Rattle.message_pipe.specs.declared.message.Message.{Message}
use Rattle.bind_model.specs.declared.asked.Asked.TheVariants as asks
use Rattle.bind_model.specs.declared.asked.Closing.TheVariants as closings
use Rattle.bind_model.specs.declared.commands.Command.TheVariants as commands
use Rattle.bind_model.specs.declared.commands.Reply.TheVariants as replies
use Rattle.bind_model.specs.declared.commands.ToClose.TheVariants as close
use Rattle.bind_model.specs.declared.endpoint.Endpoint.{Endpoint}
use Rattle.bind_model.specs.declared.endpoint.PendingId.{PendingId}
use Rattle.bind_model.specs.declared.endpoint.State.{State as EndpointState}
use Rattle.bind_model.specs.declared.endpoint.State.TheVariants as states
use Rattle.bind_model.specs.declared.event.Event.{Event}
use Rattle.bind_model.specs.declared.responder.ResponderName.{ResponderName}
use Rattle.bind_model.specs.declared.told.Told.TheVariants as tells
use Rattle.bind_model.specs.Machine.{associated, emits, endpoint_at, is_gone, is_local}
use Rattle.bind_model.specs.Pendings.{Half, is_out}
use Rattle.bind_model.specs.Replies.{has_pending, pendings_out, same_pending}
use Rattle.bind_model.specs.Responders.{CountsResponders}
use Rattle.bind_model.proofs.Entering.{is_pending_state}
use Rattle.bind_model.proofs.Fresh.{kept}
use Rattle.bind_model.proofs.PendingFacts.{pending_plain, pending_there}
use Rattle.endpoint_router.specs.Changes.{in_state}
use Rattle.endpoint_router.specs.Rows.{RowSeen, row_at}
use Rattle.endpoint_router.proofs.Turning.{unbound_row}
use Rattle.core_state.specs.Agreement.{Agrees, past_of, schema_of, wire_in}
use Rattle.core_state.specs.Routers.{Routers, found_at, router_at}
use Rattle.core_state.specs.Doing.{Done, HasRoom}
use Rattle.core_state.specs.steps.Posted.{Adds, EmitsUnless}
use Rattle.core_state.specs.Emitting.{HasPeer, IsNamed, controls_at}
use Rattle.core_state.specs.Turns.{TurnsAt}
use Rattle.core_state.specs.Unsent.{is_received}
use Rattle.core_state.specs.declared.state.State.{State}
use Rattle.core_ends.proofs.Adding.{IsAdding, adds_agree, adds_nothing}
use Rattle.core_state.proofs.Facts.{closed_is}
use Rattle.core_state.proofs.Held.{event_of, finish_with, unstirred}
use Rattle.core_state.proofs.Quiet.{counts_still}
use Rattle.core_ends.proofs.Retiring.{closed_told, spent_now}
use Rattle.core_ends.proofs.Shutting.{none_gone, shut_adds, shut_named, shut_peer, shut_row}
use Rattle.core_state.proofs.Steady.{AllAgree, found_is}

module _ (s : State) (seq : SeqId) (able : HasRoom s seq) (p : PendingId) (held : is_out s.rights.pendings p ≡ true)
    (received : is_received (found_at s.endpoints p.end p.id) ≡ true) where
  is_known : has_pending (pendings_out (past_of s)) p ≡ true
  is_known = sym (able.holds.pendings p) ∙ held

  -- its endpoint is there, and it was not made here
  at_home : (r : Endpoint) × (endpoint_at (wire_in s) (past_of s) p.end p.id ≡ Some r) × (is_pending_state r.state ≡ not (is_local (past_of s) p))
  at_home =
      let few = able.holds.few in
      pending_there (wire_in s) s.seqs (past_of s) able.holds.legal (omega (arith, few, length-reverse s.log.events)) p is_known

  here : IsSome (found_at s.endpoints p.end p.id)
  here = ap (λ (o : Option Endpoint). is_some o) (found_is able.holds.agrees p.end p.id ∙ at_home.1)

  foreign : is_local (past_of s) p ≡ false
  foreign = settled (is_local (past_of s) p) at_home.0.state state at_home.2
    where
      state : (elim at_home.0.state [ states.Pending ↦ true | states.Bound t ↦ false | states.Closed ↦ false ]) ≡ true
      state = sym (ap is_received (found_is able.holds.agrees p.end p.id ∙ at_home.1)) ∙ received

      settled : (b : Bool) (at : EndpointState) → (elim at [ states.Pending ↦ true | states.Bound t ↦ false | states.Closed ↦ false ]) ≡ true
          → is_pending_state at ≡ not b → b ≡ false
      settled false at h e = refl
      settled true states.Pending h e = absurd (let f : true ≡ false = e in cc)
      settled true (states.Bound t) h e = absurd (let f : false ≡ true = h in cc)
      settled true states.Closed h e = absurd (let f : false ≡ true = h in cc)

  other : (p.id == 0) ≡ false
  other =
      let few = able.holds.few in
      ne_eqb p.id 0 (λ e.
      let t : (0 == p.id) ≡ true = eq-eqb 0 p.id (sym e) in
      let f : (0 == p.id) ≡ false =
      pending_plain (wire_in s) s.seqs (past_of s) able.holds.legal (omega (arith, few, length-reverse s.log.events)) p is_known in
      let clash : true ≡ false = sym t ∙ f in
      cc)

  pub tell_named : IsNamed p.id
  tell_named = shut_named s seq able p.end p.id here other

  pub tell_peer_there : HasPeer s.pipes p.end
  tell_peer_there = shut_peer s seq able p.end p.id here

  pub close_row : IsSome (row_at (router_at s.endpoints p.end) p.id)
  close_row = shut_row s seq able p.end p.id here

  abbrev unbound_event : Event
  unbound_event = record { seq = seq; asked = asks.Close (closings.Pending p); told = tells.Closed [] }

  -- ## The control that is emitted, unless the end is gone

  abbrev due : EndId → List Message
  due x = emits (wire_in s) (past_of s) p.end (endpoint_at (wire_in s) (past_of s) p.end) says.Closed (p.id ∷ []) x

  abbrev added : EndId → List Message
  added x = if is_gone (past_of s) p.end then [] else due x

  adds_now : (pipes : Contents) → EmitsUnless (is_closed (end_of s.pipes.ends p.end)) (peer_of (end_of s.pipes.ends p.end))
      (controls_at s.endpoints p.end (p.id ∷ [])) s.pipes pipes → Adds added s.pipes pipes
  adds_now pipes e =
      go (is_gone (past_of s) p.end)
      (subst (λ (b : Bool). EmitsUnless b (peer_of (end_of s.pipes.ends p.end)) (controls_at s.endpoints p.end (p.id ∷ [])) s.pipes pipes)
      (closed_is (wire_in s) (past_of s) (kept (wire_in s) s.seqs (past_of s) able.holds.legal) s.pipes s.endpoints able.holds.agrees p.end) e)
    where
      go : (g : Bool) → EmitsUnless g (peer_of (end_of s.pipes.ends p.end)) (controls_at s.endpoints p.end (p.id ∷ [])) s.pipes pipes
          → Adds (λ x. if g then [] else due x) s.pipes pipes
      go true f = subst (λ (c : Contents). Adds (λ x. []) s.pipes c) (sym f) (adds_nothing s.pipes)
      go false f = shut_adds s seq able p.end p.id here pipes f

  adding : IsAdding (wire_in s) unbound_event (past_of s) added
  adding = record {
    made = refl;
    gone = refl;
    given = refl;
    handed = refl;
    takes = λ x. refl;
    puts = λ x. ap (λ (b : Bool). if is_gone (past_of s) p.end || b then [] else due x) foreign ∙ go (is_gone (past_of s) p.end) (due x);
    none = λ x g. none (is_gone (past_of s) p.end) (due x)
        (none_gone (wire_in s) (past_of s) p.end (endpoint_at (wire_in s) (past_of s) p.end) (p.id ∷ []) x g);
    peer = λ x. refl;
  }
    where
      go : (b : Bool) (ms : List Message) → (if b || false then [] else ms) ≡ (if b then [] else ms)
      go true ms = refl
      go false ms = refl

      none : (b : Bool) (ms : List Message) → ms ≡ [] → (if b then [] else ms) ≡ []
      none true ms h = refl
      none false ms h = h

  -- ## It is closed

  closed_now : (new : Routers) → TurnsAt (in_state states.Closed) p.end p.id s.endpoints new → AllAgree (wire_in s) (unbound_event ∷ past_of s) new
  closed_now new u = λ x.
      record {
        rows = λ n.
            (u x).rows n
            ∙ (ap (λ (o : Option RowSeen). if same_end p.end x && (p.id == n) then option_map (in_state states.Closed) o else o)
            ((able.holds.agrees.routers x).rows n)
            ∙ sym (unbound_row (wire_in s) (past_of s) seq p [] foreign x n));
        drawn = (u x).drawn ∙ ((able.holds.agrees.routers x).drawn ∙ sym (ap (λ (ids : List ℕ). length ids) (append-nil (associated (past_of s) x))));
      }

  agrees_now : (pipes : Contents) (after : Routers) → EmitsUnless (is_closed (end_of s.pipes.ends p.end)) (peer_of (end_of s.pipes.ends p.end))
      (controls_at s.endpoints p.end (p.id ∷ [])) s.pipes pipes
      → TurnsAt (in_state states.Closed) p.end p.id s.endpoints after → Agrees (wire_in s) (unbound_event ∷ past_of s) pipes after
  agrees_now pipes after e u =
      adds_agree (wire_in s) unbound_event (past_of s) added (kept (wire_in s) s.seqs (past_of s) able.holds.legal) adding s.pipes pipes s.endpoints after
      (adds_now pipes e) (closed_now after u) able.holds.agrees

  pub received_done : (new : State) (pending : Half) (noted told : List Thing) → p ≡ pending.name → noted ≡ [] → told ≡ []
      → schema_of new ≡ schema_of s → new.seqs ≡ s.seqs → new.rights.responders ≡ s.rights.responders → new.tables ≡ s.tables
      → EmitsUnless (is_closed (end_of s.pipes.ends p.end)) (peer_of (end_of s.pipes.ends p.end)) (controls_at s.endpoints p.end (p.id ∷ []))
      s.pipes new.pipes
      → TurnsAt (in_state states.Closed) p.end p.id s.endpoints new.endpoints
      → ((q : PendingId) → is_out new.rights.pendings q ≡ (is_out s.rights.pendings q && not (same_pending p q)))
      → new.log.events ≡ s.log.events ++ record { seq = seq; asked = asks.Close (closings.Pending p); told = tells.Closed noted } ∷ []
      → Done s new seq (commands.Close (close.Pending pending)) (replies.Closed told)
  received_done new pending noted told name n t schema seqs same unnoticed e u less events =
      finish_with s new seq (commands.Close (close.Pending pending)) (replies.Closed told) able schema seqs
      (events ∙ rw (n, t, name) refl)
      (rw (t, ← name) (sym (closed_told s seq able p held)))
      (rw (t, ← name) (agrees_now new.pipes new.endpoints e u))
      (subst (λ (counts : List (ResponderName × ℕ)).
      CountsResponders (wire_in s) (event_of seq (commands.Close (close.Pending pending)) (replies.Closed told) ∷ past_of s) counts) (sym same)
      (counts_still (wire_in s) (event_of seq (commands.Close (close.Pending pending)) (replies.Closed told)) (past_of s) s.rights.responders refl refl
      able.holds.responders))
      tt
      refl
      (rw (← name) (spent_now s seq able p new.rights.pendings less))
      refl
      (unstirred s new seq (commands.Close (close.Pending pending)) (replies.Closed told) able unnoticed refl)
