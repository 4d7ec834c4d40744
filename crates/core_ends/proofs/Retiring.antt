-- That a pending which was made here is closed, by what the parts of this did.
use Rattle.control_bytes.specs.declared.control.Control.TheVariants as says
use Rattle.std.proofs.Common.{◌≡◌, ℕ, Bool, true, false, List, [], ◌∷◌, ◌++◌, length, refl, sym, ap, ◌∙◌, subst, arith}
use Rattle.std.specs.Prelude.{if◌then◌else◌, ◌&&◌, ◌||◌, not, ◌==◌, Option, Some, IsSome}
use Rattle.std.specs.Option.{option_map}
use Rattle.std.proofs.lemmas.List.{append-nil, length-reverse}
use Rattle.mj_base.specs.declared.ids.SeqId.{SeqId}
use Rattle.handle_table.specs.Things.{same_end}
use Rattle.handle_table.specs.declared.thing.Thing.{Thing}
use Rattle.message_pipe.specs.Contents.{Contents}
use Rattle.message_pipe.specs.declared.message.Message.{Message}
use Rattle.bind_model.specs.Machine.{associated, emits, endpoint_at, is_gone, is_local}
use Rattle.bind_model.specs.Pendings.{Half, KnowsPendings, is_out}
use Rattle.bind_model.specs.Replies.{first_of, has_pending, pendings_out, same_pending, unless}
use Rattle.bind_model.specs.Responders.{CountsResponders}
use Rattle.bind_model.specs.declared.asked.Asked.TheVariants as asks
use Rattle.bind_model.specs.declared.asked.Closing.TheVariants as closings
use Rattle.bind_model.specs.declared.commands.Command.TheVariants as commands
use Rattle.bind_model.specs.declared.commands.Reply.TheVariants as replies
use Rattle.bind_model.specs.declared.commands.ToClose.TheVariants as close
use Rattle.bind_model.specs.declared.endpoint.Endpoint.{Endpoint}
use Rattle.bind_model.specs.declared.endpoint.PendingId.{PendingId}
use Rattle.bind_model.specs.declared.endpoint.State.{State as EndpointState}
use Rattle.bind_model.specs.declared.endpoint.State.TheVariants as states
use Rattle.bind_model.specs.declared.event.Event.{Event}
use Rattle.bind_model.specs.declared.names.EndpointName.{EndpointName}
use Rattle.bind_model.specs.declared.responder.ResponderName.{ResponderName}
use Rattle.bind_model.specs.declared.told.Told.TheVariants as tells
use Rattle.bind_model.specs.declared.told.Why.TheVariants.{NoName}
use Rattle.bind_model.proofs.Entering.{is_pending_state}
use Rattle.bind_model.proofs.PendingFacts.{pending_there}
use Rattle.bind_model.proofs.PendingLists.{more_is}
use Rattle.endpoint_router.specs.Changes.{marked}
use Rattle.endpoint_router.specs.Rows.{RowSeen, row_at}
use Rattle.endpoint_router.proofs.Turning.{unsent_row}
use Rattle.core_state.specs.Agreement.{Agrees, past_of, schema_of, wire_in}
use Rattle.core_state.specs.Routers.{Routers, found_at, router_at}
use Rattle.core_state.specs.Doing.{Done, HasRoom, told_to}
use Rattle.core_state.specs.Turns.{TurnsAt}
use Rattle.core_state.specs.Unsent.{is_received}
use Rattle.core_state.specs.declared.state.State.{State}
use Rattle.core_state.proofs.Held.{event_of, finish_with, unstirred}
use Rattle.core_state.proofs.Quiet.{counts_still}
use Rattle.core_state.proofs.Steady.{AllAgree, found_is}
use Rattle.core_state.proofs.Still.{still_with}
use Rattle.core_state.proofs.Turned.{found_row}

module _ (s : State) (seq : SeqId) (able : HasRoom s seq) (p : PendingId) where
  -- whether it is out decides
  closing_told : told_to s seq (asks.Close (closings.Pending p)) ≡ (if is_out s.rights.pendings p then tells.Closed [] else tells.No NoName)
  closing_told = rw (able.holds.pendings p) (go (has_pending (pendings_out (past_of s)) p))
    where
      go : (b : Bool) → first_of (unless b NoName ∷ []) (tells.Closed []) ≡ (if b then tells.Closed [] else tells.No NoName)
      go true = refl
      go false = refl

  pub pending_refused : is_out s.rights.pendings p ≡ false → told_to s seq (asks.Close (closings.Pending p)) ≡ tells.No NoName
  pending_refused h = closing_told ∙ rw h refl

  pub closed_told : is_out s.rights.pendings p ≡ true → told_to s seq (asks.Close (closings.Pending p)) ≡ tells.Closed []
  closed_told h = closing_told ∙ rw h refl

  abbrev closing_event : Event
  closing_event = record { seq = seq; asked = asks.Close (closings.Pending p); told = tells.Closed [] }

  -- it is out no longer
  pub spent_now : (after : List (EndpointName × Bool)) → ((q : PendingId) → is_out after q ≡ (is_out s.rights.pendings q && not (same_pending p q)))
      → KnowsPendings (closing_event ∷ past_of s) after
  spent_now after less q =
      less q
      ∙ (ap (λ (b : Bool). b && not (same_pending p q)) (able.holds.pendings q)
      ∙ (plain (has_pending (pendings_out (past_of s)) q) (same_pending p q)
      ∙ sym (more_is (p ∷ []) (pendings_out (past_of s)) [] q)))
    where
      plain : (a b : Bool) → (a && not b) ≡ ((a && not (b || false)) || false)
      plain true true = refl
      plain true false = refl
      plain false b = refl

  module _ (held : is_out s.rights.pendings p ≡ true) (made : is_received (found_at s.endpoints p.end p.id) ≡ false) where
    -- its endpoint is there, and it was made here
    there : (r : Endpoint) × (endpoint_at (wire_in s) (past_of s) p.end p.id ≡ Some r) × (is_pending_state r.state ≡ not (is_local (past_of s) p))
    there =
        let few = able.holds.few in
        pending_there (wire_in s) s.seqs (past_of s) able.holds.legal (omega (arith, few, length-reverse s.log.events)) p (sym (able.holds.pendings p) ∙ held)

    local : is_local (past_of s) p ≡ true
    local = settled (is_local (past_of s) p) there.0.state state there.2
      where
        state : (elim there.0.state [ states.Pending ↦ true | states.Bound t ↦ false | states.Closed ↦ false ]) ≡ false
        state = sym (ap is_received (found_is able.holds.agrees p.end p.id ∙ there.1)) ∙ made

        settled : (b : Bool) (at : EndpointState) → (elim at [ states.Pending ↦ true | states.Bound t ↦ false | states.Closed ↦ false ]) ≡ false
            → is_pending_state at ≡ not b → b ≡ true
        settled true at h e = refl
        settled false states.Pending h e = absurd (let f : true ≡ false = h in cc)
        settled false (states.Bound t) h e = absurd (let f : false ≡ true = e in cc)
        settled false states.Closed h e = absurd (let f : false ≡ true = e in cc)

    pub row_here : IsSome (row_at (router_at s.endpoints p.end) p.id)
    row_here = found_row (router_at s.endpoints p.end) p.id there.0 (found_is able.holds.agrees p.end p.id ∙ there.1)

    marked_now : (new : Routers) → TurnsAt marked p.end p.id s.endpoints new → AllAgree (wire_in s) (closing_event ∷ past_of s) new
    marked_now new u = λ x.
        record {
          rows = λ n.
              (u x).rows n
              ∙ (ap (λ (o : Option RowSeen). if same_end p.end x && (p.id == n) then option_map marked o else o) ((able.holds.agrees.routers x).rows n)
              ∙ sym (unsent_row (wire_in s) (past_of s) seq p [] local x n));
          drawn = (u x).drawn ∙ ((able.holds.agrees.routers x).drawn ∙ sym (ap (λ (ids : List ℕ). length ids) (append-nil (associated (past_of s) x))));
        }

    none_put : (g l : Bool) (ms : List Message) → l ≡ true → (if g || l then [] else ms) ≡ []
    none_put true l ms e = refl
    none_put false l ms e = rw e refl

    agrees_now : (new : Routers) → TurnsAt marked p.end p.id s.endpoints new → Agrees (wire_in s) (closing_event ∷ past_of s) s.pipes new
    agrees_now new u =
        still_with (wire_in s) closing_event (past_of s)
        (record {
          made = refl;
          gone = refl;
          given = refl;
          handed = refl;
          takes = λ x. refl;
          puts = λ x. none_put (is_gone (past_of s) p.end) (is_local (past_of s) p)
              (emits (wire_in s) (past_of s) p.end (endpoint_at (wire_in s) (past_of s) p.end) says.Closed (p.id ∷ []) x) local;
          peer = λ x. refl;
        })
        s.pipes s.endpoints new (marked_now new u) able.holds.agrees

    pub unsent_done : (new : State) (pending : Half) (noted told : List Thing) → p ≡ pending.name → noted ≡ [] → told ≡ []
        → schema_of new ≡ schema_of s → new.seqs ≡ s.seqs → new.pipes ≡ s.pipes → new.rights.responders ≡ s.rights.responders
        → new.tables ≡ s.tables → TurnsAt marked p.end p.id s.endpoints new.endpoints
        → ((q : PendingId) → is_out new.rights.pendings q ≡ (is_out s.rights.pendings q && not (same_pending p q)))
        → new.log.events ≡ s.log.events ++ record { seq = seq; asked = asks.Close (closings.Pending p); told = tells.Closed noted } ∷ []
        → Done s new seq (commands.Close (close.Pending pending)) (replies.Closed told)
    unsent_done new pending noted told name n t schema seqs pipes kept unnoticed u less events =
        finish_with s new seq (commands.Close (close.Pending pending)) (replies.Closed told) able schema seqs
        (events ∙ rw (n, t, name) refl)
        (rw (t, ← name) (sym (closed_told held)))
        (rw (t, ← name) (subst (λ (c : Contents). Agrees (wire_in s) (closing_event ∷ past_of s) c new.endpoints) (sym pipes) (agrees_now new.endpoints u)))
        (subst (λ (counts : List (ResponderName × ℕ)).
        CountsResponders (wire_in s) (event_of seq (commands.Close (close.Pending pending)) (replies.Closed told) ∷ past_of s) counts) (sym kept)
        (counts_still (wire_in s) (event_of seq (commands.Close (close.Pending pending)) (replies.Closed told)) (past_of s) s.rights.responders refl refl
        able.holds.responders))
        tt
        refl
        (rw (← name) (spent_now new.rights.pendings less))
        refl
        (unstirred s new seq (commands.Close (close.Pending pending)) (replies.Closed told) able unnoticed refl)
