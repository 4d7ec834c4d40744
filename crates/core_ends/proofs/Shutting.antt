-- That an endpoint other than 0 is closed, by what the parts of this did.
use Rattle.control_bytes.specs.declared.control.Control.TheVariants as says
use Rattle.std.proofs.Common.{◌≡◌, ◌<◌, ℕ, zero, suc, Bool, true, false, List, [], ◌∷◌, ◌++◌, Some, refl, sym, ap, ◌∙◌, subst, arith}
use Rattle.std.specs.Prelude.{if◌then◌else◌, ◌&&◌, not, ◌==◌, Option, filter, is_some, IsSome}
use Rattle.std.proofs.lemmas.List.{length-reverse}
use Rattle.mj_base.specs.declared.ids.EndId.{EndId}
use Rattle.mj_base.specs.declared.ids.SeqId.{SeqId}
use Rattle.handle_table.specs.Things.{has, same_end}
use Rattle.handle_table.specs.declared.thing.Thing.{Thing}
use Rattle.handle_table.specs.declared.thing.Thing.TheVariants.{End}
use Rattle.message_pipe.specs.Contents.{Contents}
use Rattle.message_pipe.specs.Ends.{end_of, peer_of}
use Rattle.message_pipe.specs.declared.message.Message.{Message}
use Rattle.bind_model.specs.declared.asked.Asked.TheVariants as asks
use Rattle.bind_model.specs.declared.asked.Closing.TheVariants as closings
use Rattle.bind_model.specs.declared.commands.Command.TheVariants as commands
use Rattle.bind_model.specs.declared.commands.Reply.TheVariants as replies
use Rattle.bind_model.specs.declared.commands.ToClose.TheVariants as close
use Rattle.bind_model.specs.declared.endpoint.Endpoint.{Endpoint}
use Rattle.bind_model.specs.declared.endpoint.State.TheVariants as states
use Rattle.bind_model.specs.declared.event.Event.{Event}
use Rattle.bind_model.specs.declared.told.Told.TheVariants as tells
use Rattle.bind_model.specs.Machine.{Endpoints, emits, endpoint_at, is_gone, is_peer_closed, made, peer}
use Rattle.bind_model.specs.Wire.{Wire}
use Rattle.bind_model.proofs.Controls.{controls_of}
use Rattle.bind_model.proofs.Fresh.{kept}
use Rattle.bind_model.proofs.Kept.{Kept, bound_made}
use Rattle.bind_model.proofs.Outcomes.{there}
use Rattle.endpoint_router.specs.Changes.{in_state}
use Rattle.endpoint_router.specs.Rows.{row_at}
use Rattle.core_state.specs.Agreement.{Agrees, past_of, schema_of, wire_in}
use Rattle.core_state.specs.Routers.{Routers, found_at, router_at}
use Rattle.core_state.specs.Doing.{Done, HasRoom, told_to}
use Rattle.core_state.specs.steps.Posted.{Adds}
use Rattle.core_state.specs.Emitting.{EmitsTo, HasPeer, IsNamed, controls_at}
use Rattle.core_state.specs.Turns.{TurnsAt}
use Rattle.core_state.specs.declared.state.State.{State}
use Rattle.core_ends.proofs.Adding.{IsAdding, adds_agree}
use Rattle.core_ends.proofs.Doing.{close_done}
use Rattle.core_state.proofs.Emitted.{adds_is, peer_there}
use Rattle.core_state.proofs.Named.{ids_below}
use Rattle.core_state.proofs.Steady.{close_turns, found_is}
use Rattle.core_state.proofs.Turned.{found_row}

-- nothing is emitted at an end that is gone
pub none_gone : (wire : Wire) (past : List Event) (y : EndId) (endpoints : Endpoints) (ids : List ℕ) (x : EndId) → is_gone past x ≡ true
    → emits wire past y endpoints says.Closed ids x ≡ []
none_gone wire past y endpoints ids x h =
    go (same_end (peer past y) x) (is_gone past x) (controls_of wire (filter (λ id. not (is_peer_closed (endpoints id))) ids)) h
  where
    go : (q g : Bool) (ms : List Message) → g ≡ true → (if q && not g then ms else []) ≡ []
    go true true ms e = refl
    go false true ms e = refl
    go q false ms e = absurd cc

-- ## What is known of an endpoint that is found

module _ (s : State) (seq : SeqId) (able : HasRoom s seq) (y : EndId) (id : ℕ) (here : IsSome (found_at s.endpoints y id)) where
  keeps : Kept (wire_in s) (past_of s)
  keeps = kept (wire_in s) s.seqs (past_of s) able.holds.legal

  found : (e : Endpoint) × (endpoint_at (wire_in s) (past_of s) y id ≡ Some e)
  found =
      there (endpoint_at (wire_in s) (past_of s) y id) (ap (λ (o : Option Endpoint). is_some o) (sym (found_is able.holds.agrees y id)) ∙ here)

  made_here : has (made (past_of s)) (End y) ≡ true
  made_here = bound_made (wire_in s) (past_of s) keeps (End y) (keeps.endpoints y id found.0 found.1)

  pub shut_row : IsSome (row_at (router_at s.endpoints y) id)
  shut_row = found_row (router_at s.endpoints y) id found.0 (found_is able.holds.agrees y id ∙ found.1)

  pub shut_peer : HasPeer s.pipes y
  shut_peer = peer_there (schema_of s) (past_of s) keeps s.pipes s.endpoints able.holds.agrees y made_here

  pub shut_named : (id == 0) ≡ false → IsNamed id
  shut_named other =
      let few = able.holds.few in
      record {
        some = above id other;
        other =
            ids_below (schema_of s) s.seqs (past_of s) able.holds.legal (omega (arith, few, length-reverse s.log.events)) y id
            (ap (λ (o : Option Endpoint). is_some o) found.1);
      }
    where
      above : (n : ℕ) → (n == 0) ≡ false → 0 < n
      above zero h = absurd cc
      above (suc n) h = omega arith

  pub shut_adds : (new : Contents) → EmitsTo (peer_of (end_of s.pipes.ends y)) (controls_at s.endpoints y (id ∷ [])) s.pipes new
      → Adds (emits (wire_in s) (past_of s) y (endpoint_at (wire_in s) (past_of s) y) says.Closed (id ∷ [])) s.pipes new
  shut_adds new e = adds_is (schema_of s) says.Closed (past_of s) keeps s.pipes s.endpoints able.holds.agrees y made_here (id ∷ []) new e

  -- ## It is closed

  abbrev shut_event : Event
  shut_event = record { seq = seq; asked = asks.Close (closings.Endpoint y id); told = tells.Closed [] }

  module _ (other : (id == 0) ≡ false) where
    adding : IsAdding (wire_in s) shut_event (past_of s) (emits (wire_in s) (past_of s) y (endpoint_at (wire_in s) (past_of s) y) says.Closed (id ∷ []))
    adding = record {
      made = refl;
      gone = refl;
      given = refl;
      handed = refl;
      takes = λ x. refl;
      puts = λ x. ap (λ (b : Bool). if b then [] else emits (wire_in s) (past_of s) y (endpoint_at (wire_in s) (past_of s) y) says.Closed (id ∷ []) x) other;
      none = λ x g. none_gone (wire_in s) (past_of s) y (endpoint_at (wire_in s) (past_of s) y) (id ∷ []) x g;
      peer = λ x. refl;
    }

    shut_agrees : (pipes : Contents) (after : Routers)
        → EmitsTo (peer_of (end_of s.pipes.ends y)) (controls_at s.endpoints y (id ∷ [])) s.pipes pipes
        → TurnsAt (in_state states.Closed) y id s.endpoints after → Agrees (wire_in s) (shut_event ∷ past_of s) pipes after
    shut_agrees pipes after e t =
        adds_agree (wire_in s) shut_event (past_of s)
        (emits (wire_in s) (past_of s) y (endpoint_at (wire_in s) (past_of s) y) says.Closed (id ∷ [])) keeps adding s.pipes pipes s.endpoints after
        (shut_adds pipes e) (close_turns (wire_in s) (past_of s) seq s.endpoints after able.holds.agrees.routers y id [] t) able.holds.agrees

    pub shut_done : (new : State) (noted told : List Thing) → noted ≡ [] → told ≡ []
        → schema_of new ≡ schema_of s → new.seqs ≡ s.seqs → new.rights ≡ s.rights → new.tables ≡ s.tables
        → told_to s seq (asks.Close (closings.Endpoint y id)) ≡ tells.Closed []
        → EmitsTo (peer_of (end_of s.pipes.ends y)) (controls_at s.endpoints y (id ∷ [])) s.pipes new.pipes
        → TurnsAt (in_state states.Closed) y id s.endpoints new.endpoints
        → new.log.events ≡ s.log.events ++ record { seq = seq; asked = asks.Close (closings.Endpoint y id); told = tells.Closed noted } ∷ []
        → Done s new seq (commands.Close (close.Endpoint y id)) (replies.Closed told)
    shut_done new noted told n t schema seqs unmoved unnoticed answered e turns events =
        close_done s new seq able schema seqs unmoved unnoticed noted told (t ∙ sym n) (close.Endpoint y id)
        (record { none = refl; handed = λ wire. refl; after = λ rs. refl; gives = refl; hands = refl; halves = λ wire past. refl }) events
        (ap tells.Closed n ∙ sym answered)
        (subst (λ (things : List Thing).
        Agrees (wire_in s) (record { seq = seq; asked = asks.Close (closings.Endpoint y id); told = tells.Closed things } ∷ past_of s) new.pipes new.endpoints)
        (sym n) (shut_agrees new.pipes new.endpoints e turns))
