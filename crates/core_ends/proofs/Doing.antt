-- That a closing is done, by what its parts did.
use Rattle.std.proofs.Common.{◌≡◌, true, List, [], ◌∷◌, ◌++◌, refl, sym, ap, ◌∙◌, subst}
use Rattle.std.specs.Prelude.{None}
use Rattle.mj_base.specs.declared.ids.EndId.{EndId}
use Rattle.mj_base.specs.declared.ids.SeqId.{SeqId}
use Rattle.handle_table.specs.Places.{place_of}
use Rattle.handle_table.specs.Things.{has}
use Rattle.handle_table.specs.declared.places.Place.TheVariants as places
use Rattle.handle_table.specs.declared.thing.Thing.{Thing}
use Rattle.handle_table.specs.declared.thing.Thing.TheVariants.{End}
use Rattle.message_pipe.specs.Contents.{Contents, Closes, Puts}
use Rattle.message_pipe.specs.Ends.{spread, carried_in}
use Rattle.bind_model.specs.declared.asked.Asked.TheVariants as asks
use Rattle.bind_model.specs.declared.asked.Closing.TheVariants as closings
use Rattle.bind_model.specs.declared.endpoint.State.TheVariants as states
use Rattle.bind_model.specs.declared.told.Told.TheVariants as tells
use Rattle.bind_model.specs.declared.event.Event.{Event}
use Rattle.bind_model.specs.Machine.{out, goes_with}
use Rattle.endpoint_router.specs.Changes.{in_state}
use Rattle.core_state.specs.Routers.{Routers}
use Rattle.core_state.specs.Agreement.{Agrees, is_out, past_of, schema_of, wire_in}
use Rattle.core_state.specs.Doing.{HasRoom, Done, told_to}
use Rattle.core_state.specs.Turns.{TurnsAt}
use Rattle.bind_model.specs.declared.commands.Command.TheVariants as commands
use Rattle.bind_model.specs.declared.commands.ToClose.{ToClose}
use Rattle.bind_model.specs.declared.commands.ToClose.TheVariants as close
use Rattle.bind_model.specs.declared.commands.Reply.TheVariants as replies
use Rattle.core_state.specs.declared.state.State.{State}
use Rattle.bind_model.specs.Plain.{closing_of}
use Rattle.core_state.proofs.Held.{finish}
use Rattle.core_state.proofs.Quiet.{IsQuiet}
use Rattle.core_state.proofs.Closed.{handle_told, handle_closed, end_told, end_closed}

module _ (old new : State) (seq : SeqId) (able : HasRoom old seq) (schema : schema_of new ≡ schema_of old) (seqs : new.seqs ≡ old.seqs)
    (unmoved : new.rights ≡ old.rights) (unnoticed : new.tables ≡ old.tables) (goes told : List Thing) (t : told ≡ goes) where
  -- the event of a closing of this, with which these went
  abbrev event_with : ToClose → List Thing → Event
  event_with what things = record { seq = seq; asked = asks.Close (closing_of what); told = tells.Closed things }

  -- a closing is done where what went is what the history says, and the rest agrees with the event
  pub close_done : (what : ToClose) → IsQuiet (commands.Close what) (replies.Closed told) → new.log.events ≡ old.log.events ++ event_with what goes ∷ []
      → tells.Closed goes ≡ told_to old seq (asks.Close (closing_of what))
      → Agrees (wire_in old) (event_with what goes ∷ past_of old) new.pipes new.endpoints
      → Done old new seq (commands.Close what) (replies.Closed told)
  close_done what quiet events answered agrees =
      finish old new seq (commands.Close what) (replies.Closed told) able schema seqs unmoved unnoticed quiet refl
      (events ∙ ap (λ (things : List Thing). old.log.events ++ event_with what things ∷ []) (sym t))
      (ap (λ (things : List Thing). tells.Closed things) t ∙ answered)
      (subst (λ (things : List Thing). Agrees (wire_in old) (event_with what things ∷ past_of old) new.pipes new.endpoints) (sym t) agrees)
      tt

  pub handle_done : (x : Thing) (mid : Contents) → is_out (place_of old.pipes.table x) ≡ true
      → goes ≡ spread (carried_in old.pipes.ends None) old.pipes.made (x ∷ []) → new.endpoints ≡ old.endpoints
      → new.log.events ≡ old.log.events ++ record { seq = seq; asked = asks.Close (closings.Handle x); told = tells.Closed goes } ∷ []
      → Puts x places.Closed old.pipes mid → Closes goes mid new.pipes
      → Done old new seq (commands.Close (close.Handle x)) (replies.Closed told)
  handle_done x mid at e same events p c =
      let o : has (out (past_of old)) x ≡ true = sym (able.holds.agrees.outs x) ∙ at in
      close_done (close.Handle x)
      (record { none = refl; handed = λ wire. refl; after = λ rs. refl; gives = refl; hands = refl; halves = λ wire past. refl }) events
      (handle_told (wire_in old) old.seqs (past_of old) able.holds.legal seq able.within old.pipes old.endpoints able.holds.agrees x goes e o)
      (subst (λ (tables : Routers). Agrees (wire_in old) (event_with (close.Handle x) goes ∷ past_of old) new.pipes tables) (sym same)
      (handle_closed (wire_in old) old.seqs (past_of old) able.holds.legal seq able.within old.pipes old.endpoints able.holds.agrees x goes e o
      mid new.pipes p c))

  pub end_done : (y : EndId)
      → told_to old seq (asks.Close (closings.Endpoint y 0)) ≡ tells.Closed (goes_with (wire_in old) (past_of old) (End y ∷ []))
      → goes ≡ spread (carried_in old.pipes.ends None) old.pipes.made (End y ∷ [])
      → TurnsAt (in_state states.Closed) y 0 old.endpoints new.endpoints
      → new.log.events ≡ old.log.events ++ record { seq = seq; asked = asks.Close (closings.Endpoint y 0); told = tells.Closed goes } ∷ []
      → Closes goes old.pipes new.pipes
      → Done old new seq (commands.Close (close.Endpoint y 0)) (replies.Closed told)
  end_done y h e g events c =
      close_done (close.Endpoint y 0)
      (record { none = refl; handed = λ wire. refl; after = λ rs. refl; gives = refl; hands = refl; halves = λ wire past. refl }) events
      (end_told (wire_in old) old.seqs (past_of old) able.holds.legal seq able.within old.pipes old.endpoints able.holds.agrees y goes e h)
      (end_closed (wire_in old) old.seqs (past_of old) able.holds.legal seq able.within old.pipes old.endpoints able.holds.agrees y goes e h
      new.pipes new.endpoints g c)
