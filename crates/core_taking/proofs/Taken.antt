-- That a take is done, by what its parts did.
use Rattle.std.proofs.Common.{◌≡◌, false, List, [], ◌∷◌, ◌++◌, refl, sym, subst}
use Rattle.std.specs.Prelude.{None}
use Rattle.mj_base.specs.declared.ids.EndId.{EndId}
use Rattle.mj_base.specs.declared.ids.SeqId.{SeqId}
use Rattle.handle_table.specs.declared.places.Place.TheVariants as places
use Rattle.handle_table.specs.declared.thing.Thing.{Thing}
use Rattle.handle_table.specs.declared.thing.Thing.TheVariants.{End}
use Rattle.message_pipe.specs.Contents.{Closes, Contents}
use Rattle.message_pipe.specs.Ends.{carried_in, spread}
use Rattle.bind_model.specs.declared.asked.Asked.TheVariants as asks
use Rattle.bind_model.specs.declared.told.BadWhy.{BadWhy}
use Rattle.bind_model.specs.declared.told.Told.{Told}
use Rattle.bind_model.specs.declared.told.Told.TheVariants as tells
use Rattle.bind_model.specs.declared.event.Event.{Event}
use Rattle.bind_model.specs.Replies.{bad}
use Rattle.core_state.specs.Routers.{Routers}
use Rattle.core_state.specs.Placing.{PutsAll}
use Rattle.bind_model.specs.Plain.{told_of, HandsBack}
use Rattle.core_state.specs.Agreement.{Agrees, past_of, schema_of, wire_in}
use Rattle.core_state.specs.Doing.{HasRoom, Done, told_to}
use Rattle.bind_model.specs.declared.commands.Command.TheVariants as commands
use Rattle.bind_model.specs.declared.commands.Reply.{Reply}
use Rattle.bind_model.specs.declared.commands.Reply.TheVariants as replies
use Rattle.core_state.specs.declared.state.State.{State}
use Rattle.core_state.proofs.Held.{event_of, finish}
use Rattle.core_state.proofs.Closed.{bad_told, bad_closed}
use Rattle.core_state.proofs.Quiet.{IsQuiet}
use Rattle.core_state.proofs.Tabled.{stirs_any}

-- where nothing comes out
pub none_put : (pipes : Contents) → PutsAll [] places.Out pipes pipes
none_put pipes = record { ends = λ x. refl; places = λ z. refl; ends_made = λ s. refl; tokens_made = λ s. refl; made = refl }

module _ (old new : State) (seq : SeqId) (able : HasRoom old seq) (schema : schema_of new ≡ schema_of old) (seqs : new.seqs ≡ old.seqs)
    (y : EndId) where
  abbrev noted : Told → List Event
  noted told = old.log.events ++ record { seq = seq; asked = asks.Take y; told = told } ∷ []

  ends_done : (reply : Reply) → new.rights ≡ old.rights → new.tables ≡ old.tables → IsQuiet (commands.Take y) reply
      → stirs_any (told_of reply) (asks.Take y) ≡ false
      → new.log.events ≡ noted (told_of reply) → told_of reply ≡ told_to old seq (asks.Take y)
      → Agrees (wire_in old) (event_of seq (commands.Take y) reply ∷ past_of old) new.pipes new.endpoints
      → HandsBack (commands.Take y) reply → Done old new seq (commands.Take y) reply
  ends_done reply unmoved unnoticed quiet still events told agrees back =
      finish old new seq (commands.Take y) reply able schema seqs unmoved unnoticed quiet still events told agrees back

  bad_noted : (why : BadWhy) (gone : List Thing)
      → told_to old seq (asks.Take y) ≡ bad (wire_in old) (past_of old) y why
      → gone ≡ spread (carried_in old.pipes.ends None) old.pipes.made (End y ∷ [])
      → new.rights ≡ old.rights → new.tables ≡ old.tables → new.endpoints ≡ old.endpoints
      → new.log.events ≡ noted (told_of (replies.Bad why gone))
      → Closes gone old.pipes new.pipes
      → Done old new seq (commands.Take y) (replies.Bad why gone)
  bad_noted why gone told e unmoved unnoticed same events c =
      ends_done (replies.Bad why gone) unmoved unnoticed
      (record { none = refl; handed = λ wire. refl; after = λ rs. refl; gives = refl; hands = refl; halves = λ wire past. refl })
      refl events
      (bad_told (wire_in old) old.seqs (past_of old) able.holds.legal seq able.within old.pipes old.endpoints able.holds.agrees y gone e why told)
      (subst (λ (all : Routers). Agrees (wire_in old) (event_of seq (commands.Take y) (replies.Bad why gone) ∷ past_of old) new.pipes all) (sym same)
      (bad_closed (wire_in old) old.seqs (past_of old) able.holds.legal seq able.within old.pipes old.endpoints able.holds.agrees y gone e why told
      new.pipes c))
      tt

  -- a bad message is noted, with a list like the one that the caller is told
  pub bad_done : (why : BadWhy) (gone copy : List Thing) → copy ≡ gone
      → told_to old seq (asks.Take y) ≡ bad (wire_in old) (past_of old) y why
      → gone ≡ spread (carried_in old.pipes.ends None) old.pipes.made (End y ∷ [])
      → new.rights ≡ old.rights → new.tables ≡ old.tables → new.endpoints ≡ old.endpoints
      → new.log.events ≡ noted (tells.Bad why gone)
      → Closes gone old.pipes new.pipes
      → Done old new seq (commands.Take y) (replies.Bad why copy)
  bad_done why gone copy s told e unmoved unnoticed same events c =
      subst (λ (g : List Thing). Done old new seq (commands.Take y) (replies.Bad why g)) (sym s) (bad_noted why gone told e unmoved unnoticed same events c)
