-- A set that covers what is ready covers it after each step, once the end that is named and its peer are added, and the ends with waits that
-- the event ended.
use Rattle.std.proofs.Common.{◌≡◌, ℕ, Bool, true, false, List, [], ◌∷◌, inl, inr, refl, ap, ◌∙◌, subst, sym}
use Rattle.std.specs.Prelude.{◌||◌, Option, Some, None, is_some, reverse, if◌then◌else◌}
use Rattle.std.proofs.lemmas.List.{reverse-append}
use Rattle.mj_base.specs.declared.ids.EndId.{EndId}
use Rattle.mj_base.specs.declared.ids.SeqId.{SeqId}
use Rattle.mj_schema.specs.declared.schema.Schema.{Schema}
use Rattle.handle_table.specs.Things.{same_end}
use Rattle.handle_table.specs.declared.thing.Thing.TheVariants.{End, Token}
use Rattle.handle_table.proofs.ThingsLemmas.{or_cases, or_left, or_right, same_end-true}
use Rattle.bind_model.specs.Notices.{first_unmet, waits, waits_by}
use Rattle.bind_model.specs.Ready.{is_ready, is_takeable, ready}
use Rattle.bind_model.specs.WireOf.{wire_of}
use Rattle.bind_model.specs.declared.asked.Asked.{Asked}
use Rattle.bind_model.specs.declared.asked.Asked.TheVariants.{Bind, Close, Pause, Raw}
use Rattle.bind_model.specs.declared.asked.Closing.TheVariants as closings
use Rattle.bind_model.specs.declared.event.Event.{Event}
use Rattle.bind_model.specs.declared.told.Told.{Told}
use Rattle.bind_model.specs.declared.told.Told.TheVariants.{Pausing}
use Rattle.bind_model.proofs.CoreFacts.{ready_takeable, takeable_ready}
use Rattle.bind_model.proofs.Fresh.{kept}
use Rattle.bind_core.specs.Causes.{HasCauses, Lists, newest, woken}
use Rattle.bind_core.specs.Covers.{AllListed, AreListed}
use Rattle.bind_core.specs.EndSets.{has_end}
use Rattle.bind_core.specs.steps.FirstTaken.{Ascends, first_taken}
use Rattle.bind_core.specs.Takers.{ready_taker}
use Rattle.bind_core.specs.steps.Watching.{HasNear, IsWithin, KeepsTaken, is_near}
use Rattle.bind_core.proofs.FirstReady.{least_ready, ready_taken}
use Rattle.bind_core.proofs.Leastness.{first_least}
use Rattle.bind_core.proofs.NearAsked as asked_near
use Rattle.bind_core.proofs.NearAsked.{near_asked}
use Rattle.bind_core.proofs.Untouched.{about, takeable_far}
use Rattle.bind_core.proofs.Waking.{both_listed, listed_later, woken_by}
use Rattle.bind_core.proofs.WhoTakes.{ready_free, ready_taker_is}
use Rattle.core_state.specs.Agreement.{Holds, past_of, wire_in}
use Rattle.core_state.specs.Doing.{told_to}
use Rattle.core_state.specs.declared.state.State.{State}
use Rattle.event_tables.specs.AsCore.{StepsOn}
use Rattle.plain_names.specs.Commands.{asked_in}
use Rattle.plain_names.specs.declared.commands.PlainCommand.{PlainCommand}
use Rattle.plain_names.specs.declared.commands.PlainCommand.TheVariants as commands
use Rattle.event_steps.specs.Standing.{Covers}
use Rattle.event_steps.specs.steps.Near.{NotesWait, end_asked, end_named}

-- what is near the end that a command makes ready is near the one that it names
near_named : (past : List Event) (asked : Asked) (x : EndId) → is_near past (asked_near.end_asked asked) x ≡ true → is_near past (end_asked asked) x ≡ true
near_named past (Bind (End y) side interface) x h = h
near_named past (Bind (Token t) side interface) x h = h
near_named past (Raw (End y) bytes things) x h = h
near_named past (Raw (Token t) bytes things) x h = h
near_named past (Close (closings.Handle y)) x h = h
near_named past (Close (closings.Pending p)) x h = h
near_named past (Close (closings.Responder r)) x h = h
near_named past (Close (closings.Endpoint y id)) x h = h
near_named past (Pause b a k) x h = absurd cc
near_named past asked x h = h

-- what a command names is what it asks about
pub named_is : (command : PlainCommand) → end_named command ≡ end_asked (asked_in command)
named_is (commands.Bind (End x) side interface) = refl
named_is (commands.Bind (Token t) side interface) = refl
named_is (commands.Raw (End x) bytes things) = refl
named_is (commands.Raw (Token t) bytes things) = refl
named_is (commands.Close (closings.Handle x)) = refl
named_is (commands.Close (closings.Pending p)) = refl
named_is (commands.Close (closings.Responder r)) = refl
named_is (commands.Close (closings.Endpoint x id)) = refl
named_is command = refl

-- where a take is ready somebody takes
ready_there : (s : State) → Holds s → (x : EndId) → is_ready (wire_in s) (past_of s) x ≡ true → is_some (ready_taker s x) ≡ true
ready_there s h x r = ready_taken (wire_in s) (past_of s) (kept (wire_in s) s.seqs (past_of s) h.legal) (ready_taker s) (ready_taker_is s h) x r

-- no other command gives a wait
pub no_wait : (lists : Lists) (command : PlainCommand) → ((end other : EndId) (flush : ℕ) → command ≡ commands.Pause end other flush → ⊥)
    → NotesWait lists (asked_in command)
no_wait lists (commands.Pause b a k) never = absurd (never b a k refl)
no_wait lists command never = tt

-- the wait that is asked for is known
given : (lists : Lists) (past : List Event) (x : EndId) (told : Told) (asked : Asked) → NotesWait lists asked
    → AreListed lists past x (waits_by told asked x)
given lists past x Pausing (Pause b a k) noted = go (same_end b x) refl
  where
    go : (same : Bool) → same_end b x ≡ same → AreListed lists past x (if same then record { end = a; flush = k } ∷ [] else [])
    go true e = (λ h. subst (λ (y : EndId). HasCauses lists y (record { end = a; flush = k })) (same_end-true b x e) noted, tt)
    go false e = tt
given lists past x told asked noted = tt

module _ (old new : State) (seq : SeqId) (asked : Asked) (steps : StepsOn old new seq asked) where
  -- the event of the step
  abbrev event : Event
  event = record { seq = seq; asked = asked; told = told_to old seq asked }

  now : past_of new ≡ event ∷ past_of old
  now = ap reverse steps.events ∙ reverse-append old.log.events (event ∷ [])

  -- all waits are known after it
  pub listed_then : (lists : Lists) → AllListed lists (past_of old) → NotesWait lists asked → AllListed lists (past_of new)
  listed_then lists listed noted =
      subst (λ (past : List Event). AllListed lists past) (sym now)
      (λ x. both_listed lists (event ∷ past_of old) x (waits (past_of old) x) (waits_by event.told asked x)
      (listed_later lists event (past_of old) x (waits (past_of old) x) (listed x)) (given lists (event ∷ past_of old) x event.told asked noted))

  module _ (before mid : List EndId) (lists : Lists) (covers : Covers old before) (more : IsWithin before mid)
      (near : HasNear old (end_asked asked) mid) (listed : AllListed lists (past_of old)) where
    -- far from what was asked about an end that is ready was so before, or waited and waits no more
    far_ready : (x : EndId) → is_near (past_of old) (about asked event.told) x ≡ false → is_ready (wire_in old) (event ∷ past_of old) x ≡ true
        → (has_end mid x || has_end (woken lists (Some event)) x) ≡ true
    far_ready x far r = go (first_unmet (past_of old) (waits (past_of old) x)) refl
      where
        taken : is_takeable (wire_in old) (past_of old) x ≡ true
        taken = takeable_far (wire_in old) (past_of old) x event far (ready_takeable (wire_in old) (event ∷ past_of old) x r)

        go : (o : Option EndId) → first_unmet (past_of old) (waits (past_of old) x) ≡ o → (has_end mid x || has_end (woken lists (Some event)) x) ≡ true
        go None e =
            or_left (has_end mid x) (has_end (woken lists (Some event)) x)
            (more x (covers x (takeable_ready (wire_in old) (past_of old) x e taken)))
        go (Some z) e = or_right (has_end mid x) (has_end (woken lists (Some event)) x)
            (woken_by lists event (past_of old) x (waits (past_of old) x) (waits_by event.told event.asked x) z (listed x) e
            (ready_free (wire_in old) (event ∷ past_of old) x r))

    covered : (x : EndId) → is_ready (wire_in new) (past_of new) x ≡ true
        → (has_end mid x || has_end (woken lists (newest (past_of new))) x) ≡ true
    covered x r =
        subst (λ (past : List Event). (has_end mid x || has_end (woken lists (newest past)) x) ≡ true) (sym now)
        (go (is_near (past_of old) (about asked event.told) x) refl)
      where
        is : is_ready (wire_in old) (event ∷ past_of old) x ≡ true
        is =
            subst (λ (es : List Event). is_ready (wire_in old) es x ≡ true) now
            (subst (λ (w : Schema). is_ready (wire_of w) (past_of new) x ≡ true) steps.schema r)

        go : (b : Bool) → is_near (past_of old) (about asked event.told) x ≡ b → (has_end mid x || has_end (woken lists (Some event)) x) ≡ true
        go true e =
            or_left (has_end mid x) (has_end (woken lists (Some event)) x)
            (near x (near_named (past_of old) asked x (near_asked (wire_in old) old.seqs (past_of old) seq x asked event.told refl e)))
        go false e = far_ready x e is

    pub covers_after : (woke after : List EndId) → IsWithin mid woke
        → ((x : EndId) → has_end (woken lists (newest (past_of new))) x ≡ true → is_some (ready_taker new x) ≡ true → has_end woke x ≡ true)
        → KeepsTaken new woke after → Covers new after
    covers_after woke after grows all keeps x r =
        let takes : is_some (ready_taker new x) ≡ true = ready_there new steps.holds x r in
        keeps x takes
        (elim (or_cases (has_end mid x) (has_end (woken lists (newest (past_of new))) x) (covered x r)) [
          | inl o ↦ grows x o
          | inr w ↦ all x w takes
        ])

-- the first end of a set that covers all is the least that is ready
pub first_ready : (s : State) → Holds s → (ends : List EndId) → Covers s ends → Ascends ends
    → first_taken (ready_taker s) ends ≡ ready (wire_in s) (past_of s)
first_ready s h ends covers a =
    least_ready (wire_in s) (past_of s) (kept (wire_in s) s.seqs (past_of s) h.legal) (ready_taker s) (ready_taker_is s h) (λ x. has_end ends x)
    (first_taken (ready_taker s) ends) (first_least (ready_taker s) ends a) covers
