-- The handles of an unread message are few: each is of a thing of its own that was made.
use Rattle.std.proofs.Common.{◌≡◌, ◌≤◌, ◌<◌, Bool, true, false, List, [], ◌∷◌, length, drop, refl, sym, ap, ◌∙◌, arith, inl, inr, subst}
use Rattle.std.specs.Prelude.{if◌then◌else◌, Option, Some}
use Rattle.std.specs.List.{flat_map}
use Rattle.std.proofs.lemmas.List.{length-reverse}
use Rattle.std.proofs.Math.Seq.{drop-nil}
use Rattle.mj_base.specs.declared.ids.EndId.{EndId}
use Rattle.handle_table.specs.Things.{has, same, times}
use Rattle.handle_table.specs.declared.thing.Thing.{Thing}
use Rattle.handle_table.specs.declared.thing.Thing.TheVariants.{End}
use Rattle.handle_table.proofs.ThingsLemmas.{or_cases, same-true}
use Rattle.message_pipe.specs.Mail.{front_of, handles_of}
use Rattle.message_pipe.specs.declared.message.Message.{Message}
use Rattle.bind_model.specs.declared.event.Event.{Event}
use Rattle.bind_model.specs.Wire.{Wire}
use Rattle.bind_model.specs.Machine.{carried, consumed, is_gone, made, unread, unread_of}
use Rattle.bind_model.proofs.Counting.{pigeon, times-append}
use Rattle.bind_model.proofs.Fresh.{kept}
use Rattle.bind_model.proofs.Kept.{Kept}
use Rattle.core_state.specs.Agreement.{Holds, past_of, wire_in}
use Rattle.core_taking.specs.Founds.{front_at}
use Rattle.core_state.specs.declared.state.State.{State}
use Rattle.core_state.proofs.Facts.{made_few}

-- what one of these carries counts among what all do
among : (c : Thing → List Thing) (x z : Thing) (xs : List Thing) → has xs x ≡ true → times z (c x) ≤ times z (flat_map c xs)
among c x z [] h = absurd cc
among c x z (w ∷ ws) h = elim (or_cases (same w x) (has ws x) h) [
  | inl s ↦ rw (← same-true w x s) (omega (arith, times-append z (c w) (flat_map c ws)))
  | inr s ↦ omega (arith, times-append z (c w) (flat_map c ws), among c x z ws s)
]

-- what is unread begins with its front
front_first : (us : List Message) (m : Message) → front_of us ≡ Some m → (ms : List Message) × (us ≡ m ∷ ms)
front_first [] m e = absurd cc
front_first (u ∷ us) m e = let d : ◌≡◌ {A = Option Message} (Some u) (Some m) = e in (us, cc)

module _ (wire : Wire) (past : List Event) (k : Kept wire past) (y : EndId) (m : Message) (ms : List Message) (e : unread wire past y ≡ m ∷ ms) where
  -- an end where a message is unread was made
  made_there : has (made past) (End y) ≡ true
  made_there = go (has (made past) (End y)) refl
    where
      none : (b : Bool) → ◌≡◌ {A = List Message} (if b then [] else drop (consumed past y) []) []
      none true = refl
      none false = drop-nil {A = Message} (consumed past y)

      go : (b : Bool) → has (made past) (End y) ≡ b → b ≡ true
      go true h = refl
      go false h =
          absurd (let no : ◌≡◌ {A = List Message} (m ∷ ms) [] = sym e
          ∙ (ap (λ (mail : List Message). unread_of past y mail) (k.mail y h) ∙ none (is_gone past y)) in cc)

  handles_few : length m.handles ≤ length (made past)
  handles_few = pigeon m.handles (made past) (λ z.
      let front : times z m.handles ≤ times z (handles_of (unread wire past y)) =
      subst (λ (us : List Message). times z m.handles ≤ times z (handles_of us)) (sym e) (omega (arith, times-append z m.handles (handles_of ms))) in
      let all : times z (handles_of (unread wire past y)) ≤ times z (flat_map (carried wire past) (made past)) =
      among (carried wire past) (End y) z (made past) made_there in
      omega (arith, front, all, k.one z))

-- their number is one of 32 bits
pub handles_fit : (s : State) → Holds s → (y : EndId) (m : Message) → front_at (wire_in s) (past_of s) y ≡ Some m → length m.handles < 4294967296
handles_fit s holds y m e =
    let front = front_first (unread (wire_in s) (past_of s) y) m e in
    let few = handles_few (wire_in s) (past_of s) (kept (wire_in s) s.seqs (past_of s) holds.legal) y m front.0 front.1 in
    let made = made_few (wire_in s) s.seqs (past_of s) holds.legal in
    let events = holds.few in
    omega (arith, few, made, length-reverse s.log.events, events)
