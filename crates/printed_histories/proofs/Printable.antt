-- A history can be printed, given that its messages can and its numbers have their widths.
use Rattle.std.proofs.Common.{◌<◌, ◌≤◌, ℕ, ◌+◌, ◌^◌, List, [], ◌∷◌, length, refl, arith}
use Rattle.std.specs.Prelude.{map, reverse}
use Rattle.std.specs.List.{AllByRecursion}
use Rattle.std.proofs.lemmas.List.{length-reverse}
use Rattle.mj_base.specs.declared.limits.TheConstants.{MAX_EVENTS}
use Rattle.mj_schema.specs.declared.schema.Schema.{Schema}
use Rattle.wire_model.specs.declared.target.MessageSide.TheVariants.{Request, Response}
use Rattle.bind_model.specs.declared.asked.Asked.{Asked}
use Rattle.bind_model.specs.declared.asked.Asked.TheVariants as asks
use Rattle.bind_model.specs.declared.asked.Closing.{Closing}
use Rattle.bind_model.specs.declared.asked.Closing.TheVariants as closings
use Rattle.bind_model.specs.declared.endpoint.ResponderId.{ResponderId}
use Rattle.bind_model.specs.declared.event.Event.{Event}
use Rattle.bind_model.specs.declared.told.Told.{Told}
use Rattle.bind_model.specs.Replies.{Legal, legal}
use Rattle.bind_model.specs.WireOf.{wire_of}
use Rattle.bind_model.specs.Left.{left}
use Rattle.callback_laws.specs.Callbacks.{callbacks}
use Rattle.history_reader.specs.Printable.{IsResponder, AreAll, IsInterface, IsMessage, IsClosing, IsAsked, IsEvent, AreEvents, IsPrintable}
use Rattle.history_reader.specs.Said.{said_responder, said_closing, said_asked, said_event, said}
use Rattle.printed_histories.proofs.SmallLists.{all_reversed, all_back, all_of}
use Rattle.printed_histories.proofs.SmallMail.{all_made, small_past}
use Rattle.printed_histories.proofs.SmallNotes.{notes_small, left_small}
use Rattle.printed_histories.proofs.SmallReplies.{IsSmallPast}
use Rattle.printed_histories.proofs.SmallFaults.{HasLowSlots}
use Rattle.printed_histories.proofs.SmallRows.{low_slots}
use Rattle.printed_histories.specs.Asked.{IsSmallAsked, IsSmallClosing, IsSmallResponder, BecomeBytes}
use Rattle.printed_histories.proofs.SmallSaid.{IsSmallEvent}
use Rattle.printed_histories.proofs.SmallThings.{IsGotMessage, all_handed, all_gone, told_said}
use Rattle.printed_histories.proofs.SmallWireOf.{small_wire, HasSmallVersions}

-- the messages and interfaces that an asked command names are ones that a text can say
abbrev pub SaysAsked : Schema → Asked → Type 0
SaysAsked schema (asks.Bind x side interface) = IsInterface schema interface
SaysAsked schema (asks.Associate x side interface) = IsInterface schema interface
SaysAsked schema (asks.Call x id o) = IsMessage schema Request o.target o.parameters
SaysAsked schema (asks.Answer r o) = IsMessage schema Response o.target o.parameters
SaysAsked schema asked = Unit {0}

-- and so are those of an event
abbrev pub Says : Schema → Asked → Told → Type 0
Says schema asked told = SaysAsked schema asked × IsGotMessage schema told

responder_said : (r : ResponderId) → IsSmallResponder r → IsResponder (said_responder r)
responder_said r i = (i.0, i.1, i.2, i.3, refl)

closing_said : (closing : Closing) → IsSmallClosing closing → IsClosing (said_closing closing)
closing_said (closings.Handle x) i = i
closing_said (closings.Pending p) i = i
closing_said (closings.Responder r) i = responder_said r i
closing_said (closings.Endpoint y id) i = i

module _ (schema : Schema) where
  asked_said : (asked : Asked) → IsSmallAsked (BecomeBytes schema) asked → SaysAsked schema asked → IsAsked schema (said_asked asked)
  asked_said asks.Pipe i m = tt
  asked_said (asks.Join t) i m = i
  asked_said (asks.Mint sort) i m = tt
  asked_said (asks.Bind x side interface) i m = (i, m)
  asked_said (asks.Associate y side interface) i m = (i, m)
  asked_said (asks.Attach p t) i m = i
  asked_said (asks.Call y id o) i m = (i.0, i.1, (m, i.2.0, i.2.1, i.2.3))
  asked_said (asks.Answer r o) i m = (responder_said r i.0, (m, i.1.0, i.1.1, i.1.3))
  asked_said (asks.Raw x bytes handles) i m = i
  asked_said (asks.Take y) i m = i
  asked_said (asks.Close closing) i m = closing_said closing i
  asked_said (asks.Notify y notice) i m = i
  asked_said (asks.Pause b a flush) i m = i
  asked_said (asks.Data size) i m = i
  asked_said (asks.Flow x flow) i m = i
  asked_said (asks.Skip line) i m = i

  -- an event that the text can say
  abbrev IsSaid : Event → Type 0
  IsSaid event = IsEvent schema (said_event event)

  -- the messages and interfaces of an event are ones that a text can say
  abbrev SaysEvent : Event → Type 0
  SaysEvent event = Says schema event.asked event.told

  all_said : (seqs : ℕ) (past : List Event) → legal (wire_of schema) seqs past → AreAll (IsSmallEvent (BecomeBytes schema)) past → AreAll SaysEvent past
      → AreAll IsSaid past
  all_said seqs [] h a m = tt
  all_said seqs (event ∷ past) h a m =
      let things = (all_made (BecomeBytes schema) (wire_of schema) (event ∷ past) a).0 in (
        (
          a.0.0,
          asked_said event.asked a.0.1 m.0.0,
          told_said schema event.told a.0.2 m.0.1 (all_handed (wire_of schema) seqs event past h things)
              (all_gone (wire_of schema) seqs event past h things),
        ),
        all_said seqs past h.2 a.1 m.1,
      )

  events_said : (k : ℕ) (events : List Event) → k + length events < 2 ^ 32 → AreAll IsSaid events → AreEvents schema k (map said_event events)
  events_said k [] few a = tt
  events_said k (event ∷ events) few a = (omega (arith, few), a.0, events_said (k + 1) events (omega (arith, few)) a.1)

-- a history can be printed where its numbers are of their widths and its messages can
pub printable : (schema : Schema) → HasSmallVersions schema → (seqs : ℕ) → seqs < 2 ^ 32 → (history : List Event)
    → Legal (wire_of schema) seqs history → length history ≤ MAX_EVENTS → AreAll (IsSmallEvent (BecomeBytes schema)) (reverse history)
    → AllByRecursion (λ (event : Event). Says schema event.asked event.told) history
    → IsPrintable schema (said history (callbacks seqs history) (left seqs (reverse history)))
printable schema versions seqs some history h few small m =
    let short : length history ≤ 16777216 = few in
    let back : length (reverse history) < 2 ^ 30 = omega (arith, short, length-reverse history) in
    let low : HasLowSlots schema × HasSmallVersions schema = (low_slots schema, versions) in
    let past : IsSmallPast (wire_of schema) (reverse history) =
    small_past (BecomeBytes schema) (wire_of schema) (small_wire schema low) seqs (reverse history) h back small in
    let says = all_reversed (SaysEvent schema) history (all_of (SaysEvent schema) history m) in
    let said_all = all_back (IsSaid schema) history (all_said schema seqs (reverse history) h small says) in (
      events_said schema 0 history (omega (arith, short)) said_all,
      notes_small (BecomeBytes schema) seqs history (all_back (IsSmallEvent (BecomeBytes schema)) history small),
      left_small (reverse history) (λ seq. let n = past.serials seq in omega (arith, n)) (λ seq. let n = past.tokens seq in omega (arith, n)) seqs some,
      omega (arith, short),
    )
