-- All that a legal history tells has numbers of their widths, where all that it asks has.
use Rattle.std.proofs.Common.{◌<◌, ℕ, ◌^◌, List, [], ◌∷◌, length, sym, subst, arith}
use Rattle.mj_schema.specs.declared.schema.Schema.{Schema}
use Rattle.bind_model.specs.Replies.{legal}
use Rattle.bind_model.specs.Wire.{Wire}
use Rattle.bind_model.specs.WireOf.{wire_of}
use Rattle.bind_model.specs.declared.event.Event.{Event}
use Rattle.line_parts.specs.Printable.{IsSequence, AreAll}
use Rattle.printed_histories.specs.Asked.{BecomeBytes, IsSmallAsked}
use Rattle.printed_histories.proofs.SmallFaults.{HasLowSlots}
use Rattle.printed_histories.proofs.SmallMail.{small_past}
use Rattle.printed_histories.proofs.ShortReplies.{short_answer}
use Rattle.printed_histories.proofs.SmallReplies.{IsSmallPast, small_answer}
use Rattle.printed_histories.proofs.SmallSaid.{IsSmallEvent, IsSmallTold, IsShort}
use Rattle.printed_histories.proofs.SmallWireOf.{small_wire, HasSmallVersions}

module _ (schema : Schema) (low : HasLowSlots schema × HasSmallVersions schema) (seqs : ℕ) (some : seqs < 2 ^ 32) where
  -- the wire of the schema
  abbrev wire : Wire
  wire = wire_of schema

  -- events whose numbers are of their widths
  abbrev AreSmall : List Event → Type 0
  AreSmall past = AreAll (IsSmallEvent (BecomeBytes schema)) past

  -- one more, which asks for what has
  pub event_small : (event : Event) (past : List Event) → legal wire seqs (event ∷ past) → length past < 2 ^ 30 → AreSmall past
      → IsSmallAsked (BecomeBytes schema) event.asked → IsSmallEvent (BecomeBytes schema) event
  event_small event past h few a i =
      let there : event.seq.0 < seqs = h.0 in
      let small : IsSequence event.seq = omega (arith, some, there) in
      let known : IsSmallPast wire past = small_past (BecomeBytes schema) wire (small_wire schema low) seqs past h.2 few a in (
        small,
        i,
        subst IsSmallTold (sym h.1) (small_answer (BecomeBytes schema) wire (small_wire schema low) past known event.seq seqs event.asked small i),
        subst (IsShort event.asked) (sym h.1)
            (short_answer wire past event.seq seqs event.asked),
      )

  -- all of them
  pub all_small : (past : List Event) → legal wire seqs past → length past < 2 ^ 30
      → AreAll (λ (event : Event). IsSmallAsked (BecomeBytes schema) event.asked) past → AreSmall past
  all_small [] h few a = tt
  all_small (event ∷ past) h few a =
      let rest = all_small past h.2 (omega (arith, few)) a.1 in (event_small event past h (omega (arith, few)) rest a.0, rest)
