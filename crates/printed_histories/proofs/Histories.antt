-- A legal history can be printed where what is asked can, over a schema that can be printed.
use Rattle.std.proofs.Common.{◌<◌, ◌≤◌, ℕ, ◌^◌, List, [], ◌∷◌, Ok, length, reverse, subst, arith}
use Rattle.std.specs.List.{AllByRecursion}
use Rattle.std.proofs.lemmas.List.{length-reverse, reverse-reverse}
use Rattle.mj_base.specs.declared.limits.TheConstants.{MAX_EVENTS}
use Rattle.mj_schema.specs.declared.schema.Schema.{Schema}
use Rattle.bind_model.specs.Left.{left}
use Rattle.bind_model.specs.Replies.{Legal}
use Rattle.bind_model.specs.WireOf.{wire_of}
use Rattle.bind_model.specs.declared.asked.Asked.{Asked}
use Rattle.bind_model.specs.declared.asked.Asked.TheVariants as asks
use Rattle.bind_model.specs.declared.event.Event.{Event}
use Rattle.bind_model.specs.declared.told.Told.{Told}
use Rattle.bind_model.specs.declared.told.Told.TheVariants as tells
use Rattle.line_parts.specs.Printable.{AreAll}
use Rattle.line_parts.specs.Schemas.{IsPrintableSchema}
use Rattle.callback_laws.specs.Callbacks.{callbacks}
use Rattle.history_reader.specs.Printable.{IsPrintable}
use Rattle.history_reader.specs.Texts.{Tells}
use Rattle.history_reader.specs.Whole as texts
use Rattle.message_laws.proofs.FilledSchemas.{filled}
use Rattle.printed_histories.specs.Asked.{AllAskPrintable, AllAskSaid, AsksSaid, BecomeBytes}
use Rattle.printed_histories.specs.Runs.{run_said, run_text}
use Rattle.printed_histories.proofs.NamedInterfaces.{named_interface_means}
use Rattle.printed_histories.proofs.Printable.{Says, SaysAsked, printable}
use Rattle.printed_histories.proofs.ReadBack.{just_said}
use Rattle.printed_histories.proofs.SmallEvents.{all_small}
use Rattle.printed_histories.proofs.SmallFaults.{HasLowSlots}
use Rattle.printed_histories.proofs.SmallRows.{low_slots}
use Rattle.printed_histories.proofs.SmallSaid.{IsSmallEvent}
use Rattle.printed_histories.proofs.SmallThings.{IsGotMessage}
use Rattle.printed_histories.proofs.SmallWireOf.{HasSmallVersions}
use Rattle.printed_histories.proofs.ValueLists.{turned}
use Rattle.printed_histories.proofs.ValueSaid.{AsksMessage, HasMessages, TellsMessage, history_messages}

module _ (schema : Schema) (words : IsPrintableSchema schema) where
  asked_says : (asked : Asked) → AsksSaid schema asked → AsksMessage schema asked → SaysAsked schema asked
  asked_says asks.Pipe is m = tt
  asked_says (asks.Join t) is m = tt
  asked_says (asks.Mint sort) is m = tt
  asked_says (asks.Bind x side interface) is m = named_interface_means schema words is.0 interface is.1
  asked_says (asks.Associate x side interface) is m = named_interface_means schema words is.0 interface is.1
  asked_says (asks.Attach p t) is m = tt
  asked_says (asks.Call y id o) is m = m
  asked_says (asks.Answer r o) is m = m
  asked_says (asks.Raw x bytes handles) is m = tt
  asked_says (asks.Take x) is m = tt
  asked_says (asks.Close closing) is m = tt
  asked_says (asks.Notify y notice) is m = tt
  asked_says (asks.Pause b a flush) is m = tt
  asked_says (asks.Data size) is m = tt
  asked_says (asks.Flow x flow) is m = tt
  asked_says (asks.Skip line) is m = tt

  told_says : (told : Told) → TellsMessage schema told → IsGotMessage schema told
  told_says (tells.Made things) m = tt
  told_says (tells.Bound x) m = tt
  told_says (tells.Associated p) m = tt
  told_says (tells.Attached id) m = tt
  told_says (tells.Sent request bytes) m = tt
  told_says (tells.Wrote x) m = tt
  told_says (tells.Taken g) m = m
  told_says (tells.Dropped id gone) m = tt
  told_says (tells.Control noted) m = tt
  told_says (tells.Bad why gone) m = tt
  told_says (tells.Closed gone) m = tt
  told_says (tells.Notified notified) m = tt
  told_says tells.Pausing m = tt
  told_says (tells.Flowed t flowed) m = tt
  told_says tells.Skipped m = tt
  told_says (tells.No why) m = tt

  -- what an event asks and is told can be said
  abbrev SaysEvent : Event → Type 0
  SaysEvent event = Says schema event.asked event.told

  all_say : (past : List Event) → AllAskSaid schema past → AllByRecursion (HasMessages schema) past → AllByRecursion SaysEvent past
  all_say [] asked messages = tt
  all_say (event ∷ past) asked messages = (
    (asked_says event.asked asked.0 messages.0.asked, told_says event.told messages.0.told),
    all_say past asked.1 messages.1,
  )

-- a history whose numbers are of their widths, what became of its callbacks and what it leaves
pub small_printable : (schema : Schema) → IsPrintableSchema schema → (seqs : ℕ) → seqs < 2 ^ 32 → (history : List Event)
    → Legal (wire_of schema) seqs history → length history ≤ MAX_EVENTS → AreAll (IsSmallEvent (BecomeBytes schema)) (reverse history)
    → AllAskSaid schema (reverse history) → IsPrintable schema (run_said seqs history)
small_printable schema words seqs some history lawful few small asked =
    let messages = history_messages schema words.messages (filled schema) seqs (reverse history) lawful asked in
    let back : AllByRecursion (SaysEvent schema words) (reverse (reverse history)) =
    turned (SaysEvent schema words) (reverse history) (all_say schema words (reverse history) asked messages) in
    printable schema words.versions seqs some history lawful few small
    (subst (AllByRecursion (SaysEvent schema words)) (reverse-reverse history) back)

-- a history whose commands can be said
pub printable_history : (schema : Schema) (seqs : ℕ) (history : List Event) → IsPrintableSchema schema → seqs < 2 ^ 32
    → Legal (wire_of schema) seqs history → length history ≤ MAX_EVENTS → AllAskPrintable schema (reverse history)
    → IsPrintable schema (run_said seqs history)
printable_history schema seqs history words some lawful few asked =
    let short : length history ≤ 16777216 = few in
    let back : length (reverse history) < 2 ^ 30 = omega (arith, short, length-reverse history) in
    let low : HasLowSlots schema × HasSmallVersions schema = (low_slots schema, words.versions) in
    small_printable schema words seqs some history lawful few (all_small schema low seqs some (reverse history) lawful back asked.0) asked.1

-- the text of a history that can be printed says it, and nothing else
pub text_said : (schema : Schema) (seqs : ℕ) (history : List Event) → IsPrintable schema (run_said seqs history)
    → Tells (texts.history schema) (run_text schema seqs history) (Ok (run_said seqs history))
text_said schema seqs history is = just_said schema history (callbacks seqs history) (left seqs (reverse history)) is
