-- What a legal history calls, answers and gets are messages that a text can say, where the words of methods mean them.
use Rattle.std.proofs.Common.{◌≡◌, ◌<◌, ◌^◌, ℕ, List, [], ◌∷◌, Some, subst}
use Rattle.std.specs.List.{AllByRecursion}
use Rattle.std.proofs.lemmas.List.Elements.{All-head, All-tail}
use Rattle.mj_schema.specs.Lookups.{method_in}
use Rattle.mj_schema.specs.declared.rows.MethodRow.{MethodRow}
use Rattle.mj_schema.specs.declared.schema.Schema.{Schema}
use Rattle.wire_model.specs.Expected.{struct_of}
use Rattle.wire_model.specs.Trees.{Tree}
use Rattle.wire_model.specs.declared.target.MessageSide.{MessageSide}
use Rattle.wire_model.specs.declared.target.MessageSide.TheVariants.{Request, Response}
use Rattle.wire_model.specs.declared.target.Target.{Target}
use Rattle.message_laws.specs.Filled as filled
use Rattle.bind_model.specs.Replies.{legal}
use Rattle.bind_model.specs.WireOf.{wire_of}
use Rattle.bind_model.specs.declared.asked.Asked.{Asked}
use Rattle.bind_model.specs.declared.asked.Asked.TheVariants as asks
use Rattle.bind_model.specs.declared.event.Event.{Event}
use Rattle.bind_model.specs.declared.told.Told.{Told}
use Rattle.bind_model.specs.declared.told.Told.TheVariants as tells
use Rattle.history_text.specs.Names.{method_text}
use Rattle.line_parts.specs.Names.{names_of, messages_of, meaning}
use Rattle.history_reader.specs.Printable.{IsMessage, AreBytes}
use Rattle.history_reader.proofs.RoundTrip.{message_fits}
use Rattle.printed_histories.proofs.ValueGot.{AllTellSaid, SendsBytes, TellsSaid, got_values}
use Rattle.printed_histories.specs.Asked.{AllAskSaid, AsksSaid, IsSending, IsSaid}
use Rattle.printed_histories.proofs.ValueAsked.{sent_bytes}
use Rattle.printed_histories.proofs.ValueSent.{HasStruct, has_struct}

-- the word of each method that is there means its messages
abbrev pub Means : Schema → Type 0
Means schema = (side : MessageSide) (n ordinal number : ℕ) (method : MethodRow) → method_in schema.interfaces n ordinal ≡ Some method
    → struct_of side method ≡ Some number
    → meaning (messages_of (names_of schema) side) (method_text schema n ordinal)
    ≡ Some (record { target = record { interface = n; method = ordinal; side = side }; parameters = number })

-- what an event calls or answers is a message that a text can say
abbrev pub AsksMessage : Schema → Asked → Type 0
AsksMessage schema (asks.Call y id o) = IsMessage schema Request o.target o.parameters
AsksMessage schema (asks.Answer r o) = IsMessage schema Response o.target o.parameters
AsksMessage schema asked = Unit {0}

-- so is what it got, and what it sent is bytes
abbrev pub TellsMessage : Schema → Told → Type 0
TellsMessage schema (tells.Taken g) = IsMessage schema g.target.side g.target g.parameters
TellsMessage schema (tells.Sent request bytes) = AreBytes bytes
TellsMessage schema told = Unit {0}

-- what holds of an event's message
pub record HasMessages (schema : Schema) (event : Event) : Type 0 where
  pub asked : AsksMessage schema event.asked
  pub told : TellsMessage schema event.told

bytes_said : (bytes : List ℕ) → filled.AreBytes bytes → AreBytes bytes
bytes_said [] small = tt
bytes_said (b ∷ bs) small = (All-head (λ (n : ℕ). n < 2 ^ 8) b bs small, bytes_said bs (All-tail (λ (n : ℕ). n < 2 ^ 8) b bs small))

module _ (schema : Schema) (means : Means schema) where
  message_said : (target : Target) (number : ℕ) (t : Tree) → HasStruct schema target number → IsSaid schema number t → IsMessage schema target.side target t
  message_said target number t has said =
      message_fits schema target.side target t number (means target.side target.interface target.method number has.method has.found has.struct)
      said.kind said.few

  sending_said : (side : MessageSide) (target : Target) (t : Tree) → IsSending schema side target t → IsMessage schema side target t
  sending_said side target t is =
      subst (λ (side : MessageSide). IsMessage schema side target t) is.sided
      (message_said target is.number t (has_struct schema target is.number is.parameters) is.said)

  asked_said : (asked : Asked) → AsksSaid schema asked → AsksMessage schema asked
  asked_said asks.Pipe is = tt
  asked_said (asks.Join t) is = tt
  asked_said (asks.Mint sort) is = tt
  asked_said (asks.Bind x side interface) is = tt
  asked_said (asks.Associate x side interface) is = tt
  asked_said (asks.Attach p t) is = tt
  asked_said (asks.Call y id o) is = sending_said Request o.target o.parameters is.0
  asked_said (asks.Answer r o) is = sending_said Response o.target o.parameters is.0
  asked_said (asks.Raw x bytes handles) is = tt
  asked_said (asks.Take x) is = tt
  asked_said (asks.Close closing) is = tt
  asked_said (asks.Notify y notice) is = tt
  asked_said (asks.Pause b a flush) is = tt
  asked_said (asks.Data size) is = tt
  asked_said (asks.Flow x flow) is = tt
  asked_said (asks.Skip line) is = tt

  told_said : (told : Told) (asked : Asked) → TellsSaid schema told → SendsBytes told asked → TellsMessage schema told
  told_said (tells.Made things) asked is small = tt
  told_said (tells.Bound x) asked is small = tt
  told_said (tells.Associated p) asked is small = tt
  told_said (tells.Attached id) asked is small = tt
  told_said (tells.Sent request bytes) asked is small = bytes_said bytes small
  told_said (tells.Wrote x) asked is small = tt
  told_said (tells.Taken g) asked is small = message_said g.target is.number g.parameters is.has is.said
  told_said (tells.Dropped id gone) asked is small = tt
  told_said (tells.Control noted) asked is small = tt
  told_said (tells.Bad why gone) asked is small = tt
  told_said (tells.Closed gone) asked is small = tt
  told_said (tells.Notified notified) asked is small = tt
  told_said tells.Pausing asked is small = tt
  told_said (tells.Flowed t flowed) asked is small = tt
  told_said tells.Skipped asked is small = tt
  told_said (tells.No why) asked is small = tt

  all_said : (past : List Event) → AllAskSaid schema past → AllTellSaid schema past
      → AllByRecursion (λ (event : Event). SendsBytes event.told event.asked) past → AllByRecursion (HasMessages schema) past
  all_said [] asked told small = tt
  all_said (event ∷ past) asked told small = (
    record { asked = asked_said event.asked asked.0; told = told_said event.told event.asked told.0 small.0 },
    all_said past asked.1 told.1 small.1,
  )

  -- each message of a legal history can be said, where what is asked is said so
  pub history_messages : filled.IsFilledSchema schema → (seqs : ℕ) (past : List Event) → legal (wire_of schema) seqs past → AllAskSaid schema past
      → AllByRecursion (HasMessages schema) past
  history_messages full seqs past h asked =
      let small = sent_bytes schema seqs past h asked in
      all_said past asked (got_values schema full seqs past h small) small
