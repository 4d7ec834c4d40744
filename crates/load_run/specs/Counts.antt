-- The five numbers of a load: sums over its history.
use Rattle.std.specs.Prelude.{ℕ, zero, suc, ◌≡◌, ◌+◌, Bool, true, false, List, length}
use Rattle.std.specs.List.{count_by, sum_by}
use Rattle.mj_schema.specs.declared.schema.Schema.{Schema}
use Rattle.bind_model.specs.Seen.{own_of}
use Rattle.bind_model.specs.declared.event.Event.{Event}
use Rattle.bind_model.specs.declared.told.Told.{Told}
use Rattle.bind_model.specs.declared.told.Told.TheVariants.{Sent, Taken}
use Rattle.callback_laws.specs.Callbacks.{callbacks_in}
use Rattle.history_text.specs.declared.notes.Fate.{Fate}
use Rattle.history_text.specs.declared.notes.Fate.TheVariants.{Ran, Dropped}
use Rattle.history_text.specs.declared.notes.Note.{Note}
use Rattle.load_run.specs.Commands.{IsLoad, SEQUENCES, numbered}
use Rattle.load_run.specs.declared.counts.Counts.{Counts}

-- a message was written
abbrev pub is_sent : Told → Bool
is_sent (Sent request bytes) = true
is_sent told = false

-- a message was got
abbrev pub is_got : Told → Bool
is_got (Taken g) = true
is_got told = false

-- how many bytes were written
abbrev pub bytes_of : Told → ℕ
bytes_of (Sent request bytes) = length bytes
bytes_of told = 0

-- a callback ran
abbrev pub has_run : Fate → Bool
has_run Ran = true
has_run Dropped = false

-- how many of these callbacks did
abbrev pub ran_of : List Note → ℕ
ran_of notes = count_by (λ (note : Note). has_run note.fate) notes

-- how many callbacks of the sequences below this number ran
abbrev pub ran_below : ℕ → List Event → ℕ
ran_below zero history = 0
ran_below (suc n) history = ran_below n history + ran_of (callbacks_in (own_of (numbered n) history))

-- the numbers are those of a history: its events, the messages written, those got, the callbacks that ran, and the bytes of all messages written
pub record AreCounted (history : List Event) (counts : Counts) : Type 0 where
  pub events : counts.events ≡ length history
  pub sent : counts.sent ≡ count_by (λ (event : Event). is_sent event.told) history
  pub got : counts.got ≡ count_by (λ (event : Event). is_got event.told) history
  pub ran : counts.ran ≡ ran_below SEQUENCES history
  pub bytes : counts.bytes ≡ sum_by (λ (event : Event). bytes_of event.told) history

-- the numbers are those of the history of a load of so many messages, by numbers that are drawn behind this one
pub record AreLoadCounts (schema : Schema) (seed messages : ℕ) (counts : Counts) : Type 0 where
  pub history : List Event
  pub load : IsLoad schema seed messages history
  pub counted : AreCounted history counts
