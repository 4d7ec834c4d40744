-- What stands behind a series that was read in a loop, and what a reading of all the bytes owes.
use Rattle.std.specs.Prelude.{◌≡◌, ℕ, List, Result, Ok, Err}
use Rattle.byte_rules.specs.Lang.{Read, ◌>>=◌}
use Rattle.handle_table.specs.declared.thing.Thing.{Thing}
use Rattle.bind_model.specs.declared.event.Event.{Event}
use Rattle.history_text.specs.declared.notes.Note.{Note}
use Rattle.history_reader.specs.Whole.{printed_of}
use Rattle.history_reader.specs.declared.printed.Printed.{Printed}
use Rattle.value_text.specs.declared.text_error.TextError.{TextError}
use Rattle.value_text.specs.declared.text_error.TextError.TheVariants as errors

-- callbacks that were read before, with what stands behind them
abbrev pub with_notes : List Note → Read (List Thing × ℕ) → Read (List Note × (List Thing × ℕ))
with_notes notes read = read >>= λ r. Ok ((notes, r.0), r.1)

-- what a text says, with the events that were read before
abbrev pub with_events : List Event → Read (List Note × (List Thing × ℕ)) → Read Printed
with_events events read = read >>= λ r. Ok (printed_of (events, r.0), r.1)

-- the same answer as this one
abbrev pub Agrees : {A : Type 0} → Result A TextError → Result A ℕ → Type 0
Agrees (Ok x) judged = judged ≡ Ok x
Agrees (Err (errors.BadText at)) judged = judged ≡ Err at
Agrees (Err errors.Memory) judged = Unit {0}
