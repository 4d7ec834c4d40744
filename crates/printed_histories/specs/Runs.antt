-- The text of a run of so many sequences, and what it says.
use Rattle.std.specs.Prelude.{ℕ, List, reverse}
use Rattle.mj_schema.specs.declared.schema.Schema.{Schema}
use Rattle.bind_model.specs.declared.event.Event.{Event}
use Rattle.bind_model.specs.Left.{left}
use Rattle.callback_laws.specs.Callbacks.{callbacks}
use Rattle.history_text.specs.History.{history_text}
use Rattle.history_reader.specs.Said.{said}
use Rattle.history_reader.specs.declared.printed.Printed.{Printed}

-- the text of a history, of what became of its callbacks, and of what is left in the end
abbrev pub run_text : Schema → ℕ → List Event → List ℕ
run_text schema seqs history = history_text schema history (callbacks seqs history) (left seqs (reverse history))

-- what it says: all but the interfaces of responders' endpoints
abbrev pub run_said : ℕ → List Event → Printed
run_said seqs history = said history (callbacks seqs history) (left seqs (reverse history))
