-- The notes of a desk as the text of a history has them, and calls that come with jobs.
use Rattle.std.specs.Prelude.{◌≡◌, List, Option, is_some}
use Rattle.std.specs.List.{AllByRecursion}
use Rattle.mj_base.specs.declared.ids.SeqId.{SeqId}
use Rattle.bind_model.specs.Wire.{Wire}
use Rattle.bind_model.specs.declared.asked.Asked.{Asked}
use Rattle.bind_model.specs.declared.asked.Asked.TheVariants.{Call}
use Rattle.history_text.specs.declared.notes.Note as text
use Rattle.remote_receiver.specs.Stepped.{Step}
use Rattle.remote_receiver.specs.declared.note.Note as desk
use Rattle.callback_laws.specs.Callbacks.{fate_of}

-- the note of a desk of this sequence, as the text of a history has it
abbrev pub shown : SeqId → desk.Note → text.Note
shown seq note = record { seq = seq; end = note.key.end; id = note.key.id; request = note.key.request; fate = fate_of note.ran }

-- a call comes with a job exactly where its method has a response
abbrev pub GivesJob : {C : Type 0} → Wire → Asked → Option C → Type 0
GivesJob wire (Call x id outgoing) job = is_some job ≡ wire.responds outgoing.target.interface outgoing.target.method
GivesJob wire asked job = Unit {0}

-- each call of these steps does
abbrev pub GivesJobs : {C : Type 0} → Wire → List (Step C) → Type 0
GivesJobs wire steps = AllByRecursion (λ step. GivesJob wire step.asked step.job) steps
