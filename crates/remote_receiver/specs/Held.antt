-- What a desk keeps, by its fields.
use Rattle.remote_receiver.specs.declared.jobs.Jobs.{Jobs}
use Rattle.remote_receiver.specs.Notes.{Kept}

-- the callbacks that wait, and the notes on all that came with calls
abbrev pub kept_of : {C : Type 0} → Jobs C → Kept C
kept_of jobs = record { waiting = jobs.waiting.callbacks; notes = jobs.notes.items }
