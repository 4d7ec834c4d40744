use Rattle.std.proofs.Common.{ap, ◌∙◌}
use Rattle.std.specs.List.{count_by}
use Rattle.remote_receiver.specs.Held.{kept_of}
use Rattle.remote_receiver.specs.Notes.{Kept}
use Rattle.remote_receiver.specs.declared.note.Note.{Note}
use Rattle.script_run.specs.declared.plain.Plain.{Plain}
use Rattle.load_run.specs.declared.seat.Seat.{Seat}
use Rattle.load_run.proofs.Noting.{seq_ran}
use Rattle.load_run.proofs.desks.finish.Goals as goal

pub wake-desk-requires : goal.wake-desk-requires
wake-desk-requires c = c.requires.rested.drawn

pub returns-clause-core : goal.returns-clause-core
returns-clause-core c = ap (λ (s : Seat). s.core) (c.finish-seat.ensures.stepper ∙ c.wake-desk.ensures.stepper)

pub returns-clause-ran : goal.returns-clause-ran
returns-clause-ran c =
    c.count_ran.ensures
    ∙ (ap (count_by (λ (note : Note). note.ran))
    (c.as_slice.ensures.value ∙ (c.finish-seat.ensures.notes ∙ ap (λ (k : Kept Plain). k.notes) c.wake-desk.ensures.kept))
    ∙ seq_ran c.args.core c.args.seq (kept_of c.args.rest.jobs) c.requires.legal c.requires.few c.requires.rested.kept)
