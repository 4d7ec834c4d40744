use Rattle.std.proofs.Common.{◌≡◌, ◌<◌, subst, sym}
use Rattle.bind_model.specs.Plain.{IsOf}
use Rattle.remote_receiver.specs.Held.{kept_of}
use Rattle.load_run.specs.declared.seat.Seat.{Seat}
use Rattle.load_run.proofs.Events.{served_back}
use Rattle.load_run.proofs.desks.step.Goals as goal

pub serve-told-requires-clause-seq : goal.serve-told-requires-clause-seq
serve-told-requires-clause-seq c = subst (λ (s : Seat). s.seq.0 < s.core.seqs) (sym c.wake-desk.ensures.stepper) c.requires.seq

pub serve-told-requires-clause-schema : goal.serve-told-requires-clause-schema
serve-told-requires-clause-schema c =
    subst (λ (s : Seat). s.core.schema ≡ c.args.schema.now) (sym c.wake-desk.ensures.stepper) c.requires.schema

pub serve-told-requires-clause-prepared : goal.serve-told-requires-clause-prepared
serve-told-requires-clause-prepared c = subst (λ (s : Seat). IsOf s.core.schema c.args.command) (sym c.wake-desk.ensures.stepper) c.requires.prepared

pub returns-clause-served : goal.returns-clause-served
returns-clause-served c =
    served_back c.args.seat c.wake-desk.result.stepper c.serve-told.new.desk.stepper c.rest-seat.result.0 c.args.command
    (kept_of c.wake-desk.result.jobs) (kept_of c.args.rest.jobs) (kept_of c.serve-told.new.desk.jobs) (kept_of c.rest-seat.result.1.jobs)
    c.serve-told.result c.wake-desk.ensures.stepper c.rest-seat.ensures.stepper c.wake-desk.ensures.kept c.rest-seat.ensures.kept
    c.serve-told.ensures.served
