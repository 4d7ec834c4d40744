use Rattle.std.proofs.Common.{◌∙◌, subst, sym}
use Rattle.remote_receiver.specs.Waits.{AreDrawn}
use Rattle.threaded_run.specs.steps.Passes.{HubPass}
use Rattle.threaded_run.proofs.Places.{at_same}
use Rattle.threaded_run.proofs.seats.rise.Goals as goal

pub returns-clause-pass : goal.returns-clause-pass
returns-clause-pass g c =
    c.into_pass-pass.ensures.pass ∙ at_same c.rest-seat.result.0 c.args.worker.desk.stepper c.rest-seat.ensures.stepper (λ s. s.pass)

pub returns-clause-kept : goal.returns-clause-kept
returns-clause-kept g c = c.rest-seat.ensures.kept

pub returns-clause-drawn : goal.returns-clause-drawn
returns-clause-drawn g c =
    subst (λ (p : HubPass). AreDrawn p.place.me.0.seen c.rest-seat.result.1.jobs.waiting.callbacks) (sym c.into_pass-pass.ensures.pass)
    c.rest-seat.ensures.drawn
