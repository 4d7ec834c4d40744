use Rattle.std.proofs.Common.{◌∙◌, subst, sym}
use Rattle.remote_receiver.specs.Waits.{AreDrawn}
use Rattle.threaded_run.specs.steps.Passes.{HubPass}
use Rattle.threaded_run.proofs.Places.{at_same}
use Rattle.threaded_run.proofs.seats.seat.Goals as goal

pub wake-desk-requires : goal.wake-desk-requires
wake-desk-requires g c =
    subst (λ (p : HubPass). AreDrawn p.place.me.0.seen c.args.place.rest.jobs.waiting.callbacks) (sym c.new.ensures.1) c.requires.drawn

pub returns-clause-hub : goal.returns-clause-hub
returns-clause-hub g c = at_same c.wake-desk.result.stepper c.new.result c.wake-desk.ensures.stepper (λ s. s.hub.now) ∙ c.new.ensures.0

pub returns-clause-pass : goal.returns-clause-pass
returns-clause-pass g c = at_same c.wake-desk.result.stepper c.new.result c.wake-desk.ensures.stepper (λ s. s.pass) ∙ c.new.ensures.1

pub returns-clause-kept : goal.returns-clause-kept
returns-clause-kept g c = c.wake-desk.ensures.kept
