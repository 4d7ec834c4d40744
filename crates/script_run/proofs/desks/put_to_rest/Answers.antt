use Rattle.std.proofs.Common.{ap, subst, set}
use Rattle.remote_receiver.specs.Waits.{AreDrawn}
use Rattle.script_run.specs.declared.seat.Seat.{Seat}
use Rattle.script_run.proofs.desks.put_to_rest.Goals as goal

pub returns-clause-rests : goal.returns-clause-rests
returns-clause-rests c =
    let rest = c.rest-core.result.1 in
    record {
      rest = rest;
      new = ap (λ (s : Seat). set c.args.rests.now s.seq.0 rest) c.rest-core.ensures.stepper;
      kept = c.rest-core.ensures.kept;
      drawn = subst (λ (s : Seat). AreDrawn s.core.events rest.jobs.waiting.callbacks) c.rest-core.ensures.stepper c.rest-core.ensures.drawn;
    }
