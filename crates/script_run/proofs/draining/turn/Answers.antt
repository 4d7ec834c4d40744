use Rattle.remote_receiver.specs.Held.{kept_of}
use Rattle.script_run.proofs.CutTurns.{cut_take, part_take}
use Rattle.script_run.proofs.TakeTurns.{took_turn}
use Rattle.script_run.proofs.draining.turn.Goals as goal

pub returns-in-Ok-clause-took : goal.returns-in-Ok-clause-took
returns-in-Ok-clause-took c =
    took_turn c.args.schema.now c.args.script.now c.args.seq c.args.end c.as_slice-autos.result.now c.args.core c.wake-desk.result.stepper.core
    c.take.new.desk.stepper.core c.put_to_rest-core.result c.wake-desk.result.stepper.seq c.take.new.desk.stepper.seq c.args.rests.now
    c.wake-desk.new.rests c.put_to_rest-core.new.rests (kept_of c.wake-desk.result.jobs) (kept_of c.take.new.desk.jobs) c.requires.core c.requires.seq
    c.requires.rested c.wake-desk.ensures c.as_slice-autos.ensures c.in-Ok.ensures.took c.put_to_rest-core.ensures.rests
    c.put_to_rest-core.ensures.core c.history-history.ensures.legal

pub returns-in-Err-clause-cut : goal.returns-in-Err-clause-cut
returns-in-Err-clause-cut c =
    cut_take c.args.script.now c.as_slice-autos.result.now c.args.core c.wake-desk.result.stepper.core c.take.new.desk.stepper.core c.leave-core.result
    c.wake-desk.result.stepper.seq c.take.new.desk.stepper.seq c.args.rests.now c.wake-desk.new.rests (kept_of c.wake-desk.result.jobs)
    c.as_slice-autos.ensures c.leave-core.ensures c.history-history-in-Err.ensures.legal c.args.seq c.args.end c.wake-desk.ensures c.in-Err.cut
    c.in-Err.ensures.cut

pub returns-in-Err-clause-part : goal.returns-in-Err-clause-part
returns-in-Err-clause-part c =
    part_take c.args.script.now c.as_slice-autos.result.now c.args.core c.wake-desk.result.stepper.core c.take.new.desk.stepper.core c.leave-core.result
    c.wake-desk.result.stepper.seq c.take.new.desk.stepper.seq c.args.rests.now c.wake-desk.new.rests (kept_of c.wake-desk.result.jobs)
    c.as_slice-autos.ensures c.leave-core.ensures c.history-history-in-Err.ensures.legal c.args.seq c.args.end c.wake-desk.ensures c.take.ensures.later
    c.in-Err.ensures.came
