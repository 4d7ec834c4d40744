use Rattle.std.proofs.Common.{refl}
use Rattle.remote_receiver.specs.Held.{kept_of}
use Rattle.script_run.proofs.Joining.{asked_joint}
use Rattle.script_run.proofs.Waking.{at_seat}
use Rattle.script_run.proofs.joins.ask_joint.Goals as goal
use Rattle.script_run.proofs.CutTurns.{cut_join}

pub returns-in-Ok-clause-joined : goal.returns-in-Ok-clause-joined
returns-in-Ok-clause-joined c =
    let desk = c.wake-desk.result in
    let now = c.ask.new.desk in
    asked_joint c.args.joint c.args.core c.args.rests.now c.wake-desk.new.rests c.put_to_rest.new.rests (at_seat desk.stepper) (at_seat now.stepper)
    (kept_of desk.jobs) (kept_of now.jobs) c.requires.seq c.requires.other c.requires.rested c.wake-desk.ensures refl c.put_to_rest.ensures.rests
    c.put_to_rest.result c.put_to_rest.ensures.core c.in-Ok.reply c.in-Ok.ensures.saw c.in-Ok.ensures.went

pub returns-in-Err-clause-cut : goal.returns-in-Err-clause-cut
returns-in-Err-clause-cut c =
    cut_join c.args.joint.seq c.args.core c.wake-desk.result.stepper.core c.ask.new.desk.stepper.core c.leave-core.result
    c.wake-desk.result.stepper.seq c.ask.new.desk.stepper.seq c.args.rests.now c.wake-desk.new.rests (kept_of c.wake-desk.result.jobs)
    c.leave-core.ensures c.history-history.ensures.legal c.wake-desk.ensures c.in-Err.cut c.in-Err.ensures.cut
