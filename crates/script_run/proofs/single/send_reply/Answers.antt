use Rattle.remote_receiver.specs.Held.{kept_of}
use Rattle.script_run.specs.OfScript.{replied}
use Rattle.script_run.proofs.OneEvent.{did_one, was_full}
use Rattle.script_run.proofs.single.send_reply.Goals as goal

pub returns-in-Ok-clause-did : goal.returns-in-Ok-clause-did
returns-in-Ok-clause-did c = λ r last.
    let went = c.in-Ok.ensures.went r last in
    did_one c.args.seq c.wake-desk.result.stepper.seq c.answer.new.desk.stepper.seq c.args.core c.wake-desk.result.stepper.core
    c.answer.new.desk.stepper.core c.put_to_rest-core.result c.args.rests.now c.wake-desk.new.rests c.put_to_rest-core.new.rests
    (kept_of c.wake-desk.result.jobs) (kept_of c.answer.new.desk.jobs) c.requires.seq c.requires.rested c.wake-desk.ensures
    c.put_to_rest-core.ensures.core (replied (r, c.args.reply.now)) went.0 went.1 c.put_to_rest-core.ensures.rests c.history-history.ensures.legal

pub returns-in-Err-clause-cut : goal.returns-in-Err-clause-cut
returns-in-Err-clause-cut c =
    was_full c.args.seq c.wake-desk.result.stepper.seq c.answer.new.desk.stepper.seq c.args.core c.wake-desk.result.stepper.core
    c.answer.new.desk.stepper.core c.args.rests.now c.wake-desk.new.rests (kept_of c.wake-desk.result.jobs) c.wake-desk.ensures c.in-Err.cut
    c.in-Err.ensures.cut
