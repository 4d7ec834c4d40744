use Rattle.std.proofs.Common.{refl}
use Rattle.std.specs.Option.{option_copied}
use Rattle.remote_receiver.specs.Held.{kept_of}
use Rattle.script_names.specs.Held.{names_in}
use Rattle.script_run.proofs.OneEvent.{did_alone, was_full}
use Rattle.script_run.proofs.single.do_alone.Goals as goal

pub returns-in-Ok-clause-did : goal.returns-in-Ok-clause-did
returns-in-Ok-clause-did c =
    did_alone c.args.line.now.seq c.wake-desk.result.stepper.seq c.do_command.new.desk.stepper.seq c.args.core c.wake-desk.result.stepper.core
    c.do_command.new.desk.stepper.core c.put_to_rest-core.result c.args.rests.now c.wake-desk.new.rests c.put_to_rest-core.new.rests
    (kept_of c.wake-desk.result.jobs) (kept_of c.do_command.new.desk.jobs) c.requires.seq c.requires.rested c.wake-desk.ensures
    c.put_to_rest-core.ensures.core c.args.autos.now c.args.line.now refl (option_copied c.in-Ok.due) (names_in c.args.room.now)
    (names_in c.do_command.new.rooms) c.do_command.new.rooms.responders.others.items c.in-Ok.ensures.did c.put_to_rest-core.ensures.rests
    c.history-history.ensures.legal

pub returns-in-Err-clause-cut : goal.returns-in-Err-clause-cut
returns-in-Err-clause-cut c =
    was_full c.args.line.now.seq c.wake-desk.result.stepper.seq c.do_command.new.desk.stepper.seq c.args.core c.wake-desk.result.stepper.core
    c.do_command.new.desk.stepper.core c.args.rests.now c.wake-desk.new.rests (kept_of c.wake-desk.result.jobs) c.wake-desk.ensures c.in-Err.cut
    c.in-Err.ensures.cut
