use Rattle.std.proofs.Common.{arith, get_or}
use Rattle.std.proofs.lemmas.Option.{slice_get-get_or}
use Rattle.remote_receiver.specs.Held.{kept_of}
use Rattle.script_run.proofs.CutTurns.{cut_line}
use Rattle.script_run.proofs.LineTurns.{did_turn}
use Rattle.script_run.proofs.run.turn.Goals as goal

pub returns-in-Ok-clause-did : goal.returns-in-Ok-clause-did
returns-in-Ok-clause-did c =
    let running = c.requires.running in
    let rooms = c.args.rooms.now in
    let line = c.args.line.now in
    let room = get_or rooms line.seq.0 c.index-rooms-seq.result in
    let here = slice_get-get_or rooms line.seq.0 c.index-rooms-seq.result (omega (arith, c.requires.line.seq, running.count)) in
    did_turn c.args.schema.now c.args.script.now line c.as_slice-autos.result.now c.args.core c.wake-desk.result.stepper.core
    c.do_line.new.desk.stepper.core c.put_to_rest-core.result c.wake-desk.result.stepper.seq c.do_line.new.desk.stepper.seq c.args.rests.now
    c.wake-desk.new.rests c.put_to_rest-core.new.rests (kept_of c.wake-desk.result.jobs) (kept_of c.do_line.new.desk.jobs) rooms room c.do_line.new.rooms
    c.requires.line.seq running c.wake-desk.ensures c.as_slice-autos.ensures c.in-Ok.ensures.did c.put_to_rest-core.ensures.rests
    c.put_to_rest-core.ensures.core c.history-history.ensures.legal here c.in-Ok.ensures.names

pub returns-in-Err-clause-cut : goal.returns-in-Err-clause-cut
returns-in-Err-clause-cut c =
    let running = c.requires.running in
    let rooms = c.args.rooms.now in
    let line = c.args.line.now in
    let room = get_or rooms line.seq.0 c.index-rooms-seq.result in
    let here = slice_get-get_or rooms line.seq.0 c.index-rooms-seq.result (omega (arith, c.requires.line.seq, running.count)) in
    cut_line c.args.script.now c.as_slice-autos.result.now c.args.core c.wake-desk.result.stepper.core c.do_line.new.desk.stepper.core c.leave-core.result
    c.wake-desk.result.stepper.seq c.do_line.new.desk.stepper.seq c.args.rests.now c.wake-desk.new.rests (kept_of c.wake-desk.result.jobs)
    c.as_slice-autos.ensures c.leave-core.ensures c.history-history-in-Err.ensures.legal line rooms room c.wake-desk.ensures here c.in-Err.cut
    c.in-Err.ensures.cut
