use Rattle.std.proofs.Common.{◌∙◌, sym}
use Rattle.remote_receiver.specs.Held.{kept_of}
use Rattle.script_run.specs.AtDesk.{seen_by}
use Rattle.script_run.proofs.Later.{adds_none, later_same, none_left, served_later}
use Rattle.script_run.proofs.LineDone.{ok_there, room_left, served_went}
use Rattle.script_names.specs.Rooms.{HasRoomFor}
use Rattle.script_run.proofs.worker.ask.Goals as goal

pub returns-in-Ok-clause-room : goal.returns-in-Ok-clause-room
returns-in-Ok-clause-room g c =
    room_left _ _ _ _ c.args.command c.serve.result c.in-Ok.reply c.make_room.new.self c.serve.ensures.served c.in-Ok.is
    (ok_there c.make_room.result (HasRoomFor c.args.command c.make_room.new.self) c.make_room.ensures.room
    (sym c.is_err.ensures.value ∙ c.if-is_err.false))

pub returns-in-Ok-clause-went : goal.returns-in-Ok-clause-went
returns-in-Ok-clause-went g c = served_went _ _ _ _ c.args.command c.serve.result c.in-Ok.reply c.serve.ensures.served c.in-Ok.is

pub returns-then-is_err-clause-later : goal.returns-then-is_err-clause-later
returns-then-is_err-clause-later g c = let s = g.P.Stepper in later_same (seen_by s.schema s.seqs s.alone s.me s.seen c.args.desk.now.stepper)

pub returns-then-is_err-clause-still : goal.returns-then-is_err-clause-still
returns-then-is_err-clause-still g c = let s = g.P.Stepper in adds_none (seen_by s.schema s.seqs s.alone s.me s.seen c.args.desk.now.stepper)

pub returns-in-Ok-clause-later : goal.returns-in-Ok-clause-later
returns-in-Ok-clause-later g c =
    let s = g.P.Stepper in
    served_later (seen_by s.schema s.seqs s.alone s.me s.seen c.args.desk.now.stepper) (seen_by s.schema s.seqs s.alone s.me s.seen c.serve.new.desk.stepper)
    (kept_of c.args.desk.now.jobs) (kept_of c.serve.new.desk.jobs) c.args.command c.serve.result c.serve.ensures.served

pub returns-in-Err-Memory-clause-later : goal.returns-in-Err-Memory-clause-later
returns-in-Err-Memory-clause-later g c =
    let s = g.P.Stepper in
    served_later (seen_by s.schema s.seqs s.alone s.me s.seen c.args.desk.now.stepper) (seen_by s.schema s.seqs s.alone s.me s.seen c.serve.new.desk.stepper)
    (kept_of c.args.desk.now.jobs) (kept_of c.serve.new.desk.jobs) c.args.command c.serve.result c.serve.ensures.served

pub returns-in-Err-Spent-clause-later : goal.returns-in-Err-Spent-clause-later
returns-in-Err-Spent-clause-later g c =
    let s = g.P.Stepper in
    served_later (seen_by s.schema s.seqs s.alone s.me s.seen c.args.desk.now.stepper) (seen_by s.schema s.seqs s.alone s.me s.seen c.serve.new.desk.stepper)
    (kept_of c.args.desk.now.jobs) (kept_of c.serve.new.desk.jobs) c.args.command c.serve.result c.serve.ensures.served

pub returns-in-Err-Memory-clause-still : goal.returns-in-Err-Memory-clause-still
returns-in-Err-Memory-clause-still g c =
    let s = g.P.Stepper in
    none_left (seen_by s.schema s.seqs s.alone s.me s.seen c.args.desk.now.stepper) (seen_by s.schema s.seqs s.alone s.me s.seen c.serve.new.desk.stepper)
    (kept_of c.args.desk.now.jobs) (kept_of c.serve.new.desk.jobs) c.args.command c.serve.result _ c.in-Err-Memory.is c.serve.ensures.served

pub returns-in-Err-Spent-clause-still : goal.returns-in-Err-Spent-clause-still
returns-in-Err-Spent-clause-still g c =
    let s = g.P.Stepper in
    none_left (seen_by s.schema s.seqs s.alone s.me s.seen c.args.desk.now.stepper) (seen_by s.schema s.seqs s.alone s.me s.seen c.serve.new.desk.stepper)
    (kept_of c.args.desk.now.jobs) (kept_of c.serve.new.desk.jobs) c.args.command c.serve.result _ c.in-Err-Spent.is c.serve.ensures.served
