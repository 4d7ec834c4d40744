use Rattle.std.proofs.Common.{◌∙◌, sym}
use Rattle.remote_receiver.specs.Held.{kept_of}
use Rattle.script_names.specs.Rooms.{HasRoomFor}
use Rattle.load_run.proofs.Events.{hands, never_spent, ok_there, one_more, rested_more, room_back, told_so}
use Rattle.load_run.proofs.asking.ask.Goals as goal

pub step-seat-requires-clause-drawn : goal.step-seat-requires-clause-drawn
step-seat-requires-clause-drawn c = c.requires.rested.drawn

pub returns-in-Ok-clause-one : goal.returns-in-Ok-clause-one
returns-in-Ok-clause-one c =
    one_more (record { core = c.args.core; seq = c.args.seq }) c.step-seat.result.0 c.args.command (kept_of c.args.rest.jobs)
    (kept_of c.step-seat.result.1.jobs) c.step-seat.result.2 c.in-Ok.reply c.step-seat.ensures.served c.in-Ok.is

pub returns-in-Ok-clause-told : goal.returns-in-Ok-clause-told
returns-in-Ok-clause-told c =
    told_so (record { core = c.args.core; seq = c.args.seq }) c.step-seat.result.0 c.args.command (kept_of c.args.rest.jobs)
    (kept_of c.step-seat.result.1.jobs) c.step-seat.result.2 c.in-Ok.reply c.step-seat.ensures.served c.in-Ok.is

pub returns-in-Ok-clause-rested : goal.returns-in-Ok-clause-rested
returns-in-Ok-clause-rested c =
    rested_more (record { core = c.args.core; seq = c.args.seq }) c.step-seat.result.0 c.args.command c.args.rest c.step-seat.result.1
    c.step-seat.result.2 c.in-Ok.reply c.step-seat.ensures.served c.in-Ok.is c.step-seat.ensures.drawn c.requires.rested

pub returns-in-Ok-clause-responders : goal.returns-in-Ok-clause-responders
returns-in-Ok-clause-responders c =
    hands (record { core = c.args.core; seq = c.args.seq }) c.step-seat.result.0 c.args.command (kept_of c.args.rest.jobs)
    (kept_of c.step-seat.result.1.jobs) c.step-seat.result.2 c.in-Ok.reply c.step-seat.ensures.served c.in-Ok.is

pub returns-in-Ok-clause-room : goal.returns-in-Ok-clause-room
returns-in-Ok-clause-room c =
    room_back (record { core = c.args.core; seq = c.args.seq }) c.step-seat.result.0 c.args.command (kept_of c.args.rest.jobs)
    (kept_of c.step-seat.result.1.jobs) c.step-seat.result.2 c.in-Ok.reply c.step-seat.ensures.served c.in-Ok.is c.make_room.new.self
    (ok_there c.make_room.result (HasRoomFor c.args.command c.make_room.new.self) c.make_room.ensures.room
    (sym c.is_err.ensures.value ∙ c.if-is_err.false))

pub keep_refused-requires-clause-unspent : goal.keep_refused-requires-clause-unspent
keep_refused-requires-clause-unspent c =
    never_spent (record { core = c.args.core; seq = c.args.seq }) c.step-seat.result.0 c.args.command (kept_of c.args.rest.jobs)
    (kept_of c.step-seat.result.1.jobs) c.step-seat.result.2 c.in-Err.refused c.step-seat.ensures.served c.in-Err.is c.requires.few
