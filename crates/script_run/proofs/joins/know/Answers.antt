use Rattle.std.proofs.Common.{◌<◌, arith, length, refl}
use Rattle.std.proofs.lemmas.Option.{slice_get-get_or}
use Rattle.script_run.proofs.Joining.{know_all, know_more, know_none}
use Rattle.script_run.proofs.joins.know.Goals as goal

pub loop-room-init : goal.loop-room-init
loop-room-init c = know_none c.args.name c.args.thing c.args.rooms.now

pub loop-room-preserved : goal.loop-room-preserved
loop-room-preserved c =
    let i = c.loop-room.room-index in
    let rooms = c.loop-room.rooms in
    let within : i < length rooms = omega (arith, c.loop-room-test.true, c.loop-room.auto.rooms) in
    know_more c.args.name c.args.thing i c.args.rooms.now rooms _ _ (slice_get-get_or rooms i c.room-item.result within)
    (record { stands = c.set.ensures; handles = refl; pendings = refl; responders = refl }) c.loop-room.invariant

pub returns : goal.returns
returns c =
    know_all c.args.name c.args.thing c.loop-room.room-index c.args.rooms.now c.loop-room.rooms (omega (arith, c.loop-room-test.false))
    c.loop-room.invariant
