use Rattle.std.proofs.Common.{refl}
use Rattle.std.proofs.lemmas.Option.{slice_get-get_or}
use Rattle.std.proofs.lemmas.Result.{on_ok_weaker}
use Rattle.script_run.specs.steps.Joints.{HasSpace, Spared}
use Rattle.script_run.proofs.Joining.{at_set, come_set, in_set, of_set, spared_none, spared_then}
use Rattle.script_run.proofs.joins.make_room.Goals as goal

pub returns-in_err-make_room-clause-same : goal.returns-in_err-make_room-clause-same
returns-in_err-make_room-clause-same c =
    let rooms = c.args.rooms.now in
    let here = slice_get-get_or rooms c.args.joint.other.0 c.index-rooms-joint.result c.requires.other in
    come_set Spared spared_none rooms c.args.joint.other.0 _ _ here
    (record { stands = refl; handles = c.make_room.ensures.same; pendings = refl; responders = refl; kept = refl })

pub returns-clause-same : goal.returns-clause-same
returns-clause-same c =
    let rooms = c.args.rooms.now in
    let here = slice_get-get_or rooms c.args.joint.other.0 c.index-rooms-joint.result c.requires.other in
    let there = in_set rooms c.args.joint.other.0 c.args.joint.seq.0 _ c.index-rooms-joint-2.result c.requires.seq in
    spared_then rooms _ _
    (come_set Spared spared_none rooms c.args.joint.other.0 _ _ here
    (record { stands = refl; handles = c.make_room.ensures.same; pendings = refl; responders = refl; kept = refl }))
    (come_set Spared spared_none _ c.args.joint.seq.0 _ _ there
    (record { stands = refl; handles = c.make_room-2.ensures.same; pendings = refl; responders = refl; kept = refl }))

pub returns-clause-space : goal.returns-clause-space
returns-clause-space c =
    let rooms = c.args.rooms.now in
    on_ok_weaker c.make_room-2.result
    (λ more. (
      at_set (HasSpace 2) _ c.args.joint.seq.0 _ more,
      of_set (HasSpace 2) _ c.args.joint.seq.0 c.args.joint.other.0 _ more
          (at_set (HasSpace 2) rooms c.args.joint.other.0 _ c.in_ok-make_room.ensures.room),
    ))
    c.make_room-2.ensures.room
