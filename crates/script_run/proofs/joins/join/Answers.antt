use Rattle.std.proofs.Common.{◌<◌, ℕ, arith, subst, sym}
use Rattle.std.proofs.lemmas.Option.{slice_get-get_or}
use Rattle.std.proofs.lemmas.Result.{on_ok_weaker}
use Rattle.script_names.specs.Rooms.{HasPlaces, SameHeld}
use Rattle.script_run.proofs.Joining.{at_set, come_held, come_set, held_none, held_then}
use Rattle.script_run.proofs.joins.join.Goals as goal
use Rattle.script_run.specs.steps.Cutting.{CutJoin}
use Rattle.script_run.proofs.CutTurns.{memory_only}

pub settle-requires-clause-made : goal.settle-requires-clause-made
settle-requires-clause-made c = let told = rw c.in-Ok.is at c.ask_joint-core.ensures.joined in (told.0, told.1, told.2)

pub settle-requires-clause-places : goal.settle-requires-clause-places
settle-requires-clause-places c =
    let room = c.ask_joint-core.new.room in
    let two : HasPlaces 2 room = rw c.in-Ok.is at c.ask_joint-core.ensures.places in
    let one : HasPlaces 1 room = omega (arith, two) in
    at_set (HasPlaces 1) c.args.rooms.now c.args.joint.seq.0 room one

pub returns-in-Ok-clause-made : goal.returns-in-Ok-clause-made
returns-in-Ok-clause-made c =
    let rooms = c.args.rooms.now in
    let joint = c.args.joint in
    let told = rw c.in-Ok.is at c.ask_joint-core.ensures.joined in
    on_ok_weaker c.settle.result
    (λ come. record {
      first = told.0;
      second = told.1;
      joined = told.3;
      rooms =
          come_held joint told.0 told.1 rooms _ c.settle.new.rooms
          (come_set (λ k. SameHeld) held_none rooms joint.seq.0 _ c.ask_joint-core.new.room
          (slice_get-get_or rooms joint.seq.0 c.index-rooms-joint.result (subst (λ (n : ℕ). joint.seq.0 < n) (sym c.requires.rooms) c.requires.seq))
          (held_then _ c.make_place.new.self c.ask_joint-core.new.room c.make_place.ensures.same c.ask_joint-core.ensures.held))
          come;
    })
    (c.settle.ensures.come told.0 told.1 told.2)

pub returns-in-Ok-clause-cut : goal.returns-in-Ok-clause-cut
returns-in-Ok-clause-cut c = memory_only c.settle.result (CutJoin c.args.joint.seq c.args.core c.ask_joint-core.result.0) c.settle.ensures.memory
