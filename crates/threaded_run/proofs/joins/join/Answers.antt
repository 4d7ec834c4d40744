use Rattle.std.proofs.Common.{◌<◌, ◌∙◌, ◌≡◌, ℕ, Err, arith, length, subst, sym}
use Rattle.std.proofs.lemmas.Option.{slice_get-get_or}
use Rattle.std.proofs.lemmas.Result.{on_ok_weaker}
use Rattle.script_names.specs.Rooms.{HasPlaces, SameHeld}
use Rattle.script_run.specs.declared.cut.Cut.{Cut}
use Rattle.script_run.specs.declared.cut.Cut.TheVariants as cuts
use Rattle.script_run.proofs.Joining.{at_set, come_held, come_set, held_none}
use Rattle.threaded_run.proofs.Joined.{cut_is}
use Rattle.threaded_run.proofs.Places.{ok_there}
use Rattle.threaded_run.proofs.Resting.{not_full}
use Rattle.threaded_run.proofs.joins.join.Goals as goal

pub settle-requires-clause-places : goal.settle-requires-clause-places
settle-requires-clause-places g c =
    let room = c.make_place.new.self in
    let three : HasPlaces 3 room = ok_there c.make_place.result (HasPlaces 3 room) c.make_place.ensures.room (sym c.is_err.ensures.value ∙ c.if-is_err.false) in
    let one : HasPlaces 1 room = omega (arith, three) in
    at_set (HasPlaces 1) c.args.rooms.now c.args.joint.seq.0 room one

pub returns-then-is_err-clause-spent : goal.returns-then-is_err-clause-spent
returns-then-is_err-clause-spent g c joins have spent = absurd cc

pub returns-in-Ok-clause-joined : goal.returns-in-Ok-clause-joined
returns-in-Ok-clause-joined g c joins have =
    let rooms = c.args.rooms.now in
    let joint = c.args.joint in
    let told = rw c.in-Ok.is at (c.join_one.ensures.joined joins have) in
    let within : joint.seq.0 < length rooms = subst (λ (n : ℕ). joint.seq.0 < n) (c.requires.count ∙ sym c.requires.rooms) c.requires.within in
    on_ok_weaker c.settle.result
    (λ come. (
      told.0,
      told.1,
      told.3,
      come_held joint told.0 told.1 rooms _ c.settle.new.rooms
          (come_set (λ k. SameHeld) held_none rooms joint.seq.0 _ c.make_place.new.self
          (slice_get-get_or rooms joint.seq.0 c.index-rooms-joint.result within) c.make_place.ensures.same) come,
    ))
    (c.settle.ensures.come told.0 told.1 told.2)

pub returns-in-Ok-clause-spent : goal.returns-in-Ok-clause-spent
returns-in-Ok-clause-spent g c joins have spent = absurd (not_full c.settle.result c.settle.ensures.memory spent)

pub returns-in-Err-clause-spent : goal.returns-in-Err-clause-spent
returns-in-Err-clause-spent g c joins have spent =
    let same = cut_is c.in-Err.cut cuts.Spent spent in (
      rw c.in-Err.is at (c.join_one.ensures.stands joins have),
      c.join_one.ensures.full (subst (λ (cut : Cut). c.join_one.result ≡ Err cut) same c.in-Err.is),
    )
