use Rattle.std.proofs.Common.{◌≡◌, ◌+◌, ◌++◌, ◌∙◌, [], ◌∷◌, length, refl, ap, arith}
use Rattle.remote_receiver.specs.Held.{kept_of}
use Rattle.turn_lock.proofs.Lists.{nothing_got}
use Rattle.threaded_run.specs.steps.Workers.{IsSeated}
use Rattle.threaded_run.proofs.Places.{each_more, front_at, last_at, longer}
use Rattle.threaded_run.proofs.Seating.{seated}
use Rattle.threaded_run.proofs.seats.seat_all.Goals as goal

pub loop-place-init : goal.loop-place-init
loop-place-init g c = record {
  counts = c.requires.counts;
  all = ap (λ ws. length c.args.crew.now.passes.items + length ws) c.requires.room.0 ∙ omega arith;
  room = c.requires.room.1;
  capacity = (refl, refl, refl);
  passes = λ k p got. got;
  rests = λ k rest got. got;
  rooms = λ k room got. got;
  hub = λ j w got. absurd (nothing_got c.args.workers.now.items j w c.requires.room.0 got);
  each = λ j w got. absurd (nothing_got c.args.workers.now.items j w c.requires.room.0 got);
}

pub take_last-requires : goal.take_last-requires
take_last-requires g c = record { counts = c.loop-place.invariant.counts }

pub seat-worker-requires-clause-pass : goal.seat-worker-requires-clause-pass
seat-worker-requires-clause-pass g c =
    let t = c.in-Some.ensures.some in
    let xs = c.take_last.new.self.passes.items in
    let p = c.in-Some.place.pass in
    (c.requires.passes (length xs) p (c.loop-place.invariant.passes (length xs) p (last_at xs c.loop-place.crew.passes.items p (length xs) t.0 refl))).1

pub seat-worker-requires-clause-drawn : goal.seat-worker-requires-clause-drawn
seat-worker-requires-clause-drawn g c =
    let i = c.loop-place.invariant in
    let t = c.in-Some.ensures.some in
    let place = c.in-Some.place in
    let old = c.loop-place.crew in
    let new = c.take_last.new.self in
    let xs = new.passes.items in
    let rs = new.rests.items in
    let same : length rs ≡ length xs
    = omega (arith, i.counts.0, longer xs old.passes.items place.pass t.0, longer rs old.rests.items place.rest t.1) in
    c.requires.drawn (length xs) place.pass place.rest
    (i.passes (length xs) place.pass (last_at xs old.passes.items place.pass (length xs) t.0 refl))
    (i.rests (length xs) place.rest (last_at rs old.rests.items place.rest (length xs) t.1 same))

pub push_reserved-requires : goal.push_reserved-requires
push_reserved-requires g c =
    let i = c.loop-place.invariant in
    let more = longer c.take_last.new.self.passes.items c.loop-place.crew.passes.items c.in-Some.place.pass c.in-Some.ensures.some.0 in
    omega (arith, i.all, i.room, more, c.loop-place.workers.ok.0)

pub loop-place-preserved : goal.loop-place-preserved
loop-place-preserved g c =
    let i = c.loop-place.invariant in
    let t = c.in-Some.ensures.some in
    let kept = c.take_last.ensures.capacity in
    let place = c.in-Some.place in
    let old = c.loop-place.crew in
    let new = c.take_last.new.self in
    let xs = new.passes.items in
    let rs = new.rests.items in
    let os = new.rooms.items in
    let ws = c.loop-place.workers.items in
    let worker = c.seat-worker.result in
    let seat = c.seat-worker.ensures in
    let more : c.push_reserved.new.self.items ≡ ws ++ worker ∷ [] = c.push_reserved.ensures.items in
    let p_more = longer xs old.passes.items place.pass t.0 in
    let r_more = longer rs old.rests.items place.rest t.1 in
    let o_more = longer os old.rooms.items place.room t.2 in
    let w_more = longer ws c.push_reserved.new.self.items worker more in
    let same_r : length rs ≡ length xs = omega (arith, i.counts.0, p_more, r_more) in
    let same_o : length os ≡ length xs = omega (arith, i.counts.1, p_more, o_more) in
    record {
      counts = (same_r, same_o);
      all = omega (arith, i.all, p_more, w_more);
      room = omega (arith, i.room, c.push_reserved.ensures.capacity);
      capacity = (kept.0 ∙ i.capacity.0, kept.1 ∙ i.capacity.1, kept.2 ∙ i.capacity.2);
      passes = λ k p got. i.passes k p (front_at xs old.passes.items place.pass k p t.0 got);
      rests = λ k rest got. i.rests k rest (front_at rs old.rests.items place.rest k rest t.1 got);
      rooms = λ k room got. i.rooms k room (front_at os old.rooms.items place.room k room t.2 got);
      hub = each_more ws c.push_reserved.new.self.items worker more (λ j w. w.desk.stepper.hub.now ≡ c.args.hub.now) i.hub seat.hub;
      each = each_more ws c.push_reserved.new.self.items worker more
          (λ j w. IsSeated c.args.crew.now.passes.items c.args.crew.now.rests.items c.args.crew.now.rooms.items j w.desk.stepper.pass (kept_of w.desk.jobs)
          w.room) i.each
          (seated c.args.crew.now.passes.items c.args.crew.now.rests.items c.args.crew.now.rooms.items (length xs) (length ws) place.pass place.rest
          place.room (omega (arith, i.all, p_more))
          (i.passes (length xs) place.pass (last_at xs old.passes.items place.pass (length xs) t.0 refl))
          (i.rests (length xs) place.rest (last_at rs old.rests.items place.rest (length xs) t.1 same_r))
          (i.rooms (length xs) place.room (last_at os old.rooms.items place.room (length xs) t.2 same_o)) worker.desk.stepper.pass (kept_of worker.desk.jobs)
          worker.room seat.pass seat.kept seat.room);
    }

pub loop-place-smaller : goal.loop-place-smaller
loop-place-smaller g c =
    let more = longer c.take_last.new.self.passes.items c.loop-place.crew.passes.items c.in-Some.place.pass c.in-Some.ensures.some.0 in
    omega (arith, more)

pub returns-clause-empty : goal.returns-clause-empty
returns-clause-empty g c = let none = c.in_default.ensures.none in (none.1, none.2, none.3)

pub returns-clause-capacity : goal.returns-clause-capacity
returns-clause-capacity g c =
    let i = c.loop-place.invariant in
    let kept = c.take_last.ensures.capacity in
    (kept.0 ∙ i.capacity.0, kept.1 ∙ i.capacity.1, kept.2 ∙ i.capacity.2)

pub returns-clause-count : goal.returns-clause-count
returns-clause-count g c = omega (arith, c.loop-place.invariant.all, ap length c.in_default.ensures.none.0)

pub returns-clause-hub : goal.returns-clause-hub
returns-clause-hub g c = c.loop-place.invariant.hub

pub returns-clause-each : goal.returns-clause-each
returns-clause-each g c = c.loop-place.invariant.each
