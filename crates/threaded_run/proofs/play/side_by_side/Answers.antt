use Rattle.std.proofs.Common.{◌≡◌, ◌∙◌, length, refl, arith, Some}
use denote.Param.Send.{sendable}
use Rattle.std.proofs.lemmas.Option.{slice_get_within}
use Rattle.std.proofs.lemmas.Result.{on_ok_weaker}
use Rattle.bind_hub.proofs.Crossing.{seat_send}
use Rattle.remote_receiver.specs.Held.{kept_of}
use Rattle.script_run.specs.declared.cut.Cut.TheVariants as cuts
use Rattle.threaded_run.proofs.Places.{same_there, there_at}
use Rattle.threaded_run.proofs.Seating.{has_returned, is_pass_still, is_ready, other_end}
use Rattle.threaded_run.proofs.play.side_by_side.Goals as goal

pub work_rows-requires-send-P : goal.work_rows-requires-send-P
work_rows-requires-send-P g c κs within = let y = c.type_bounds.sync-R in search (seat_send, sendable) depth 20

pub work_rows-requires-clause-ready : goal.work_rows-requires-clause-ready
work_rows-requires-clause-ready g c κs within j d below =
    let hub = c.args.hub.now in
    let crew = c.args.crew.now in
    let old = c.seat_all.new.workers.items in
    is_ready old old (λ w. w.desk.stepper.pass) (λ w. w.desk.stepper.hub.now) (λ w. kept_of w.desk.jobs) (λ w. w.room) (λ w. w.cut)
    (λ w. w.desk.stepper.is_pass) c.args.script.now c.args.schema.now hub crew.passes.items crew.rests.items crew.rooms.items c.requires.hub.0
    c.requires.hub.1 c.requires.passes c.seat_all.ensures.count c.seat_all.ensures.each c.seat_all.ensures.hub c.requires.names j d below

pub rise_all-done-requires-clause-room : goal.rise_all-done-requires-clause-room
rise_all-done-requires-clause-room g c =
    let crew = c.args.crew.now in
    let kept = c.seat_all.ensures.capacity in
    let count = c.work_rows.ensures.len ∙ c.seat_all.ensures.count in (
      omega (arith, count, kept.0, crew.passes.ok.0, crew.passes.ok.1),
      omega (arith, count, c.requires.counts.0, kept.1, crew.rests.ok.0, crew.rests.ok.1),
      omega (arith, count, c.requires.counts.1, kept.2, crew.rooms.ok.0, crew.rooms.ok.1),
    )

pub returns-in_default-clause-counts : goal.returns-in_default-clause-counts
returns-in_default-clause-counts g c = (refl, c.requires.counts.0)

pub returns-in_default-clause-spent : goal.returns-in_default-clause-spent
returns-in_default-clause-spent g c spent = absurd cc

pub returns-clause-counts : goal.returns-clause-counts
returns-clause-counts g c =
    let count = c.work_rows.ensures.len ∙ c.seat_all.ensures.count in
    let back = c.rise_all-done.ensures.counts in
    (back.0 ∙ count, back.1 ∙ count)

pub returns-clause-passes : goal.returns-clause-passes
returns-clause-passes g c k q got =
    let hub = c.args.hub.now in
    let crew = c.args.crew.now in
    let old = c.seat_all.new.workers.items in
    let new = c.work_rows.new.workers.items in
    let counts = c.rise_all-done.ensures.counts in
    let rests = c.rise_all-done.new.crew.rests.items in
    let t = there_at rests k (let w = slice_get_within c.rise_all-done.new.crew.passes.items k q got in omega (arith, w, counts.0, counts.1)) in
    let b = c.rise_all-done.ensures.back k q t.0 got t.1 in
    is_pass_still old new (λ w. w.desk.stepper.pass) (λ w. w.desk.stepper.hub.now) (λ w. kept_of w.desk.jobs) (λ w. w.room) (λ w. w.cut)
    (λ w. w.desk.stepper.is_pass) c.args.script.now c.args.schema.now hub crew.passes.items crew.rests.items crew.rooms.items c.requires.hub.0
    c.requires.hub.1 c.requires.passes c.seat_all.ensures.count c.seat_all.ensures.each c.seat_all.ensures.hub c.work_rows.ensures.len
    c.work_rows.ensures.home c.work_rows.ensures.did k q t.0 b.0 b.1 b.2 b.3 b.4 b.5 b.6

pub returns-clause-done : goal.returns-clause-done
returns-clause-done g c =
    let hub = c.args.hub.now in
    let crew = c.args.crew.now in
    let old = c.seat_all.new.workers.items in
    let new = c.work_rows.new.workers.items in
    on_ok_weaker c.rise_all-done.result
    (λ none. λ k q rest got there.
    let b = c.rise_all-done.ensures.back k q rest got there in
    let r = has_returned old new (λ w. w.desk.stepper.pass) (λ w. w.desk.stepper.hub.now) (λ w. kept_of w.desk.jobs) (λ w. w.room) (λ w. w.cut)
    (λ w. w.desk.stepper.is_pass) c.args.script.now c.args.schema.now hub crew.passes.items crew.rests.items crew.rooms.items c.requires.hub.0
    c.requires.hub.1 c.requires.passes c.seat_all.ensures.count c.seat_all.ensures.each c.seat_all.ensures.hub c.work_rows.ensures.len
    c.work_rows.ensures.home c.work_rows.ensures.did k q rest b.0 b.1 b.2 b.3 b.4 b.5 b.6 in
    (r.0, r.1 ∙ none b.0 b.1 b.2))
    c.rise_all-done.ensures.done

pub returns-clause-spent : goal.returns-clause-spent
returns-clause-spent g c spent =
    let hub = c.args.hub.now in
    let crew = c.args.crew.now in
    let old = c.seat_all.new.workers.items in
    let new = c.work_rows.new.workers.items in
    let counts = c.rise_all-done.ensures.counts in
    let passes = c.rise_all-done.new.crew.passes.items in
    let rests = c.rise_all-done.new.crew.rests.items in
    let cut = c.rise_all-done.ensures.cut cuts.Spent spent in
    let n = other_end cut.0 (length new) (slice_get_within new cut.0 cut.1 cut.2) in
    let p = there_at passes n.0 (omega (arith, n.1, counts.0)) in
    let r = there_at rests n.0 (omega (arith, n.1, counts.1)) in
    let b = c.rise_all-done.ensures.back n.0 p.0 r.0 p.1 r.1 in
    let same : b.0 ≡ cut.0 = omega (arith, n.1, b.3) in
    let its : b.1.cut ≡ Some cuts.Spent = same_there new b.0 cut.0 b.1 cut.1 b.2 same cut.2 (λ w. w.cut) ∙ cut.3 in
    let did = has_returned old new (λ w. w.desk.stepper.pass) (λ w. w.desk.stepper.hub.now) (λ w. kept_of w.desk.jobs) (λ w. w.room) (λ w. w.cut)
    (λ w. w.desk.stepper.is_pass) c.args.script.now c.args.schema.now hub crew.passes.items crew.rests.items crew.rooms.items c.requires.hub.0
    c.requires.hub.1 c.requires.passes c.seat_all.ensures.count c.seat_all.ensures.each c.seat_all.ensures.hub c.work_rows.ensures.len
    c.work_rows.ensures.home c.work_rows.ensures.did n.0 p.0 r.0 b.0 b.1 b.2 b.3 b.4 b.5 b.6 in (
      (λ k q rest got there.
          let b = c.rise_all-done.ensures.back k q rest got there in
          (has_returned old new (λ w. w.desk.stepper.pass) (λ w. w.desk.stepper.hub.now) (λ w. kept_of w.desk.jobs) (λ w. w.room) (λ w. w.cut)
          (λ w. w.desk.stepper.is_pass) c.args.script.now c.args.schema.now hub crew.passes.items crew.rests.items crew.rooms.items c.requires.hub.0
          c.requires.hub.1 c.requires.passes c.seat_all.ensures.count c.seat_all.ensures.each c.seat_all.ensures.hub c.work_rows.ensures.len
          c.work_rows.ensures.home c.work_rows.ensures.did k q rest b.0 b.1 b.2 b.3 b.4 b.5 b.6).0),
      (n.0, p.0, r.0, p.1, r.1, did.0, did.1 ∙ its),
    )
