use Rattle.std.proofs.Common.{◌≡◌, ◌+◌, ◌++◌, ◌⊎◌, ◌∙◌, ℕ, [], ◌∷◌, length, refl, sym, ap, arith, inl, inr, ⊎_elim}
use Rattle.std.specs.Prelude.{slice_get, Err, Some}
use Rattle.std.proofs.lemmas.Result.{on_ok_weaker}
use Rattle.remote_receiver.specs.Held.{kept_of}
use Rattle.remote_receiver.specs.Waits.{AreDrawn}
use Rattle.turn_lock.proofs.Lists.{nothing_got}
use Rattle.threaded_run.proofs.Places.{at_same, both_more, empty_of, front_at, if_err_at, last_at, longer, of_longer, ok_at}
use Rattle.threaded_run.proofs.seats.rise_all.Goals as goal

pub loop-worker-init : goal.loop-worker-init
loop-worker-init g c =
    let none = c.requires.empty in
    record {
      counts = (ap length none.1 ∙ sym (ap length none.0), ap length none.2 ∙ sym (ap length none.0));
      all = omega (arith, ap length none.0);
      room = c.requires.room;
      old = λ j w got. got;
      back = λ k p rest got there. absurd (nothing_got c.args.crew.now.passes.items k p none.0 got);
      done = λ j w got. inl got;
      cut = λ why e. absurd cc;
    }

pub put_back-requires-clause-passes : goal.put_back-requires-clause-passes
put_back-requires-clause-passes g c =
    let i = c.loop-worker.invariant in
    let xs = c.pop.new.self.items in
    let items : c.loop-worker.workers.items ≡ xs ++ c.in-Some.worker ∷ [] = c.in-Some.ensures.items in
    omega (arith, i.all, i.room.0, longer xs c.loop-worker.workers.items c.in-Some.worker items)

pub put_back-requires-clause-rests : goal.put_back-requires-clause-rests
put_back-requires-clause-rests g c =
    let i = c.loop-worker.invariant in
    let xs = c.pop.new.self.items in
    let items : c.loop-worker.workers.items ≡ xs ++ c.in-Some.worker ∷ [] = c.in-Some.ensures.items in
    omega (arith, i.all, i.counts.0, i.room.1, longer xs c.loop-worker.workers.items c.in-Some.worker items)

pub put_back-requires-clause-rooms : goal.put_back-requires-clause-rooms
put_back-requires-clause-rooms g c =
    let i = c.loop-worker.invariant in
    let xs = c.pop.new.self.items in
    let items : c.loop-worker.workers.items ≡ xs ++ c.in-Some.worker ∷ [] = c.in-Some.ensures.items in
    omega (arith, i.all, i.counts.1, i.room.2, longer xs c.loop-worker.workers.items c.in-Some.worker items)

pub loop-worker-preserved : goal.loop-worker-preserved
loop-worker-preserved g c =
    let i = c.loop-worker.invariant in
    let worker = c.in-Some.worker in
    let ws = c.loop-worker.workers.items in
    let xs = c.pop.new.self.items in
    let items : ws ≡ xs ++ worker ∷ [] = c.in-Some.ensures.items in
    let here = i.old (length xs) worker (last_at xs ws worker (length xs) items refl) in
    let w_more = longer xs ws worker items in
    let place = c.rise-place.result.0 in
    let rise = c.rise-place.ensures in
    let put = c.put_back.ensures in
    let old = c.loop-worker.crew in
    let new = c.put_back.new.self in
    let p_more = longer old.passes.items new.passes.items place.pass put.passes in
    let r_more = longer old.rests.items new.rests.items place.rest put.rests in
    let o_more = longer old.rooms.items new.rooms.items place.room put.rooms in
    record {
      counts = (omega (arith, i.counts.0, p_more, r_more), omega (arith, i.counts.1, p_more, o_more));
      all = omega (arith, i.all, p_more, w_more);
      room = (
        omega (arith, i.room.0, put.capacity.0),
        omega (arith, i.room.1, put.capacity.1),
        omega (arith, i.room.2, put.capacity.2),
      );
      old = λ j w got. i.old j w (front_at xs ws worker j w items got);
      back = both_more old.passes.items new.passes.items place.pass old.rests.items new.rests.items place.rest put.passes put.rests i.counts.0
          (λ k p rest. (j : ℕ) × (w : _) × (slice_get c.args.workers.now.items j ≡ Some w) × (k + (j + 1) ≡ length c.args.workers.now.items)
          × (w.desk.stepper.pass ≡ p) × (kept_of rest.jobs ≡ kept_of w.desk.jobs) × AreDrawn p.place.me.0.seen rest.jobs.waiting.callbacks)
          i.back (length xs, worker, here, omega (arith, i.all, w_more), sym rise.pass, rise.kept, rise.drawn);
      done = on_ok_weaker c.first_cut-done.result
          (λ both. λ j w got. ⊎_elim
          (λ there. ⊎_elim
          (λ front. inl front)
          (λ (l : (worker ≡ w) × (j ≡ length xs)). inr (sym (at_same worker w l.0 (λ v. v.cut)) ∙ (sym rise.cut ∙ both.1)))
          (of_longer xs ws worker j w items there))
          (λ none. inr none)
          (ok_at c.loop-worker.done tt _ i.done both.0 j w got))
          c.first_cut-done.ensures.ok;
      cut = λ why e. ⊎_elim
          (λ first. i.cut why first)
          (λ its. (length xs, worker, here, sym rise.cut ∙ its))
          (if_err_at c.first_cut-done.result why (λ v. (c.loop-worker.done ≡ Err v) ⊎ (c.rise-place.result.1 ≡ Some v)) c.first_cut-done.ensures.err e);
    }

pub returns-clause-counts : goal.returns-clause-counts
returns-clause-counts g c =
    let i = c.loop-worker.invariant in
    let e = c.in_default.ensures.cases in
    let none : c.loop-worker.workers.items ≡ [] = empty_of c.loop-worker.workers.items (omega (arith, c.loop-worker.workers.ok.0)) in
    let count : length c.loop-worker.crew.passes.items ≡ length c.args.workers.now.items = omega (arith, i.all, ap length none) in
    (count, i.counts.0 ∙ count, i.counts.1 ∙ count)

pub returns-clause-back : goal.returns-clause-back
returns-clause-back g c = c.loop-worker.invariant.back

pub returns-clause-done : goal.returns-clause-done
returns-clause-done g c =
    let e = c.in_default.ensures.cases in
    let none : c.loop-worker.workers.items ≡ [] = empty_of c.loop-worker.workers.items (omega (arith, c.loop-worker.workers.ok.0)) in
    on_ok_weaker c.loop-worker.done
    (λ all. λ j w got. ⊎_elim (λ there. absurd (nothing_got c.loop-worker.workers.items j w none there)) (λ cut. cut) (all j w got))
    c.loop-worker.invariant.done

pub returns-clause-cut : goal.returns-clause-cut
returns-clause-cut g c = c.loop-worker.invariant.cut
