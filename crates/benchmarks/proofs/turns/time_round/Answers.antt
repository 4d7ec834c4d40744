use Rattle.std.proofs.Common.{◌≡◌, ◌<◌, ◌∙◌, get_or, sym, subst, arith, Some}
use Rattle.std.proofs.lemmas.Option.{slice_get-get_or}
use Rattle.turn_lock.specs.Passing.{IsOf}
use Rattle.threaded_run.proofs.Places.{there_at}
use Rattle.benchmarks.proofs.Kept.{all_kept}
use Rattle.benchmarks.proofs.turns.time_round.Goals as goal

pub take_all-requires-clause-at : goal.take_all-requires-clause-at
take_all-requires-clause-at g c κs within k d below =
    let passes = c.in-Ok.passes.items in
    (c.in-Ok.ensures.passes.1 k (get_or passes k d) (slice_get-get_or passes k d below)).1.0.0

pub close-requires-clause-some : goal.close-requires-clause-some
close-requires-clause-some g c = subst (λ n. 0 < n) (sym c.in-Ok.ensures.turn.1) c.requires.some

pub close-requires-clause-passes : goal.close-requires-clause-passes
close-requires-clause-passes g c k q got =
    (all_kept c.in-Ok.passes.items c.take_all.new.passes.items
    (λ j p. (p.number ≡ j) × IsOf c.in-Ok.turn.board.shared.table_id (Some tt) p.place.table_id p.place.me) c.take_all.ensures.len
    (λ j p has. let f = c.in-Ok.ensures.passes.1 j p has in (f.0, f.1.0))
    (λ j d below f. let e = c.take_all.ensures.each j d below in (e.0 ∙ f.0, (e.1.0 ∙ f.1.0, e.1.1 ∙ f.1.1))) k q got).1

pub close-requires-clause-all : goal.close-requires-clause-all
close-requires-clause-all g c n below =
    let few : n < c.args.threads = subst (λ m. n < m) c.in-Ok.ensures.turn.1 below in
    let t = there_at c.take_all.new.passes.items n (omega (arith, few, c.in-Ok.ensures.passes.0, c.take_all.ensures.len)) in (
      n,
      t.0,
      t.1,
      (all_kept c.in-Ok.passes.items c.take_all.new.passes.items (λ j p. p.number ≡ j) c.take_all.ensures.len
          (λ j p has. (c.in-Ok.ensures.passes.1 j p has).0) (λ j d below f. (c.take_all.ensures.each j d below).0 ∙ f) n t.0 t.1),
    )
