use Rattle.std.proofs.Common.{refl}
use Rattle.endpoint_router.proofs.Keys.{counted_still, counts_set, not_counted}
use Rattle.endpoint_router.proofs.draws.Draws.set.Goals.{in-Some, in_default}
use Rattle.endpoint_router.proofs.draws.Draws.set.Goals as goal

pub returns-clause-counts : goal.returns-clause-counts
returns-clause-counts c = elim c.match-get_mut.branch [
  | in-Some w ↦ (λ x.
      rw (w.self-inside-is, ← c.self.view_is)
      (counts_set c.self.inside.counts (c.get_mut.follows.lender c.args.count) c.args.end c.args.count
      ((c.get_mut.follows.holds c.args.count).3 (rw (← w.in-Some.ensures.value) refl)) x))
  | in_default w ↦ absurd (not_counted c.self.inside.counts c.args.self.now c.args.end c.self.view_is w.in_default.ensures.value c.requires)
]

pub returns-clause-keeps : goal.returns-clause-keeps
returns-clause-keeps c = elim c.match-get_mut.branch [
  | in-Some w ↦ (λ x.
      rw (w.self-inside-is, ← c.self.view_is)
      (counted_still c.self.inside.counts (c.get_mut.follows.lender c.args.count) c.args.end c.args.count
      ((c.get_mut.follows.holds c.args.count).3 (rw (← w.in-Some.ensures.value) refl)) x))
  | in_default w ↦ absurd (not_counted c.self.inside.counts c.args.self.now c.args.end c.self.view_is w.in_default.ensures.value c.requires)
]
