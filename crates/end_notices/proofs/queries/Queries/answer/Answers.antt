use Rattle.std.proofs.Common.{◌-◌, refl}
use Rattle.end_notices.proofs.Counts.{counted, none_waits}
use Rattle.end_notices.proofs.queries.Queries.answer.Goals.{in-Some, in_default}
use Rattle.end_notices.proofs.queries.Queries.answer.Goals as goal

pub returns : goal.returns
returns c = elim c.match-get_mut.branch [
  | in-Some w ↦ (λ n.
      rw (w.self-inside-is, ← c.count-less.ensures, ← c.self.view_is)
      (counted c.self.inside.counts (c.get_mut.follows.lender (c.count-less.result - 1)) c.args.id (c.count-less.result - 1)
      ((c.get_mut.follows.holds (c.count-less.result - 1)).3 (rw (← w.in-Some.ensures.value) refl)) n))
  | in_default w ↦ absurd (none_waits c.self.inside.counts c.args.self.now c.args.id c.self.view_is w.in_default.ensures.value c.requires.some)
]
