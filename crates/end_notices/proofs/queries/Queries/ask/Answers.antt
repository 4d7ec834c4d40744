use Rattle.std.proofs.Common.{◌+◌, refl}
use Rattle.end_notices.proofs.Counts.{counted, no_place}
use Rattle.end_notices.proofs.queries.Queries.ask.Goals.{in-Some, in_default}
use Rattle.end_notices.proofs.queries.Queries.ask.Goals as goal

pub returns : goal.returns
returns c = elim c.match-get_mut.branch [
  | in-Some w ↦ (λ n.
      rw (w.self-inside-is, ← c.count-more.ensures, ← c.self.view_is)
      (counted c.self.inside.counts (c.get_mut.follows.lender (c.count-more.result + 1)) c.args.id (c.count-more.result + 1)
      ((c.get_mut.follows.holds (c.count-more.result + 1)).3 (rw (← w.in-Some.ensures.value) refl)) n))
  | in_default w ↦ absurd (no_place c.self.inside.counts c.args.self.now c.args.id c.self.view_is w.in_default.ensures.value c.requires.place)
]
