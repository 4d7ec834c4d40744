use Rattle.std.proofs.Common.{refl}
use Rattle.end_notices.specs.Seen.{without_wait}
use Rattle.end_notices.proofs.Lines.{lines_absent, lines_become}
use Rattle.end_notices.proofs.table.NoticeTable.forget.Goals.{in-Some, in_default}
use Rattle.end_notices.proofs.table.NoticeTable.forget.Goals as goal

pub returns : goal.returns
returns c = elim c.match-get_mut.branch [
  | in-Some w ↦ (λ x.
      rw (w.self-inside-is, ← c.self.view_is)
      (lines_become c.self.inside.ends (c.get_mut.follows.lender w.forget.new.self) c.args.end w.forget.new.self
      ((c.get_mut.follows.holds w.forget.new.self).3 (rw (← w.in-Some.ensures.value) refl)) w.in-Some.notices.now w.in-Some.ensures.value
      without_wait w.forget.ensures x))
  | in_default w ↦ (λ x.
      rw (w.self-inside-is, c.get_mut.follows.holds-at-none, ← c.self.view_is)
      (lines_absent c.self.inside.ends c.args.end w.in_default.ensures.value x))
]
