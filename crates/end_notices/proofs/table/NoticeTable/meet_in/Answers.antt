use Rattle.std.proofs.Common.{refl}
use Rattle.end_notices.specs.Seen.{with_met}
use Rattle.end_notices.proofs.Lines.{lines_become, lines_same, no_line, on_err, on_ok}
use Rattle.end_notices.proofs.table.NoticeTable.meet_in.Goals.{in-Some, in-None}
use Rattle.end_notices.proofs.table.NoticeTable.meet_in.Goals as goal

pub returns-clause-ok : goal.returns-clause-ok
returns-clause-ok c = elim c.match-get_mut.branch [
  | in-Some w ↦
      rw (w.result-is, w.self-inside-is, ← c.self.view_is)
      (on_ok w.meet.result
      (λ e. λ x.
      lines_become c.self.inside.ends (c.get_mut.follows.lender w.meet.new.self) c.args.end w.meet.new.self
      ((c.get_mut.follows.holds w.meet.new.self).3 (rw (← w.in-Some.ensures.value) refl)) w.in-Some.notices.now w.in-Some.ensures.value
      (with_met c.args.flush) e x)
      w.meet.ensures.ok)
  | in-None w ↦ absurd (no_line c.self.inside.ends c.args.self.now c.args.end c.self.view_is w.in-None.ensures.value c.requires)
]

pub returns-clause-err : goal.returns-clause-err
returns-clause-err c = elim c.match-get_mut.branch [
  | in-Some w ↦
      rw (w.result-is, w.self-inside-is, ← c.self.view_is)
      (on_err w.meet.result
      (λ e. λ x.
      lines_same c.self.inside.ends (c.get_mut.follows.lender w.meet.new.self) c.args.end w.meet.new.self
      ((c.get_mut.follows.holds w.meet.new.self).3 (rw (← w.in-Some.ensures.value) refl)) w.in-Some.notices.now w.in-Some.ensures.value e x)
      w.meet.ensures.err)
  | in-None w ↦ absurd (no_line c.self.inside.ends c.args.self.now c.args.end c.self.view_is w.in-None.ensures.value c.requires)
]
