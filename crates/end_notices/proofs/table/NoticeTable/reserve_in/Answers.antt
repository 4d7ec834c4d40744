use Rattle.std.proofs.Common.{ap, refl, ◌∙◌}
use Rattle.end_notices.specs.Table.{room_in}
use Rattle.end_notices.proofs.Lines.{lines_same, no_line, on_ok, stands}
use Rattle.end_notices.proofs.table.NoticeTable.reserve_in.Goals.{in-Some, in-None}
use Rattle.end_notices.proofs.table.NoticeTable.reserve_in.Goals as goal

pub returns-clause-same : goal.returns-clause-same
returns-clause-same c = elim c.match-get_mut.branch [
  | in-Some w ↦ (λ x.
      rw (w.self-inside-is, ← c.self.view_is)
      (lines_same c.self.inside.ends (c.get_mut.follows.lender w.reserve.new.self) c.args.end w.reserve.new.self
      ((c.get_mut.follows.holds w.reserve.new.self).3 (rw (← w.in-Some.ensures.value) refl)) w.in-Some.notices.now w.in-Some.ensures.value
      w.reserve.ensures.same x))
  | in-None w ↦ (λ x. rw (w.self-inside-is, c.get_mut.follows.holds-at-none, ← c.self.view_is) refl)
]

pub returns-clause-room : goal.returns-clause-room
returns-clause-room c = elim c.match-get_mut.branch [
  | in-Some w ↦
      rw (w.result-is, w.self-inside-is)
      (on_ok w.reserve.result
      (λ room. ap (room_in c.args.notice) (stands c.self.inside.ends (c.get_mut.follows.lender w.reserve.new.self) c.args.end w.reserve.new.self
      ((c.get_mut.follows.holds w.reserve.new.self).3 (rw (← w.in-Some.ensures.value) refl))) ∙ room)
      w.reserve.ensures.room)
  | in-None w ↦ absurd (no_line c.self.inside.ends c.args.self.now c.args.end c.self.view_is w.in-None.ensures.value c.requires)
]
