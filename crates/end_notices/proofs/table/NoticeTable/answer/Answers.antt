use Rattle.std.proofs.Common.{◌<◌, refl, subst}
use Rattle.std.specs.Prelude.{Option}
use Rattle.end_notices.specs.Seen.{without_query}
use Rattle.end_notices.specs.Table.{seen_in}
use Rattle.end_notices.specs.declared.notices.Notices.{Notices}
use Rattle.end_notices.proofs.Lines.{found_line, lines_become, none_wait}
use Rattle.end_notices.proofs.table.NoticeTable.answer.Goals.{in-Some, in_default}
use Rattle.end_notices.proofs.table.NoticeTable.answer.Goals as goal

pub answer-requires : goal.answer-requires
answer-requires c =
    subst (λ (line : Option Notices). 0 < (seen_in line).queries c.args.id)
    (found_line c.self.inside.ends c.args.self.now c.args.end _ c.self.view_is c.in-Some.ensures.value) c.requires

pub returns : goal.returns
returns c = elim c.match-get_mut.branch [
  | in-Some w ↦ (λ x.
      rw (w.self-inside-is, ← c.self.view_is)
      (lines_become c.self.inside.ends (c.get_mut.follows.lender w.answer.new.self) c.args.end w.answer.new.self
      ((c.get_mut.follows.holds w.answer.new.self).3 (rw (← w.in-Some.ensures.value) refl)) w.in-Some.notices.now w.in-Some.ensures.value
      (without_query c.args.id) w.answer.ensures x))
  | in_default w ↦ absurd (none_wait c.self.inside.ends c.args.self.now c.args.end c.args.id c.self.view_is w.in_default.ensures.value c.requires)
]
