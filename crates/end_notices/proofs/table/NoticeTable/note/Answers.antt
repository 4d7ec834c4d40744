use Rattle.std.proofs.Common.{◌<◌, ℕ, refl, subst}
use Rattle.std.specs.Prelude.{IsTrue, Option}
use Rattle.mj_base.specs.declared.limits.TheConstants.{MAX_EVENTS}
use Rattle.end_notices.specs.Seen.{with_notice}
use Rattle.end_notices.specs.Table.{room_in, seen_in}
use Rattle.end_notices.specs.declared.notices.Notices.{Notices}
use Rattle.end_notices.proofs.Lines.{found_line, lines_become, no_room}
use Rattle.end_notices.proofs.table.NoticeTable.note.Goals.{in-Some, in_default}
use Rattle.end_notices.proofs.table.NoticeTable.note.Goals as goal

pub note-requires-clause-room : goal.note-requires-clause-room
note-requires-clause-room c =
    subst (λ (line : Option Notices). IsTrue (room_in c.args.notice line))
    (found_line c.self.inside.ends c.args.self.now c.args.end _ c.self.view_is c.in-Some.ensures.value) c.requires.room

pub note-requires-clause-queries : goal.note-requires-clause-queries
note-requires-clause-queries c =
    subst (λ (line : Option Notices). (id : ℕ) → (seen_in line).queries id < MAX_EVENTS)
    (found_line c.self.inside.ends c.args.self.now c.args.end _ c.self.view_is c.in-Some.ensures.value) c.requires.queries

pub note-requires-clause-flushes : goal.note-requires-clause-flushes
note-requires-clause-flushes c =
    subst (λ (line : Option Notices). (seen_in line).flushes < MAX_EVENTS)
    (found_line c.self.inside.ends c.args.self.now c.args.end _ c.self.view_is c.in-Some.ensures.value) c.requires.flushes

pub returns : goal.returns
returns c = elim c.match-get_mut.branch [
  | in-Some w ↦ (λ x.
      rw (w.self-inside-is, ← c.self.view_is)
      (lines_become c.self.inside.ends (c.get_mut.follows.lender w.note.new.self) c.args.end w.note.new.self
      ((c.get_mut.follows.holds w.note.new.self).3 (rw (← w.in-Some.ensures.value) refl)) w.in-Some.notices.now w.in-Some.ensures.value
      (with_notice c.args.notice) w.note.ensures x))
  | in_default w ↦ absurd (no_room c.self.inside.ends c.args.self.now c.args.end c.args.notice c.self.view_is w.in_default.ensures.value c.requires.room)
]
