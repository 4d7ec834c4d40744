use Rattle.std.proofs.Common.{refl}
use Rattle.data_pipe.proofs.Tables.{moves, no_line, refuses}
use Rattle.data_pipe.proofs.table.DataTable.flow.Goals.{in-Some, in-None}
use Rattle.data_pipe.proofs.table.DataTable.flow.Goals as goal

pub returns-clause-ok : goal.returns-clause-ok
returns-clause-ok c = elim c.match-get_mut.branch [
  | in-Some w ↦
      rw (w.result-is, w.self-inside-is, ← c.self.view_is)
      (moves c.self.inside.pipes (c.get_mut.follows.lender w.flow.new.self) c.args.producer w.in-Some.pipe.now w.flow.new.self
      ((c.get_mut.follows.holds w.flow.new.self).3 (rw (← w.in-Some.ensures.value) refl)) w.in-Some.ensures.value
      w.flow.result c.args.gone c.args.flow.now w.flow.ensures.ok)
  | in-None w ↦ absurd (no_line c.self.inside.pipes c.args.self.now c.args.producer c.self.view_is w.in-None.ensures.value c.requires)
]

pub returns-clause-err : goal.returns-clause-err
returns-clause-err c = elim c.match-get_mut.branch [
  | in-Some w ↦
      rw (w.result-is, w.self-inside-is, ← c.self.view_is)
      (refuses c.self.inside.pipes (c.get_mut.follows.lender w.flow.new.self) c.args.producer w.in-Some.pipe.now w.flow.new.self
      ((c.get_mut.follows.holds w.flow.new.self).3 (rw (← w.in-Some.ensures.value) refl)) w.in-Some.ensures.value
      w.flow.result c.args.gone c.args.flow.now w.flow.ensures.err)
  | in-None w ↦ absurd (no_line c.self.inside.pipes c.args.self.now c.args.producer c.self.view_is w.in-None.ensures.value c.requires)
]

pub returns-clause-wants : goal.returns-clause-wants
returns-clause-wants c = elim c.match-get_mut.branch [
  | in-Some w ↦ rw w.result-is w.flow.ensures.wants
  | in-None w ↦ absurd (no_line c.self.inside.pipes c.args.self.now c.args.producer c.self.view_is w.in-None.ensures.value c.requires)
]
