use Rattle.std.proofs.Common.{sym, arith}
use Rattle.handle_table.proofs.NumberedLemmas.{put-changed, unchanged-past}
use Rattle.message_pipe.specs.Ends.{shut}
use Rattle.pipe_runs.proofs.end_list.EndList.shut.Goals as goal

pub returns-then-at-len : goal.returns-then-at-len
returns-then-at-len c = rw (← c.self.view_is) (put-changed shut c.args.number c.self.inside.items.items c.index_mut.result.now c.shut.new.self
    (omega (arith, c.self.inside.items.ok, c.len.ensures, c.if-at-len.true)) c.index_mut.ensures.value c.shut.ensures)

pub returns-else-at-len : goal.returns-else-at-len
returns-else-at-len c = rw (← c.self.view_is) (sym (unchanged-past shut c.args.number c.self.inside.items.items
    (omega (arith, c.self.inside.items.ok, c.len.ensures, c.if-at-len.false))))
