use Rattle.std.proofs.Common.{◌∙◌}
use Rattle.end_notices.specs.Seen.{with_wait}
use Rattle.end_notices.proofs.Lines.{on_err, on_ok}
use Rattle.end_notices.proofs.Quieting.{becomes_after}
use Rattle.end_notices.proofs.table.NoticeTable.wait.Goals as goal

pub returns-clause-ok : goal.returns-clause-ok
returns-clause-ok c =
    on_ok c.wait_in.result (becomes_after (with_wait c.args.wait) c.args.end c.args.self.now c.place.new.self c.wait_in.new.self c.place.ensures.same)
    c.wait_in.ensures.ok

pub returns-clause-err : goal.returns-clause-err
returns-clause-err c = on_err c.wait_in.result (λ same x. same x ∙ c.place.ensures.same x) c.wait_in.ensures.err
