use Rattle.std.proofs.Common.{List, ap}
use Rattle.end_notices.specs.Seen.{seen_of}
use Rattle.end_notices.specs.declared.waits.Wait.{Wait}
use Rattle.end_notices.proofs.Lines.{on_err, on_ok}
use Rattle.end_notices.proofs.notices.Notices.wait.Goals as goal

pub returns-clause-ok : goal.returns-clause-ok
returns-clause-ok c = on_ok c.push.result (ap (λ (waits : List Wait). record (seen_of c.args.self.now) { waits = waits })) c.push.ensures.ok

pub returns-clause-err : goal.returns-clause-err
returns-clause-err c = on_err c.push.result (ap (λ (waits : List Wait). record (seen_of c.args.self.now) { waits = waits })) c.push.ensures.err
