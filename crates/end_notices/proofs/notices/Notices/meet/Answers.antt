use Rattle.std.proofs.Common.{ap}
use Rattle.std.specs.BTreeSet.{BTreeSet}
use Rattle.std.specs.Prelude.{ℕ}
use Rattle.end_notices.specs.Seen.{seen_of}
use Rattle.end_notices.proofs.Lines.{on_err, on_ok}
use Rattle.end_notices.proofs.notices.Notices.meet.Goals as goal

pub returns-clause-ok : goal.returns-clause-ok
returns-clause-ok c = on_ok c.meet.result (λ e. λ i. record (seen_of c.args.self.now) { met = λ k. e k i }) c.meet.ensures.ok

pub returns-clause-err : goal.returns-clause-err
returns-clause-err c =
    on_err c.meet.result (ap (λ (met : BTreeSet ℕ). seen_of (record c.args.self.now { met = met }))) c.meet.ensures.err
