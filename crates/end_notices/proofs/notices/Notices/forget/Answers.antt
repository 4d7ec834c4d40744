use Rattle.std.proofs.Common.{List, ap}
use Rattle.end_notices.specs.Seen.{seen_of}
use Rattle.end_notices.specs.declared.waits.Wait.{Wait}
use Rattle.end_notices.proofs.notices.Notices.forget.Goals as goal

pub returns : goal.returns
returns c = ap (λ (waits : List Wait). record (seen_of c.args.self.now) { waits = waits }) c.forget.ensures
