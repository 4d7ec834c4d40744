use Rattle.end_notices.specs.Seen.{seen_of}
use Rattle.end_notices.proofs.notices.Notices.reserve.Goals as goal

pub returns-in-Query-clause-same : goal.returns-in-Query-clause-same
returns-in-Query-clause-same c = λ i. record (seen_of c.args.self.now) { queries = λ n. c.reserve.ensures.same n i }
