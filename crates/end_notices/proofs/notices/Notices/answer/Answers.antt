use Rattle.end_notices.specs.Seen.{seen_of}
use Rattle.end_notices.proofs.notices.Notices.answer.Goals as goal

pub returns : goal.returns
returns c = λ i. record (seen_of c.args.self.now) { queries = λ n. c.answer.ensures n i }
