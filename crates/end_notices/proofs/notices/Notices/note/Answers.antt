use Rattle.std.proofs.Common.{ap, ◌∙◌, sym}
use Rattle.bind_model.specs.declared.asked.Notice.{Notice}
use Rattle.end_notices.specs.Seen.{seen_of, with_notice}
use Rattle.end_notices.proofs.notices.Notices.note.Goals as goal

pub ask-requires-clause-place : goal.ask-requires-clause-place
ask-requires-clause-place c = rw c.in-Query.is at c.requires.room

pub ask-requires-clause-few : goal.ask-requires-clause-few
ask-requires-clause-few c = c.requires.queries c.in-Query.id

pub returns-in-Query : goal.returns-in-Query
returns-in-Query c =
    (λ i. record (seen_of c.args.self.now) { queries = λ n. c.ask.ensures n i })
    ∙ sym (ap (λ (notice : Notice). with_notice notice (seen_of c.args.self.now)) c.in-Query.is)
