use Rattle.std.proofs.Common.{◌∙◌, arith}
use Rattle.std.proofs.lemmas.Result.{on_ok_weaker}
use Rattle.load_run.proofs.Pairing.{one_longer}
use Rattle.load_run.proofs.pairs.reply.Goals as goal

pub hear-requires-clause-seqs : goal.hear-requires-clause-seqs
hear-requires-clause-seqs c =
    let one = (rw c.in-Ok.is at c.answer-core.ensures.one) c.requires.last.0 c.requires.last.1 in
    one.1.seqs ∙ c.requires.seqs

pub hear-requires-clause-schema : goal.hear-requires-clause-schema
hear-requires-clause-schema c =
    let one = (rw c.in-Ok.is at c.answer-core.ensures.one) c.requires.last.0 c.requires.last.1 in
    one.1.schema ∙ c.requires.schema

pub hear-requires-clause-rested : goal.hear-requires-clause-rested
hear-requires-clause-rested c = rw c.in-Ok.is at c.answer-core.ensures.rested

pub hear-requires-clause-few : goal.hear-requires-clause-few
hear-requires-clause-few c =
    let one = (rw c.in-Ok.is at c.answer-core.ensures.one) c.requires.last.0 c.requires.last.1 in
    omega (arith, one_longer _ _ one.0 c.args.core c.answer-core.result.0 one.1, c.requires.few)

pub returns-in-Ok-clause-both : goal.returns-in-Ok-clause-both
returns-in-Ok-clause-both c =
    on_ok_weaker c.hear.result.2
    (λ heard r ends. record {
      between = c.answer-core.result.0;
      answer = (rw c.in-Ok.is at c.answer-core.ensures.one) r ends;
      heard = heard;
    })
    c.hear.ensures.one
