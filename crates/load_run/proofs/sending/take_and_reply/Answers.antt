use Rattle.std.proofs.Common.{◌∙◌, arith}
use Rattle.std.proofs.lemmas.Result.{on_ok_weaker}
use Rattle.load_run.proofs.Pairing.{one_longer}
use Rattle.load_run.proofs.OneMessage.{took_all}
use Rattle.load_run.proofs.sending.take_and_reply.Goals as goal

pub receive-core-requires-clause-few : goal.receive-core-requires-clause-few
receive-core-requires-clause-few c = omega (arith, c.requires.few)

pub reply_if-requires-clause-seqs : goal.reply_if-requires-clause-seqs
reply_if-requires-clause-seqs c = let took = rw c.in-Ok.is at c.receive-core.ensures.took in took.1.seqs ∙ c.requires.seqs

pub reply_if-requires-clause-schema : goal.reply_if-requires-clause-schema
reply_if-requires-clause-schema c = let took = rw c.in-Ok.is at c.receive-core.ensures.took in took.1.schema ∙ c.requires.schema

pub reply_if-requires-clause-rested : goal.reply_if-requires-clause-rested
reply_if-requires-clause-rested c = rw c.in-Ok.is at c.receive-core.ensures.rested

pub reply_if-requires-clause-few : goal.reply_if-requires-clause-few
reply_if-requires-clause-few c =
    let took = rw c.in-Ok.is at c.receive-core.ensures.took in
    omega (arith, one_longer _ _ took.0 c.args.core c.receive-core.result.0 took.1, c.requires.few)

pub reply_if-requires-clause-last : goal.reply_if-requires-clause-last
reply_if-requires-clause-last c = rw c.in-Ok.is at c.receive-core.ensures.last

pub returns-in-Ok-clause-taken : goal.returns-in-Ok-clause-taken
returns-in-Ok-clause-taken c =
    let took = rw c.in-Ok.is at c.receive-core.ensures.took in
    on_ok_weaker c.reply_if.result.2
    (took_all c.args.schema.now c.args.message c.args.targets c.requires.targets c.args.core c.receive-core.result.0 c.reply_if.result.0
    c.in-Ok.found c.requires.schema took)
    c.reply_if.ensures.replied
