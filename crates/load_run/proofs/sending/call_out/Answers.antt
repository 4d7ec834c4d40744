use Rattle.std.proofs.Common.{◌∙◌, arith, subst, sym}
use Rattle.std.proofs.lemmas.Result.{on_ok_weaker}
use Rattle.mj_schema.specs.declared.schema.Schema.{Schema}
use Rattle.wire_encoder.specs.Prepared.{IsPrepared}
use Rattle.load_run.proofs.Pairing.{one_longer}
use Rattle.load_run.proofs.OneMessage.{went_goes}
use Rattle.load_run.proofs.sending.call_out.Goals as goal

pub call-core-requires-clause-prepared : goal.call-core-requires-clause-prepared
call-core-requires-clause-prepared c = subst (λ (s : Schema). IsPrepared s c.args.prepared) (sym c.requires.schema) c.requires.prepared.prepared

pub call-core-requires-clause-few : goal.call-core-requires-clause-few
call-core-requires-clause-few c = omega (arith, c.requires.few)

pub take_and_reply-requires-clause-seqs : goal.take_and_reply-requires-clause-seqs
take_and_reply-requires-clause-seqs c = let one = rw c.in-Ok.is at c.call-core.ensures.one in one.1.seqs ∙ c.requires.seqs

pub take_and_reply-requires-clause-schema : goal.take_and_reply-requires-clause-schema
take_and_reply-requires-clause-schema c = let one = rw c.in-Ok.is at c.call-core.ensures.one in one.1.schema ∙ c.requires.schema

pub take_and_reply-requires-clause-rested : goal.take_and_reply-requires-clause-rested
take_and_reply-requires-clause-rested c = rw c.in-Ok.is at c.call-core.ensures.rested

pub take_and_reply-requires-clause-few : goal.take_and_reply-requires-clause-few
take_and_reply-requires-clause-few c =
    let one = rw c.in-Ok.is at c.call-core.ensures.one in
    omega (arith, one_longer _ _ one.0 c.args.core c.call-core.result.0 one.1, c.requires.few)

pub returns-in-Ok-clause-went : goal.returns-in-Ok-clause-went
returns-in-Ok-clause-went c =
    on_ok_weaker c.take_and_reply.result.2
    (went_goes c.args.schema.now c.args.message c.args.targets c.requires.targets c.args.prepared c.args.core c.call-core.result.0
    c.take_and_reply.result.0 c.requires.prepared (rw c.in-Ok.is at c.call-core.ensures.one))
    c.take_and_reply.ensures.taken
