use Rattle.std.proofs.Common.{arith, subst, sym}
use Rattle.std.proofs.lemmas.Result.{on_ok_weaker}
use Rattle.mj_schema.specs.declared.schema.Schema.{Schema}
use Rattle.wire_encoder.specs.Prepared.{IsPrepared}
use Rattle.load_run.proofs.OneMessage.{replied_goes, replied_stays}
use Rattle.load_run.proofs.sending.reply_with.Goals as goal

pub reply-requires-clause-prepared : goal.reply-requires-clause-prepared
reply-requires-clause-prepared c =
    let is = rw c.in-Some.is at c.requires.prepared in
    subst (λ (s : Schema). IsPrepared s c.in-Some.prepared) (sym c.requires.schema) is.prepared

pub reply-requires-clause-few : goal.reply-requires-clause-few
reply-requires-clause-few c = omega (arith, c.requires.few)

pub returns-in-Some-clause-replied : goal.returns-in-Some-clause-replied
returns-in-Some-clause-replied c =
    let is = rw c.in-Some.is at c.requires.prepared in
    on_ok_weaker c.reply.result.2
    (λ both r ends.
    replied_goes c.args.schema.now c.args.message c.args.targets c.requires.targets r c.in-Some.prepared c.args.core c.reply.result.0 is
    (both r ends))
    c.reply.ensures.both

pub returns-in-None-clause-replied : goal.returns-in-None-clause-replied
returns-in-None-clause-replied c = λ r ends.
    replied_stays c.args.schema.now c.args.message c.args.targets c.requires.targets r c.args.core (rw c.in-None.is at c.requires.prepared)
