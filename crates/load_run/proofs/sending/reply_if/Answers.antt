use Rattle.std.proofs.lemmas.Result.{on_ok_weaker}
use Rattle.load_run.specs.steps.Doing.{RepliedIf}
use Rattle.std.proofs.Common.{Option, subst, sym}
use Rattle.bind_model.specs.declared.endpoint.ResponderId.{ResponderId}
use Rattle.load_run.proofs.OneMessage.{replied_none, replied_some}
use Rattle.load_run.proofs.sending.reply_if.Goals as goal

pub reply_to-requires-clause-last : goal.reply_to-requires-clause-last
reply_to-requires-clause-last c = (c.in-Some._responder, rw c.in-Some.is at c.requires.last)

pub returns-in-Some-clause-replied : goal.returns-in-Some-clause-replied
returns-in-Some-clause-replied c =
    let last = rw c.in-Some.is at c.requires.last in
    on_ok_weaker c.reply_to.result.2
    (λ replied. subst (λ (o : Option ResponderId). RepliedIf c.args.schema.now c.args.message o c.args.core c.reply_to.result.0) (sym c.in-Some.is)
    (replied_some c.args.schema.now c.args.message c.args.targets c.requires.targets c.args.core c.reply_to.result.0 c.in-Some._responder
    (replied c.in-Some._responder last)))
    c.reply_to.ensures.replied

pub returns-in-None-clause-replied : goal.returns-in-None-clause-replied
returns-in-None-clause-replied c =
    subst (λ (o : Option ResponderId). RepliedIf c.args.schema.now c.args.message o c.args.core c.args.core) (sym c.in-None.is)
    (replied_none c.args.schema.now c.args.message c.args.targets c.requires.targets c.args.core)
