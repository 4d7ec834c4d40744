use Rattle.std.proofs.Common.{[], refl, sym, ◌∙◌}
use Rattle.bind_model.specs.declared.commands.Command.TheVariants as commands
use Rattle.bind_model.specs.declared.commands.Reply.TheVariants as replies
use Rattle.bind_model.specs.declared.commands.ToClose.TheVariants as close
use Rattle.core_sending.proofs.Replied.{closing_done, closing_refused}
use Rattle.event_tables.specs.AsCore.{state_of}
use Rattle.event_tables.proofs.Stepping.{steps_of}
use Rattle.event_tables.proofs.closing.close_responder.Goals as goal

pub refuse-requires-clause-why : goal.refuse-requires-clause-why
refuse-requires-clause-why c =
    closing_refused (state_of c.args.tables.now) c.args.seq c.requires c.args.id (sym c.is_out.ensures ∙ c.if-not-is_out.true)

pub remove-requires : goal.remove-requires
remove-requires c = sym c.is_out.ensures ∙ c.if-not-is_out.false

pub returns : goal.returns
returns c =
    let s = state_of c.args.tables.now in
    steps_of s _ c.args.seq (commands.Close (close.Responder c.args.id)) (replies.Closed [])
    (closing_done s c.args.seq c.requires c.args.id _ (sym c.is_out.ensures ∙ c.if-not-is_out.false)
    refl refl refl refl refl refl c.remove.ensures c.new.result [] c.new.ensures refl c.push_reserved.ensures.events)
