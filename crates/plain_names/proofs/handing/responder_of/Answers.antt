use Rattle.std.proofs.Common.{sym, ap, ◌∙◌}
use Rattle.bind_model.specs.Replies.{responders_handed}
use Rattle.bind_model.specs.WireOf.{wire_of}
use Rattle.bind_model.specs.declared.asked.Asked.{Asked}
use Rattle.bind_model.specs.declared.told.Told.{Told}
use Rattle.bind_model.specs.declared.told.Told.TheVariants as tells
use Rattle.plain_names.proofs.handing.responder_of.Goals as goal

pub returns-in-Take : goal.returns-in-Take
returns-in-Take c =
    let wire = wire_of c.args.schema.now in
    c.right_in.ensures
    ∙ (ap (λ (asked : Asked). responders_handed wire (tells.Taken c.in-Taken.got) asked) (sym c.in-Take.is)
    ∙ ap (λ (told : Told). responders_handed wire told c.args.event.now.asked) (sym c.in-Taken.is))
