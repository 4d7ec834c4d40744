use Rattle.std.proofs.Common.{sym, ap, ◌∙◌}
use Rattle.bind_model.specs.declared.asked.Asked.{Asked}
use Rattle.bind_model.specs.declared.told.Told.{Told}
use Rattle.bind_model.specs.declared.told.Told.TheVariants as tells
use Rattle.event_notes.specs.steps.Got.{response_of}
use Rattle.event_notes.proofs.notes.response_of.Goals as goal

pub returns-in-Take : goal.returns-in-Take
returns-in-Take c =
    c.answered_in.ensures
    ∙ (ap (λ (asked : Asked). response_of (tells.Taken c.in-Taken.got) asked) (sym c.in-Take.is)
    ∙ ap (λ (told : Told). response_of told c.args.event.now.asked) (sym c.in-Taken.is))
