use Rattle.std.proofs.Common.{◌∙◌, ◌++◌, ap}
use Rattle.std.proofs.lemmas.Result.{IfOk-weaker}
use Rattle.event_notes.proofs.Noting.{called_is}
use Rattle.event_notes.proofs.notes.note_event.Goals as goal

pub returns-clause-notes : goal.returns-clause-notes
returns-clause-notes c =
    let event = c.args.event.now in
    IfOk-weaker c.add_response.result _ _
    (λ done more later knows.
    c.in_ok-push_listed.ensures
    ∙ ap (λ notes. c.args.notes.now.items ++ notes)
    (c.note_of.ensures ∙ called_is c.args.answered.now later event.seq event.told event.asked knows))
    c.add_response.ensures
