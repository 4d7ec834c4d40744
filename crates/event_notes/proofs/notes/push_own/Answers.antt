use Rattle.std.proofs.Common.{◌∙◌, ◌++◌, ap}
use Rattle.std.specs.Prelude.{reverse}
use Rattle.std.proofs.lemmas.List.{reverse-reverse}
use Rattle.std.proofs.lemmas.Result.{IfOk-weaker}
use Rattle.bind_model.specs.Seen.{own_of}
use Rattle.callback_laws.specs.Callbacks.{callbacks_in}
use Rattle.event_notes.proofs.notes.push_own.Goals as goal

pub returns : goal.returns
returns c =
    let back = c.in_ok-push_back.ensures ∙ ap (λ notes. notes ++ reverse (callbacks_in (own_of c.args.seq c.args.events.now))) c.new-own.ensures.items in
    IfOk-weaker c.push_turned.result _ _
    (λ done e. e ∙ ap (λ notes. c.args.notes.now.items ++ notes) (ap reverse back ∙ reverse-reverse (callbacks_in (own_of c.args.seq c.args.events.now))))
    c.push_turned.ensures
