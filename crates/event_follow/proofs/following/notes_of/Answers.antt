use Rattle.std.proofs.Common.{List, ap, sym, true≢false, ◌∙◌}
use Rattle.std.proofs.lemmas.Result.{IfOk-weaker}
use Rattle.bind_model.specs.declared.event.Event.{Event}
use Rattle.callback_laws.specs.Callbacks.{callbacks}
use Rattle.event_follow.proofs.following.notes_of.Goals as goal

pub returns-then-not-whole : goal.returns-then-not-whole
returns-then-not-whole c = λ whole. absurd (true≢false (sym whole ∙ c.if-not-whole.true))

pub returns : goal.returns
returns c =
    IfOk-weaker c.callbacks.result _ _
    (λ notes is. λ whole. is ∙ ap (λ (events : List Event). callbacks c.args.machine.now.tables.seqs events) c.as_slice.ensures)
    c.callbacks.ensures
