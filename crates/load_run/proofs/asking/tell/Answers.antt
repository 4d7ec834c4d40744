use Rattle.std.proofs.Common.{◌∙◌}
use Rattle.std.proofs.lemmas.Result.{IfOk-weaker}
use Rattle.bind_model.specs.Plain.{told_of}
use Rattle.load_run.proofs.Events.{on_any}
use Rattle.load_run.proofs.asking.tell.Goals as goal

pub settle-requires-clause-places : goal.settle-requires-clause-places
settle-requires-clause-places c = rw c.in-Ok.is at c.ask-core.ensures.places

pub settle-requires-clause-room : goal.settle-requires-clause-room
settle-requires-clause-room c = rw c.in-Ok.is at c.ask-core.ensures.room

pub returns-in-Ok-clause-told : goal.returns-in-Ok-clause-told
returns-in-Ok-clause-told c =
    let one = rw c.in-Ok.is at c.ask-core.ensures.one in
    let hands = rw c.in-Ok.is at c.ask-core.ensures.responders in
    IfOk-weaker c.settle.result _ _ (λ found h. (told_of c.in-Ok.reply, one, h ∙ hands)) c.settle.ensures.found

pub returns-in-Ok-clause-rested : goal.returns-in-Ok-clause-rested
returns-in-Ok-clause-rested c = on_any c.settle.result (rw c.in-Ok.is at c.ask-core.ensures.rested)
