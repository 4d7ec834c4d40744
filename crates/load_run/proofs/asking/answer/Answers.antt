use Rattle.std.proofs.Common.{ap, ◌∙◌, sym, subst}
use Rattle.wire_model.specs.Trees.{view}
use Rattle.bind_model.specs.Plain.{IsOf, asked_of}
use Rattle.bind_model.specs.declared.asked.Asked.{Asked}
use Rattle.bind_model.specs.declared.asked.Asked.TheVariants as asks
use Rattle.bind_model.specs.declared.endpoint.ResponderId.{ResponderId}
use Rattle.script_names.specs.Settling.{EndsWith}
use Rattle.load_run.specs.Commands.{alone}
use Rattle.load_run.specs.steps.Doing.{OneMore}
use Rattle.load_run.proofs.Replies.{taken_last}
use Rattle.load_run.proofs.asking.answer.Goals as goal

pub tell-core-requires-clause-prepared : goal.tell-core-requires-clause-prepared
tell-core-requires-clause-prepared c = subst (IsOf c.args.core.schema) (sym c.answer_of-command.ensures) c.requires.prepared

pub returns-in-Ok-clause-one : goal.returns-in-Ok-clause-one
returns-in-Ok-clause-one c = λ r ends.
    let told = rw c.in-Ok.is at c.tell-core.ensures.told in
    let p = c.args.prepared in
    let held = subst (λ rs. EndsWith r rs.others.items) (sym c.make_place.ensures.others) ends in
    let same = taken_last c.make_place.new.self.responders.others.items c.pop.new.self.items c.in-Some.responder r c.in-Some.ensures.items held in
    let asked = ap asked_of c.answer_of-command.ensures
    ∙ ap (λ (q : ResponderId). asks.Answer q (alone p.target (view p.value))) same in
    (told.0, subst (λ (a : Asked). OneMore c.args.seq a told.0 c.args.core c.tell-core.result.0) asked told.1)

pub returns-in-Ok-clause-rested : goal.returns-in-Ok-clause-rested
returns-in-Ok-clause-rested c = rw c.in-Ok.is at c.tell-core.ensures.rested
