use Rattle.std.proofs.Common.{ap, ◌∙◌, sym, subst}
use Rattle.mj_base.specs.declared.ids.EndId.{EndId}
use Rattle.wire_model.specs.Trees.{view}
use Rattle.bind_model.specs.Plain.{IsOf, asked_of}
use Rattle.bind_model.specs.declared.asked.Asked.{Asked}
use Rattle.bind_model.specs.declared.asked.Asked.TheVariants as asks
use Rattle.load_run.specs.Commands.{alone}
use Rattle.load_run.specs.steps.Doing.{OneMore}
use Rattle.load_run.proofs.asking.call.Goals as goal

pub tell-core-requires-clause-prepared : goal.tell-core-requires-clause-prepared
tell-core-requires-clause-prepared c = subst (IsOf c.args.core.schema) (sym c.call_of-command.ensures) c.requires.prepared

pub returns-in-Ok-clause-one : goal.returns-in-Ok-clause-one
returns-in-Ok-clause-one c =
    let told = rw c.in-Ok.is at c.tell-core.ensures.told in
    let p = c.args.prepared in
    let asked = ap asked_of c.call_of-command.ensures
    ∙ ap (λ (end : EndId). asks.Call end 0 (alone p.target (view p.value))) c.end_of.ensures in
    (told.0, subst (λ (a : Asked). OneMore c.args.seq a told.0 c.args.core c.tell-core.result.0) asked told.1)

pub returns-in-Ok-clause-rested : goal.returns-in-Ok-clause-rested
returns-in-Ok-clause-rested c = rw c.in-Ok.is at c.tell-core.ensures.rested
