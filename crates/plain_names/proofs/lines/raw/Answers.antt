use Rattle.std.proofs.Common.{◌∙◌, false, true, refl, sym, None, Some}
use Rattle.std.proofs.lemmas.Result.{IfOk-weaker}
use Rattle.script_names.specs.Held.{held_at}
use Rattle.plain_names.proofs.Sending.{written_at}
use Rattle.plain_names.proofs.lines.raw.Goals as goal

pub returns-then-has_name-clause-asked : goal.returns-then-has_name-clause-asked
returns-then-has_name-clause-asked c =
    let held = held_at c.args.names.now.handles.items.items in
    written_at c.args.number c.args.name c.args.bytes.now held c.args.lists.now.handles.items c.as_slice-list.result.now
    c.as_slice-list.ensures.value true (held c.args.name) (sym c.has_name.ensures ∙ c.if-has_name.true) refl

pub returns-in-Some-clause-asked : goal.returns-in-Some-clause-asked
returns-in-Some-clause-asked c =
    let held = held_at c.args.names.now.handles.items.items in
    IfOk-weaker c.write.result _ _
    (λ command e. e
    ∙ written_at c.args.number c.args.name c.args.bytes.now held c.args.lists.now.handles.items c.as_slice-list.result.now
    c.as_slice-list.ensures.value false (Some c.in-Some.thing) (sym c.has_name.ensures ∙ c.if-has_name.false) (sym c.get.ensures ∙ c.in-Some.is))
    c.write.ensures.asked

pub returns-in-None-clause-asked : goal.returns-in-None-clause-asked
returns-in-None-clause-asked c =
    let held = held_at c.args.names.now.handles.items.items in
    written_at c.args.number c.args.name c.args.bytes.now held c.args.lists.now.handles.items c.as_slice-list.result.now
    c.as_slice-list.ensures.value false None (sym c.has_name.ensures ∙ c.if-has_name.false) (sym c.get.ensures ∙ c.in-None.is)
