use Rattle.std.proofs.Common.{List, ap, sym, ◌∙◌}
use Rattle.std.specs.Prelude.{Option}
use Rattle.mj_base.specs.declared.ids.EndId.{EndId}
use Rattle.handle_table.specs.declared.thing.Thing.{Thing}
use Rattle.bind_model.specs.declared.event.Event.{Event}
use Rattle.bind_core.specs.steps.FirstTaken.{least_among}
use Rattle.bind_core.specs.Takers.{ready_taker}
use Rattle.bind_core.specs.Causes.{all_for, gone_causes, woken}
use Rattle.bind_core.proofs.Waking.{no_flush, one_cause}
use Rattle.bind_core.proofs.waits.least_woken.Goals as goal

pub returns-in-Some-flush_of : goal.returns-in-Some-flush_of
returns-in-Some-flush_of c =
    let s = c.args.state.now in
    let lists = c.args.waiting.now in
    c.least_in.ensures
    ∙ (ap (λ (ends : List EndId). least_among (ready_taker s) c.args.found ends) (c.ends_for.ensures
    ∙ sym (one_cause lists c.in-Some.event.now.told c.in-Some.event.now.asked c.flush_of.result c.in-Some-flush_of.cause c.flush_of.ensures
    c.in-Some-flush_of.is))
    ∙ ap (λ (last : Option Event). least_among (ready_taker s) c.args.found (woken lists last)) c.in-Some.ensures)

pub returns-in-None : goal.returns-in-None
returns-in-None c =
    let s = c.args.state.now in
    let lists = c.args.waiting.now in
    c.least_gone.ensures
    ∙ (ap (λ (ends : List EndId). least_among (ready_taker s) c.args.found ends)
    (ap (λ (things : List Thing). all_for lists (gone_causes things)) c.gone_of.ensures
    ∙ sym (no_flush lists c.in-Some.event.now.told c.in-Some.event.now.asked c.flush_of.result c.flush_of.ensures c.in-None.is))
    ∙ ap (λ (last : Option Event). least_among (ready_taker s) c.args.found (woken lists last)) c.in-Some.ensures)
