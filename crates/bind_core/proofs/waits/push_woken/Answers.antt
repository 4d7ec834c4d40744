use Rattle.std.proofs.Common.{List, ◌++◌, ap, sym, ◌∙◌}
use Rattle.mj_base.specs.declared.ids.EndId.{EndId}
use Rattle.end_notices.proofs.Lines.{on_ok}
use Rattle.handle_table.specs.declared.thing.Thing.{Thing}
use Rattle.bind_core.specs.Causes.{all_for, gone_causes}
use Rattle.bind_core.proofs.Waking.{no_flush, one_cause}
use Rattle.bind_core.proofs.waits.push_woken.Goals as goal

pub returns-in-Some : goal.returns-in-Some
returns-in-Some c =
    on_ok c.push_for.result
    (λ e. e ∙ ap (λ (xs : List EndId). c.args.ends.now.items ++ xs)
    (sym (one_cause c.args.waiting.now c.args.event.now.told c.args.event.now.asked c.flush_of.result c.in-Some.cause c.flush_of.ensures c.in-Some.is)))
    c.push_for.ensures

pub returns-in-None : goal.returns-in-None
returns-in-None c =
    on_ok c.push_gone.result
    (λ e. e ∙ ap (λ (xs : List EndId). c.args.ends.now.items ++ xs)
    (ap (λ (things : List Thing). all_for c.args.waiting.now (gone_causes things)) c.gone_of.ensures
    ∙ sym (no_flush c.args.waiting.now c.args.event.now.told c.args.event.now.asked c.flush_of.result c.flush_of.ensures c.in-None.is)))
    c.push_gone.ensures
