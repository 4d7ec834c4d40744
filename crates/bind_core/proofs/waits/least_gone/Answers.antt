use Rattle.std.proofs.Common.{◌+◌, List, drop, ap, sym, ◌∙◌}
use Rattle.std.specs.Prelude.{Option}
use Rattle.mj_base.specs.declared.ids.EndId.{EndId}
use Rattle.mj_base.specs.declared.ids.SeqId.{SeqId}
use Rattle.handle_table.specs.declared.thing.Thing.TheVariants.{End}
use Rattle.bind_core.specs.steps.FirstTaken.{least_among}
use Rattle.bind_core.specs.Takers.{ready_taker}
use Rattle.bind_core.specs.Causes.{all_for, ends_for, gone_cause, gone_causes}
use Rattle.bind_core.proofs.Leastness.{least_append}
use Rattle.bind_core.proofs.Waking.{gone_end, gone_token}
use Rattle.bind_core.proofs.waits.least_gone.Goals as goal
use Rattle.bind_core.proofs.waits.least_gone.Goals.{in-End, in_default}

pub loop-thing-preserved : goal.loop-thing-preserved
loop-thing-preserved c =
    let takes = ready_taker c.args.state.now in
    let lists = c.args.waiting.now in
    let things = c.args.things.now in
    let n = c.loop-thing.thing-index in
    let rest = all_for lists (gone_causes (drop (n + 1) things)) in
    elim c.match-thing.branch [
      | in-End w ↦
          ap (λ (found : Option (SeqId × EndId)). least_among takes found rest)
          (w.least-is
          ∙ (w.least_in-least.ensures
          ∙ ap (λ (ends : List EndId). least_among takes c.loop-thing.least ends) (w.ends_for.ensures ∙ ap (ends_for lists) w.gone.ensures)))
          ∙ (sym (least_append takes (ends_for lists (gone_cause w.in-End.end)) rest c.loop-thing.least)
          ∙ (sym (ap (λ (ends : List EndId). least_among takes c.loop-thing.least ends)
          (gone_end lists things n (End (record { seq = 0; serial = 0 })) c.loop-thing-test.true w.in-End.end w.in-End.is))
          ∙ c.loop-thing.invariant))
      | in_default w ↦
          ap (λ (found : Option (SeqId × EndId)). least_among takes found rest) w.least-is
          ∙ (sym (ap (λ (ends : List EndId). least_among takes c.loop-thing.least ends)
          (gone_token lists things n (End (record { seq = 0; serial = 0 })) c.loop-thing-test.true w.in_default.field-0 w.in_default.is))
          ∙ c.loop-thing.invariant)
    ]
