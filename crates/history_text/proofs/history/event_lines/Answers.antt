use Rattle.std.proofs.Common.{◌∙◌, refl}
use Rattle.history_text.proofs.Lists.{lines_more}
use Rattle.history_text.proofs.history.event_lines.Goals as goal

pub loop-number-preserved : goal.loop-number-preserved
loop-number-preserved c =
    c.in_ok-push_event.ensures
    ∙ rw (
      c.loop-number.invariant,
      lines_more c.args.schema.now c.args.events.now c.loop-number.number c.index-events-number.result c.loop-number-test.true,
      ← c.index-events-number.is,
    ) refl
