use Rattle.history_text.specs.History.{left_line}
use Rattle.history_text.proofs.Lists.{line_next}
use Rattle.history_text.proofs.history.push_left.Goals as goal

pub loop-thing-preserved : goal.loop-thing-preserved
loop-thing-preserved c =
    line_next left_line c.args.out.now.items c.loop-thing.out.items _ c.args.left.now c.loop-thing.thing-index _ c.loop-thing-test.true
    c.loop-thing.invariant c.in_ok-push_left_line.ensures
