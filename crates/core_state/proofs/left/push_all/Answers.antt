use Rattle.core_state.proofs.Leaving.{sequence_more}
use Rattle.core_state.proofs.left.push_all.Goals as goal

pub loop-seq-preserved : goal.loop-seq-preserved
loop-seq-preserved c =
    sequence_more c.args.sort c.args.places.now c.loop-seq.seq c.args.left.now.items c.loop-seq.left.items c.push_open.new.left.items
    c.loop-seq.invariant c.in_ok-push_open.ensures
