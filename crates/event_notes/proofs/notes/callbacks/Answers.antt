use Rattle.event_notes.proofs.Noting.{callbacks_more}
use Rattle.event_notes.proofs.notes.callbacks.Goals as goal

pub loop-seq-preserved : goal.loop-seq-preserved
loop-seq-preserved c =
    callbacks_more c.args.events.now c.loop-seq.seq c.loop-seq.notes.items c.push_own.new.notes.items c.loop-seq.invariant c.in_ok-push_own.ensures
