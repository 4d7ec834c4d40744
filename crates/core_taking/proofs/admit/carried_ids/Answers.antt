use Rattle.core_taking.proofs.CarriedIds.{more_carried}
use Rattle.core_taking.proofs.admit.carried_ids.Goals as goal

pub loop-k-preserved : goal.loop-k-preserved
loop-k-preserved c =
    more_carried c.args.bytes.now c.loop-k.ids.items c.push.new.self.items c.args.span.start c.loop-k.k c.le32.result c.loop-k.invariant c.le32.ensures
    c.in_ok-push.ensures.items
