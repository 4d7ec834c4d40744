use Rattle.std.proofs.Common.{◌∙◌}
use Rattle.module_resolver.proofs.MarkedLengths.{grown}
use Rattle.module_resolver.proofs.lengths.mark.Goals as goal

pub loop-lengths-preserved : goal.loop-lengths-preserved
loop-lengths-preserved c = λ k. rw c.in_ok-push.ensures.items (grown c.loop-lengths.lengths.items k ∙ c.loop-lengths.invariant k)
