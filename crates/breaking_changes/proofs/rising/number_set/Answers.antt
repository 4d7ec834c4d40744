use Rattle.std.specs.Ordering.{nat_cmp}
use Rattle.breaking_changes.proofs.Sets.{one_more}
use Rattle.breaking_changes.proofs.rising.number_set.Goals as goal

pub loop-number-preserved : goal.loop-number-preserved
loop-number-preserved c =
    one_more nat_cmp c.args.numbers.now c.loop-number.number-index 0 _ _ c.loop-number-test.true c.in_ok-note.ensures c.loop-number.invariant
