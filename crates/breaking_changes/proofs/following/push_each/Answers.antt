use Rattle.std.proofs.Common.{refl}
use Rattle.compat_model.specs.declared.pair.Pair.TheVariants.{Structs}
use Rattle.compat_model.specs.Pairs.{follows}
use Rattle.breaking_changes.proofs.Steps.{flat_step}
use Rattle.breaking_changes.proofs.following.push_each.Goals as goal

pub loop-pair-preserved : goal.loop-pair-preserved
loop-pair-preserved c =
    flat_step (follows c.args.old.now c.args.new.now) c.loop-pair.out.items c.push_following.new.out.items _ c.args.pairs.now c.loop-pair.pair-index _
    (Structs 0 0) c.loop-pair-test.true refl c.loop-pair.invariant c.in_ok-push_following.ensures
