use Rattle.std.proofs.Common.{refl}
use Rattle.compat_model.specs.Verdicts.{root_pairs}
use Rattle.breaking_changes.proofs.Steps.{flat_step}
use Rattle.compat_check.proofs.roots.push_roots.Goals as goal

pub loop-root-preserved : goal.loop-root-preserved
loop-root-preserved c =
    flat_step root_pairs c.loop-root.out.items c.push_root.new.out.items _ c.args.roots.now c.loop-root.root-index _ _
    c.loop-root-test.true refl c.loop-root.invariant c.in_ok-push_root.ensures
