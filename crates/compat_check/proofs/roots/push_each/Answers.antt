use Rattle.std.proofs.Common.{refl}
use Rattle.compat_check.specs.steps.Roots.{root_if_stable}
use Rattle.breaking_changes.proofs.Steps.{flat_step}
use Rattle.compat_check.proofs.roots.push_each.Goals as goal

pub loop-definition-preserved : goal.loop-definition-preserved
loop-definition-preserved c =
    flat_step (root_if_stable c.args.old.now c.args.new.now.schema.now) c.loop-definition.out.items c.push_stable.new.out.items _
    c.args.definitions.now c.loop-definition.definition-index _ _ c.loop-definition-test.true refl
    c.loop-definition.invariant c.in_ok-push_stable.ensures
