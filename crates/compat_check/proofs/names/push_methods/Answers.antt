use Rattle.compat_check.specs.steps.Names.{method_structs}
use Rattle.breaking_changes.proofs.Steps.{flat_step}
use Rattle.compat_check.proofs.names.push_methods.Goals as goal

pub loop-method-preserved : goal.loop-method-preserved
loop-method-preserved c =
    flat_step method_structs c.loop-method.out.items c.push_method.new.out.items _
    c.args.methods.now c.loop-method.method-index c.method-item.result _ c.loop-method-test.true c.method-item.is
    c.loop-method.invariant c.in_ok-push_method.ensures
