use Rattle.std.proofs.Common.{refl}
use Rattle.compat_model.specs.Pairs.{method_pairs}
use Rattle.breaking_changes.proofs.Steps.{flat_step}
use Rattle.breaking_changes.proofs.interfaces.push_each.Goals as goal

pub loop-ordinal-preserved : goal.loop-ordinal-preserved
loop-ordinal-preserved c =
    flat_step (method_pairs c.args.older.now c.args.newer.now) c.loop-ordinal.out.items c.push_method.new.out.items _
    c.args.ordinals.now c.loop-ordinal.ordinal-index _ 0 c.loop-ordinal-test.true refl c.loop-ordinal.invariant c.in_ok-push_method.ensures
