use Rattle.compat_check.specs.steps.Names.{structs_in}
use Rattle.breaking_changes.proofs.Steps.{flat_step}
use Rattle.compat_check.proofs.names.push_interfaces.Goals as goal

pub loop-row-preserved : goal.loop-row-preserved
loop-row-preserved c =
    flat_step structs_in c.loop-row.out.items c.push_interface.new.out.items _
    c.args.interfaces.now c.loop-row.row-index c.row-item.result _ c.loop-row-test.true c.row-item.is
    c.loop-row.invariant c.in_ok-push_interface.ensures
