use Rattle.compat_model.specs.Pairs.{field_pairs}
use Rattle.breaking_changes.proofs.Steps.{flat_step}
use Rattle.breaking_changes.proofs.fields.push_each.Goals as goal

pub loop-field-preserved : goal.loop-field-preserved
loop-field-preserved c =
    flat_step (field_pairs c.args.newer.now) c.loop-field.out.items c.push_field.new.out.items _ c.args.older.now c.loop-field.field-index
    c.field-item.result _ c.loop-field-test.true c.field-item.is c.loop-field.invariant c.in_ok-push_field.ensures
