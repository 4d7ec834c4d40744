use Rattle.const_eval.specs.Refused.{refused_union_field}
use Rattle.const_eval.specs.steps.Views.{site_at}
use Rattle.const_eval.proofs.Steps.{best_step}
use Rattle.const_eval.proofs.members.check_union_fields.Goals as goal

pub loop-field-preserved : goal.loop-field-preserved
loop-field-preserved c =
    best_step
    (refused_union_field (site_at c.args.consts.now c.args.place.now) c.args.place.now.enclosing)
    c.loop-field.best
    c.check_union_field.new.best
    _
    c.args.fields.now
    c.loop-field.field-index
    c.field-item.result
    _
    c.loop-field-test.true
    c.field-item.is
    c.loop-field.invariant
    c.in_ok-check_union_field.ensures
