use Rattle.const_eval.specs.Refused.{refused_parameter}
use Rattle.const_eval.specs.steps.Views.{site_at}
use Rattle.const_eval.proofs.Steps.{best_step}
use Rattle.const_eval.proofs.members.check_each_parameter.Goals as goal

pub loop-parameter-preserved : goal.loop-parameter-preserved
loop-parameter-preserved c =
    best_step
    (refused_parameter (site_at c.args.consts.now c.args.place.now) c.args.place.now.enclosing)
    c.loop-parameter.best
    c.check_parameter.new.best
    _
    c.args.parameters.now
    c.loop-parameter.parameter-index
    c.parameter-item.result
    _
    c.loop-parameter-test.true
    c.parameter-item.is
    c.loop-parameter.invariant
    c.in_ok-check_parameter.ensures
