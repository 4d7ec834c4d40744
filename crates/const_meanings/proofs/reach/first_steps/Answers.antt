use Rattle.std.proofs.Common.{◌∙◌, ap}
use Rattle.const_meanings.specs.declared.origin.Origin.{Origin}
use Rattle.const_meanings.specs.steps.Reached.{step}
use Rattle.const_meanings.proofs.Reaching.{far_more, first_step}
use Rattle.const_meanings.proofs.reach.first_steps.Goals as goal

pub loop-number-preserved : goal.loop-number-preserved
loop-number-preserved c =
    let stepped = c.one_step.ensures ∙ ap (λ (o : Origin). step c.loop-number.number o) c.index-things-number.is in
    let one = first_step c.args.things.now c.loop-number.number _ c.one_step.result c.loop-number-test.true stepped in
    let before = c.loop-number.invariant in
    rw c.in_ok-push.ensures.items (far_more c.args.things.now 1 c.loop-number.number c.loop-number.reaches.items c.one_step.result before one)
