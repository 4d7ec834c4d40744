use Rattle.const_eval.specs.Refused.{refused_struct_member}
use Rattle.const_eval.specs.steps.Views.{site_at}
use Rattle.const_eval.proofs.Steps.{best_step}
use Rattle.const_eval.proofs.members.check_struct_members.Goals as goal

pub loop-member-preserved : goal.loop-member-preserved
loop-member-preserved c =
    best_step
    (refused_struct_member (site_at c.args.consts.now c.args.place.now) c.args.place.now.enclosing)
    c.loop-member.best
    c.check_struct_member.new.best
    _
    c.args.members.now
    c.loop-member.member-index
    c.member-item.result
    _
    c.loop-member-test.true
    c.member-item.is
    c.loop-member.invariant
    c.in_ok-check_struct_member.ensures
