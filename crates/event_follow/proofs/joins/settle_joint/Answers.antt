use Rattle.std.proofs.Common.{subst}
use Rattle.handle_table.specs.declared.thing.Thing.{Thing}
use Rattle.event_follow.specs.steps.Joining.{Come}
use Rattle.event_follow.proofs.Joining.{same_two}
use Rattle.event_follow.proofs.joins.settle_joint.Goals as goal

pub unreachable-requires : goal.unreachable-requires
unreachable-requires c = c.in-None.ensures.none c.requires.made.0 c.requires.made.1 c.requires.made.2

pub returns : goal.returns
returns c = λ x y told.
    let joint = c.args.joint in
    let old = c.args.places.now in
    let new = c.give_all.new.places in
    let first = c.in-Some.first in
    let second = c.in-Some.second in
    let same = same_two first second x y c.args.event.now.told c.in-Some.ensures.some told in
    subst (λ (z : Thing). Come joint z y old new) same.0
    (subst (λ (z : Thing). Come joint first z old new) same.1 c.give_all.ensures)
