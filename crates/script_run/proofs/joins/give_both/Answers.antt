use Rattle.std.proofs.Common.{◌∙◌, subst, sym}
use Rattle.handle_table.specs.declared.thing.Thing.{Thing}
use Rattle.script_run.specs.steps.Joints.{Gave}
use Rattle.script_run.specs.Rooms.{Come}
use Rattle.script_run.proofs.Joining.{come_both, two_popped}
use Rattle.script_run.proofs.joins.give_both.Goals as goal

pub returns : goal.returns
returns c x y e =
    let joint = c.args.joint in
    let same = two_popped c.pop-2.new.self.items c.pop.new.self.items c.in-Some-pop.first c.in-Some.second x y
    (sym e ∙ (sym c.into_vec-left.ensures ∙ c.in-Some.ensures.items)) c.in-Some-pop.ensures.items in
    come_both joint x y c.args.rooms.now c.give.new.rooms c.give-2.new.rooms
    (subst (λ (z : Thing). Come (Gave joint.other joint.second z) c.args.rooms.now c.give.new.rooms) same.1 c.give.ensures)
    (subst (λ (z : Thing). Come (Gave joint.seq joint.first z) c.give.new.rooms c.give-2.new.rooms) same.0 c.give-2.ensures)
