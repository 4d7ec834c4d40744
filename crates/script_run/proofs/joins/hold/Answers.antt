use Rattle.script_run.proofs.Joining.{come_spared}
use Rattle.script_run.proofs.joins.hold.Goals as goal

pub returns-clause-come : goal.returns-clause-come
returns-clause-come c x y e =
    come_spared c.args.joint x y c.args.rooms.now c.make_room.new.rooms c.give_both.new.rooms c.make_room.ensures.same (c.give_both.ensures x y e)
