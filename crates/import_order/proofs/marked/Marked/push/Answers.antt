use Rattle.std.proofs.Common.{sym}
use Rattle.import_order.proofs.Marks.{has_room, pushed}
use Rattle.import_order.proofs.marked.Marked.push.Goals as goal

pub returns-clause-room : goal.returns-clause-room
returns-clause-room c =
    has_room c.args.self.now c.self.inside.marks.items c.self.inside.numbers.items c.args.number (sym c.self.view_is) c.requires.below
    c.requires.fresh c.self.invariant

pub invariant_of-self-2 : goal.invariant_of-self-2
invariant_of-self-2 c =
    pushed c.args.self.now c.self.inside.marks.items c.self.inside.numbers.items c.push.new.self.items c.args.number (sym c.self.view_is)
    c.requires.below c.requires.fresh c.self.invariant c.in_ok-push.ensures.items
