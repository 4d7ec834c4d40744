use Rattle.std.proofs.Common.{ap}
use Rattle.remote_receiver.specs.Held.{kept_of}
use Rattle.remote_receiver.proofs.Following.{did}
use Rattle.remote_receiver.proofs.desk.Desk.step.Goals as goal

pub invariant_of-self : goal.invariant_of-self
invariant_of-self g c = record { drawn = λ key w there. c.advance.new.self.drawn key w (c.tell_closed.ensures.part key w there) }

pub returns-clause-kept : goal.returns-clause-kept
returns-clause-kept g c =
    did g.C.Promise.promises c.args.command c.ended_by-ends.result c.in_ok-reply.reply _ _ _ c.requires.other c.ended_by-ends.ensures
    (ap kept_of c.in_ok-reply.ensures.jobs) c.tell_closed.ensures.kept
