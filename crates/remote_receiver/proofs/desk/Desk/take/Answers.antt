use Rattle.std.proofs.Common.{ap}
use Rattle.remote_receiver.specs.Held.{kept_of}
use Rattle.remote_receiver.proofs.Following.{took}
use Rattle.remote_receiver.proofs.Newest.{newest_seen}
use Rattle.remote_receiver.proofs.desk.Desk.take.Goals as goal

pub tell_taken-requires : goal.tell_taken-requires
tell_taken-requires g c =
    let s = c.args.self.now.stepper in
    record {
      newest = newest_seen (g.P.Stepper.schema s) (g.P.Stepper.seqs s) (g.P.Stepper.alone s) (g.P.Stepper.me s) _ (g.P.Stepper.seen s) _ _
          c.in_ok-reply.reply c.in_ok-reply.ensures.same.3 c.in_ok-reply.ensures.event;
    }

pub invariant_of-self : goal.invariant_of-self
invariant_of-self g c = record { drawn = λ key w there. c.advance.new.self.drawn key w (c.tell_taken.ensures.part key w there) }

pub returns-clause-kept : goal.returns-clause-kept
returns-clause-kept g c =
    took g.C.Promise.promises c.args.end c.in_ok-reply.reply c.tell_taken.result _ _ _ c.tell_taken.ensures.same (ap kept_of c.in_ok-reply.ensures.jobs)
    c.tell_taken.ensures.kept
