use Rattle.remote_receiver.proofs.Drawing.{drawn_stepped}
use Rattle.remote_receiver.proofs.desk.Desk.advance.Goals as goal

pub invariant_of-self : goal.invariant_of-self
invariant_of-self g c =
    let s = c.args.self.now.stepper in
    record {
      drawn = drawn_stepped (g.P.Stepper.schema s) (g.P.Stepper.seqs s) (g.P.Stepper.alone s) (g.P.Stepper.me s) (g.P.Stepper.seen s) _ c.args.command _
          c.step.result c.step.ensures.event c.step.ensures.refused c.args.self.now.drawn;
    }
