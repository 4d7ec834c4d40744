use Rattle.bind_core.proofs.SoleStepper.{saw_alone}
use Rattle.load_run.proofs.seat.SeatStepper.step.Goals as goal

pub returns-clause-event : goal.returns-clause-event
returns-clause-event c =
    saw_alone c.args.self.now.core.schema c.args.self.now.core.seqs c.args.self.now.seq c.args.self.now.core.events
    c.step.new.self.events c.args.command c.step.result c.requires.seq c.step.ensures.event c.step.ensures.told c.step.ensures.back
    c.step.ensures.responders c.step.ensures.pendings c.step.ensures.room
