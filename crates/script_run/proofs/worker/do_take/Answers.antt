use Rattle.bind_model.specs.declared.asked.Asked.TheVariants as asks
use Rattle.remote_receiver.specs.Held.{kept_of}
use Rattle.script_run.specs.AtDesk.{seen_by}
use Rattle.script_run.specs.steps.Desks.{IsFull}
use Rattle.script_run.proofs.Later.{went_most}
use Rattle.script_run.proofs.LineDone.{memory_cut, takes_done}
use Rattle.script_run.proofs.worker.do_take.Goals as goal

pub returns-clause-did : goal.returns-clause-did
returns-clause-did g c =
    let s = g.P.Stepper in
    takes_done c.args.autos.now c.args.end (seen_by s.schema s.seqs s.alone s.me s.seen c.args.desk.now.stepper)
    (seen_by s.schema s.seqs s.alone s.me s.seen c.ask.new.desk.stepper) (kept_of c.args.desk.now.jobs) (kept_of c.ask.new.desk.jobs)
    c.in_ok-reply.reply c.in_ok-reply.ensures.saw c.in_ok-reply.ensures.went c.settle.new.rooms c.settle.result c.settle.ensures.found
    c.settle.ensures.last

pub returns-clause-cut : goal.returns-clause-cut
returns-clause-cut g c =
    let s = g.P.Stepper in
    memory_cut c.settle.result (IsFull (seen_by s.schema s.seqs s.alone s.me s.seen c.args.desk.now.stepper)
    (seen_by s.schema s.seqs s.alone s.me s.seen c.ask.new.desk.stepper)) c.settle.ensures.cut

pub returns-clause-came : goal.returns-clause-came
returns-clause-came g c =
    let s = g.P.Stepper in
    went_most c.settle.result (seen_by s.schema s.seqs s.alone s.me s.seen c.args.desk.now.stepper)
    (seen_by s.schema s.seqs s.alone s.me s.seen c.ask.new.desk.stepper) (kept_of c.args.desk.now.jobs) (kept_of c.ask.new.desk.jobs)
    (asks.Take c.args.end) _ c.in_ok-reply.ensures.went
