use Rattle.std.proofs.Common.{ap, ◌∙◌, sym}
use Rattle.mj_schema.specs.declared.schema.Schema.{Schema}
use Rattle.bind_model.specs.WireOf.{wire_of}
use Rattle.remote_receiver.specs.Held.{kept_of}
use Rattle.script_run.specs.AtDesk.{job_of_method, seen_by}
use Rattle.script_run.proofs.Serving.{call_served, is_other, other_served}
use Rattle.script_run.proofs.commands.serve.Goals as goal

pub returns-in-Call-clause-served : goal.returns-in-Call-clause-served
returns-in-Call-clause-served g c =
    let s = g.P.Stepper in
    let same = c.call.ensures.same in
    rw c.answered_as.ensures
    (call_served (seen_by s.schema s.seqs s.alone s.me s.seen c.args.desk.now.stepper) (seen_by s.schema s.seqs s.alone s.me s.seen c.call.new.self.stepper)
    (kept_of c.args.desk.now.jobs) (kept_of c.call.new.self.jobs)
    (record { schema = same.0; seqs = same.1; alone = same.2; me = same.3 })
    c.in-Call.end c.in-Call.id c.in-Call.prepared c.in-Call.handles c.in-Call.pendings c.in-Call.moment c.args.command c.job_for-job.result
    (c.job_for-job.ensures ∙ ap (λ (known : Schema). job_of_method (wire_of known) c.in-Call.prepared.target) (sym c.requires.schema))
    c.call.result c.in-Call.is c.call.ensures.event c.call.ensures.kept c.call.ensures.refused c.call.ensures.unsent)

pub returns-in_default-clause-served : goal.returns-in_default-clause-served
returns-in_default-clause-served g c =
    let s = g.P.Stepper in
    let same = c.step.ensures.same in
    other_served (seen_by s.schema s.seqs s.alone s.me s.seen c.args.desk.now.stepper) (seen_by s.schema s.seqs s.alone s.me s.seen c.step.new.self.stepper)
    (kept_of c.args.desk.now.jobs) (kept_of c.step.new.self.jobs)
    (record { schema = same.0; seqs = same.1; alone = same.2; me = same.3 })
    c.args.command c.step.result (is_other c.args.command c.in_default.not-Call c.in_default.not-Take)
    c.step.ensures.event c.step.ensures.kept c.step.ensures.refused c.step.ensures.unmoved
