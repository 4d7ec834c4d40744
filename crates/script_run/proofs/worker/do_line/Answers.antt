use Rattle.std.proofs.Common.{◌∙◌, ap, sym}
use Rattle.std.proofs.lemmas.Result.{on_ok_weaker}
use Rattle.std.specs.Prelude.{length}
use Rattle.std.specs.Option.{option_copied}
use Rattle.remote_receiver.specs.Held.{kept_of}
use Rattle.script_names.specs.Asking.{asked_by}
use Rattle.script_run.specs.AtDesk.{seen_by}
use Rattle.script_names.specs.Held.{names_in}
use Rattle.script_run.proofs.Later.{most_came, on_err}
use Rattle.script_run.proofs.LineDone.{came_behind, cut_behind, line_alone, line_replied, reply_last, reply_read}
use Rattle.script_run.proofs.worker.do_line.Goals as goal

pub answer-requires-clause-reply : goal.answer-requires-clause-reply
answer-requires-clause-reply g c =
    let s = g.P.Stepper in
    let did = c.in_ok-reply.ensures.did in
    reply_read c.args.autos.now (seen_by s.schema s.seqs s.alone s.me s.seen c.args.desk.now.stepper)
    (seen_by s.schema s.seqs s.alone s.me s.seen c.do_command.new.desk.stepper)
    (asked_by (names_in c.args.rooms.now) c.args.line.now) did.told c.in-Some.reply.now
    c.do_command.new.rooms.responders.others.items did.went.same (sym (ap option_copied c.in-Some.is) ∙ did.found) did.last c.requires.autos

pub answer-requires-clause-last : goal.answer-requires-clause-last
answer-requires-clause-last g c =
    let s = g.P.Stepper in
    let did = c.in_ok-reply.ensures.did in
    reply_last c.args.autos.now (seen_by s.schema s.seqs s.alone s.me s.seen c.args.desk.now.stepper)
    (seen_by s.schema s.seqs s.alone s.me s.seen c.do_command.new.desk.stepper)
    (asked_by (names_in c.args.rooms.now) c.args.line.now) did.told c.in-Some.reply.now
    c.do_command.new.rooms.responders.others.items did.went.same (sym (ap option_copied c.in-Some.is) ∙ did.found) did.last

pub returns-in-Some-clause-cut : goal.returns-in-Some-clause-cut
returns-in-Some-clause-cut g c =
    let s = g.P.Stepper in
    let did = c.in_ok-reply.ensures.did in
    cut_behind c.args.autos.now (seen_by s.schema s.seqs s.alone s.me s.seen c.args.desk.now.stepper)
    (seen_by s.schema s.seqs s.alone s.me s.seen c.do_command.new.desk.stepper) (kept_of c.args.desk.now.jobs)
    (kept_of c.do_command.new.desk.jobs) c.in-Some.reply.now
    c.do_command.new.rooms.responders.others.items (asked_by (names_in c.args.rooms.now) c.args.line.now) did.told did.went
    (sym (ap option_copied c.in-Some.is) ∙ did.found) did.last
    (seen_by s.schema s.seqs s.alone s.me s.seen c.answer.new.desk.stepper) c.answer.result c.answer.ensures.cut

pub returns-in-Some-clause-did : goal.returns-in-Some-clause-did
returns-in-Some-clause-did g c =
    let s = g.P.Stepper in
    line_replied c.args.autos.now (seen_by s.schema s.seqs s.alone s.me s.seen c.args.desk.now.stepper)
    (seen_by s.schema s.seqs s.alone s.me s.seen c.do_command.new.desk.stepper) (kept_of c.args.desk.now.jobs)
    (kept_of c.do_command.new.desk.jobs) c.in-Some.reply.now
    c.do_command.new.rooms.responders.others.items c.args.line.now (names_in c.args.rooms.now) (names_in c.do_command.new.rooms) (names_in c.answer.new.rooms)
    (option_copied c.in_ok-reply.field-0) (ap option_copied c.in-Some.is) c.in_ok-reply.ensures.did
    (seen_by s.schema s.seqs s.alone s.me s.seen c.answer.new.desk.stepper)
    (kept_of c.answer.new.desk.jobs) c.answer.result c.answer.ensures.went c.answer.ensures.names

pub returns-in-Some-clause-names : goal.returns-in-Some-clause-names
returns-in-Some-clause-names g c =
    on_ok_weaker c.answer.result (λ have. have (length c.args.rooms.now.stands.things.items) c.in_ok-reply.ensures.names) c.answer.ensures.have

pub returns-in-None-clause-did : goal.returns-in-None-clause-did
returns-in-None-clause-did g c =
    let s = g.P.Stepper in
    line_alone c.args.autos.now (seen_by s.schema s.seqs s.alone s.me s.seen c.args.desk.now.stepper)
    (seen_by s.schema s.seqs s.alone s.me s.seen c.do_command.new.desk.stepper) (kept_of c.args.desk.now.jobs) (kept_of c.do_command.new.desk.jobs)
    c.do_command.new.rooms.responders.others.items (option_copied c.in_ok-reply.field-0) (ap option_copied c.in-None.is) c.args.line.now
    (names_in c.args.rooms.now) (names_in c.do_command.new.rooms) c.in_ok-reply.ensures.did

pub returns-in-Some-clause-came : goal.returns-in-Some-clause-came
returns-in-Some-clause-came g c =
    let s = g.P.Stepper in
    let did = c.in_ok-reply.ensures.did in
    came_behind c.args.autos.now (seen_by s.schema s.seqs s.alone s.me s.seen c.args.desk.now.stepper)
    (seen_by s.schema s.seqs s.alone s.me s.seen c.do_command.new.desk.stepper) (asked_by (names_in c.args.rooms.now) c.args.line.now) did.told
    c.in-Some.reply.now c.do_command.new.rooms.responders.others.items did.went.same (sym (ap option_copied c.in-Some.is) ∙ did.found) did.last c.answer.result
    (seen_by s.schema s.seqs s.alone s.me s.seen c.answer.new.desk.stepper) (kept_of c.args.desk.now.jobs) (kept_of c.do_command.new.desk.jobs) did.went
    c.answer.ensures.came

pub returns-in_err-reply-clause-came : goal.returns-in_err-reply-clause-came
returns-in_err-reply-clause-came g c =
    let s = g.P.Stepper in
    on_err c.from_residual.result
    (most_came c.args.autos.now (asked_by (names_in c.args.rooms.now) c.args.line.now)
    (seen_by s.schema s.seqs s.alone s.me s.seen c.args.desk.now.stepper) (seen_by s.schema s.seqs s.alone s.me s.seen c.do_command.new.desk.stepper)
    c.in_err-reply.ensures.came)
