use Rattle.std.proofs.Common.{sym, subst}
use Rattle.std.specs.Prelude.{is_some}
use Rattle.call_script.specs.declared.script.NameId.{NameId}
use Rattle.remote_receiver.specs.Held.{kept_of}
use Rattle.script_names.specs.declared.stands.Stands.{Stands}
use Rattle.script_run.specs.AtDesk.{seen_by}
use Rattle.script_run.specs.steps.Desks.{IsFull}
use Rattle.script_names.specs.Needs.{AreNames}
use Rattle.script_names.specs.Held.{held_at}
use Rattle.script_run.proofs.LineDone.{command_came, commands_done, memory_cut}
use Rattle.script_names.proofs.RoomsSettled.{have_all}
use Rattle.script_run.proofs.worker.do_command.Goals as goal

pub command_of-requires : goal.command_of-requires
command_of-requires g c =
    subst (λ (s : Stands). AreNames (λ (n : NameId). is_some (held_at s.things.items n)) c.args.line.now.command c.in-Ok.names)
    (sym c.make_place.ensures.same.stands) c.in-Ok.ensures

pub ask-requires-clause-prepared : goal.ask-requires-clause-prepared
ask-requires-clause-prepared g c = c.in-Ok-command_of.ensures.prepared (g.P.Stepper.schema c.args.desk.now.stepper) c.requires.line.read

pub returns-clause-did : goal.returns-clause-did
returns-clause-did g c =
    let s = g.P.Stepper in
    let ok = c.in-Ok-command_of in
    commands_done c.args.autos.now (seen_by s.schema s.seqs s.alone s.me s.seen c.args.desk.now.stepper)
    (seen_by s.schema s.seqs s.alone s.me s.seen c.ask.new.desk.stepper) (kept_of c.args.desk.now.jobs) (kept_of c.ask.new.desk.jobs)
    ok.command c.in_ok-reply.reply c.in_ok-reply.ensures.saw c.in_ok-reply.ensures.went c.args.line.now c.in-Ok.names c.args.rooms.now
    c.make_place.new.self c.command_of.new.rooms c.ask.new.rooms c.settle.new.rooms c.requires.line c.requires.names c.make_place.ensures.same
    c.in-Ok.ensures ok.ensures.asked ok.ensures.took ok.ensures.spends c.ask.ensures.held
    c.settle.result c.settle.ensures.found c.settle.ensures.settles c.settle.ensures.last

pub returns-clause-names : goal.returns-clause-names
returns-clause-names g c =
    have_all c.in-Ok.names c.in-Ok-command_of.command c.in_ok-reply.reply (λ found. is_some found) _ c.args.rooms.now c.make_place.new.self
    c.command_of.new.rooms c.ask.new.rooms c.settle.new.rooms c.requires.names c.make_place.ensures.same c.in-Ok-command_of.ensures.took
    c.ask.ensures.held c.settle.result c.settle.ensures.settles

pub returns-clause-cut : goal.returns-clause-cut
returns-clause-cut g c =
    let s = g.P.Stepper in
    memory_cut c.settle.result (IsFull (seen_by s.schema s.seqs s.alone s.me s.seen c.args.desk.now.stepper)
    (seen_by s.schema s.seqs s.alone s.me s.seen c.ask.new.desk.stepper)) c.settle.ensures.cut

pub returns-clause-came : goal.returns-clause-came
returns-clause-came g c =
    let s = g.P.Stepper in
    command_came c.settle.result (seen_by s.schema s.seqs s.alone s.me s.seen c.args.desk.now.stepper)
    (seen_by s.schema s.seqs s.alone s.me s.seen c.ask.new.desk.stepper) (kept_of c.args.desk.now.jobs) (kept_of c.ask.new.desk.jobs)
    c.in-Ok-command_of.command _ c.in_ok-reply.ensures.went c.args.line.now c.args.rooms.now c.make_place.new.self c.make_place.ensures.same
    c.in-Ok-command_of.ensures.asked
