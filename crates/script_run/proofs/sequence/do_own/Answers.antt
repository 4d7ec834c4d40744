use Rattle.std.proofs.Common.{◌≡◌, true, ap, sym, ◌∙◌}
use Rattle.remote_receiver.specs.Held.{kept_of}
use Rattle.script_run.specs.AtDesk.{seen_by}
use Rattle.script_names.specs.Held.{names_in}
use Rattle.script_run.specs.Order.{is_own}
use Rattle.script_run.proofs.AllLines.{line_same}
use Rattle.script_run.proofs.Later.{on_err}
use Rattle.script_run.proofs.sequence.do_own.Goals as goal

pub returns-clause-same : goal.returns-clause-same
returns-clause-same g c =
    let s = g.P.Stepper in
    line_same c.args.autos.now c.args.line.now (seen_by s.schema s.seqs s.alone s.me s.seen c.args.desk.now.stepper)
    (seen_by s.schema s.seqs s.alone s.me s.seen c.do_line.new.desk.stepper) (kept_of c.args.desk.now.jobs) (kept_of c.do_line.new.desk.jobs)
    (names_in c.args.rooms.now) (names_in c.do_line.new.rooms) c.in_ok-do_line.ensures.did

pub returns-in_err-do_line-clause-came : goal.returns-in_err-do_line-clause-came
returns-in_err-do_line-clause-came g c =
    let mine : is_own (g.P.Stepper.me c.args.desk.now.stepper) c.args.line.now ≡ true =
    ap (λ q. is_own q c.args.line.now) (sym (c.seq-seq.ensures ∙ ap g.P.Stepper.me c.stepper.ensures))
    ∙ (sym c.is_mine.ensures ∙ c.if-not-is_mine.false) in
    on_err c.from_residual.result (mine, c.in_err-do_line.ensures.came)
