use Rattle.std.proofs.Common.{◌≡◌, ◌∙◌, List, ap, refl, subst, arith, length, take, take_all, Some}
use Rattle.std.specs.Prelude.{filter, slice_get}
use Rattle.std.proofs.lemmas.Option.{slice_get_read}
use Rattle.call_script.specs.declared.script.AutoReply.{AutoReply}
use Rattle.call_script.specs.declared.script.Line.{Line}
use Rattle.remote_receiver.specs.Held.{kept_of}
use Rattle.script_names.specs.Asking.{asked_by}
use Rattle.script_run.specs.Order.{is_own}
use Rattle.script_run.specs.AtDesk.{seen_by}
use Rattle.script_names.specs.Held.{HaveNames, names_in}
use Rattle.script_run.specs.steps.Desks.{CameTo}
use Rattle.script_run.specs.steps.Working.{DidOwn}
use Rattle.script_run.proofs.AllLines.{part_more, worked_all, worked_more}
use Rattle.script_run.proofs.Gates.{at_most_one, calls_all, calls_cut, calls_more, steps_more}
use Rattle.script_run.specs.Working.{CutWork}
use Rattle.script_run.proofs.Later.{later_then, on_err}
use Rattle.script_run.proofs.sequence.work_on.Goals as goal

pub loop-line-preserved : goal.loop-line-preserved
loop-line-preserved g c =
    let s = g.P.Stepper in
    let i = c.loop-line.invariant in
    let script = c.args.script.now in
    let items = c.as_slice-line-items.result.now in
    let line : Line = c.line-item.result in
    let k = c.loop-line.line-index in
    let here : slice_get c.args.script.now.lines k ≡ Some line =
    rw c.as_slice-line-items.ensures at (slice_get_read items (length items) k line refl c.loop-line-test.true c.line-item.is) in
    let did =
    subst (λ (autos : List AutoReply). DidOwn (is_own (s.me c.loop-line.desk.stepper) line) autos line
    (seen_by s.schema s.seqs s.alone s.me s.seen c.loop-line.desk.stepper) (seen_by s.schema s.seqs s.alone s.me s.seen c.do_own.new.desk.stepper)
    (kept_of c.loop-line.desk.jobs) (kept_of c.do_own.new.desk.jobs) (names_in c.loop-line.rooms) (names_in c.do_own.new.rooms))
    c.as_slice-autos.ensures c.in_ok-number.ensures.did in
    record {
      same = record {
        schema = c.in_ok-number.ensures.same.schema ∙ i.same.schema;
        seqs = c.in_ok-number.ensures.same.seqs ∙ i.same.seqs;
        alone = c.in_ok-number.ensures.same.alone ∙ i.same.alone;
        me = c.in_ok-number.ensures.same.me ∙ i.same.me;
      };
      home = c.do_own.ensures.home ∙ i.home;
      later = later_then (seen_by s.schema s.seqs s.alone s.me s.seen c.args.desk.now.stepper)
          (seen_by s.schema s.seqs s.alone s.me s.seen c.loop-line.desk.stepper) (seen_by s.schema s.seqs s.alone s.me s.seen c.do_own.new.desk.stepper)
          i.later c.do_own.ensures.later;
      have = subst (λ k. HaveNames k c.do_own.new.rooms) i.have.stands c.in_ok-number.ensures.names;
      few =
          let one = at_most_one (is_own (s.me c.loop-line.desk.stepper) line) in
          let number = c.in_ok-number.ensures.number in
          omega (arith, i.few, number, one);
      steps = steps_more script k line here (s.me c.args.desk.now.stepper) (s.me c.loop-line.desk.stepper) i.same.me c.loop-line.number
          c.in_ok-number.number i.steps c.in_ok-number.ensures.number;
      calls = calls_more (g.G.Gate.calls c.args.gate.now) (g.G.Gate.calls c.loop-line.gate) (g.G.Gate.calls c.do_own.new.gate) line
          (s.me c.args.desk.now.stepper) (s.me c.loop-line.desk.stepper) i.same.me c.loop-line.number c.in_ok-number.number i.calls
          c.in_ok-number.ensures.number c.in_ok-number.ensures.gate;
      did = λ after_joins named.
          worked_more script after_joins k line here (seen_by s.schema s.seqs s.alone s.me s.seen c.args.desk.now.stepper)
          (seen_by s.schema s.seqs s.alone s.me s.seen c.loop-line.desk.stepper) (seen_by s.schema s.seqs s.alone s.me s.seen c.do_own.new.desk.stepper) i.same
          (kept_of c.args.desk.now.jobs) (kept_of c.loop-line.desk.jobs) (kept_of c.do_own.new.desk.jobs) (names_in c.loop-line.rooms)
          (names_in c.do_own.new.rooms) (i.did after_joins named) did;
    }

pub returns-clause-works : goal.returns-clause-works
returns-clause-works g c =
    let s = g.P.Stepper in
    let at = c.args.desk.now.stepper in
    let i = c.loop-line.invariant in
    let script = c.args.script.now in
    let all : take c.loop-line.line-index script.lines ≡ script.lines =
    take_all c.loop-line.line-index script.lines (omega (arith, ap length c.as_slice-line-items.ensures)) in
    record {
      same = i.same;
      have = i.have;
      did = λ after_joins named.
          worked_all script after_joins (s.schema at) (s.me at) (s.seen at) (s.seen c.loop-line.desk.stepper) (kept_of c.args.desk.now.jobs)
          (kept_of c.loop-line.desk.jobs) (names_in c.loop-line.rooms) (rw all at (i.did after_joins named));
    }

pub returns-clause-gate : goal.returns-clause-gate
returns-clause-gate g c =
    let s = g.P.Stepper in
    let at = c.args.desk.now.stepper in
    let i = c.loop-line.invariant in
    let script = c.args.script.now in
    let all : take c.loop-line.line-index script.lines ≡ script.lines =
    take_all c.loop-line.line-index script.lines (omega (arith, ap length c.as_slice-line-items.ensures)) in
    calls_all script (g.G.Gate.calls c.args.gate.now) (g.G.Gate.calls c.loop-line.gate) (s.me at) c.loop-line.number
    (i.steps ∙ ap (λ (lines : List Line). length (filter (is_own (s.me at)) lines)) all) i.calls

pub returns-in_err-number-clause-later : goal.returns-in_err-number-clause-later
returns-in_err-number-clause-later g c =
    let s = g.P.Stepper in
    later_then (seen_by s.schema s.seqs s.alone s.me s.seen c.args.desk.now.stepper)
    (seen_by s.schema s.seqs s.alone s.me s.seen c.loop-line.desk.stepper) (seen_by s.schema s.seqs s.alone s.me s.seen c.do_own.new.desk.stepper)
    c.loop-line.invariant.later c.do_own.ensures.later

pub returns-in_err-number-clause-part : goal.returns-in_err-number-clause-part
returns-in_err-number-clause-part g c =
    let s = g.P.Stepper in
    let i = c.loop-line.invariant in
    let script = c.args.script.now in
    let items = c.as_slice-line-items.result.now in
    let line : Line = c.line-item.result in
    let k = c.loop-line.line-index in
    let here : slice_get c.args.script.now.lines k ≡ Some line =
    rw c.as_slice-line-items.ensures at (slice_get_read items (length items) k line refl c.loop-line-test.true c.line-item.is) in
    let came =
    subst (λ (autos : List AutoReply). CameTo autos (asked_by (names_in c.loop-line.rooms) line)
    (seen_by s.schema s.seqs s.alone s.me s.seen c.loop-line.desk.stepper) (seen_by s.schema s.seqs s.alone s.me s.seen c.do_own.new.desk.stepper))
    c.as_slice-autos.ensures c.in_err-number.ensures.came.1 in
    let cut : CutWork script (seen_by s.schema s.seqs s.alone s.me s.seen c.args.desk.now.stepper)
    (seen_by s.schema s.seqs s.alone s.me s.seen c.do_own.new.desk.stepper) c.args.rooms.now =
    λ after_joins named. part_more script after_joins k line here (seen_by s.schema s.seqs s.alone s.me s.seen c.args.desk.now.stepper)
    (seen_by s.schema s.seqs s.alone s.me s.seen c.loop-line.desk.stepper) (seen_by s.schema s.seqs s.alone s.me s.seen c.do_own.new.desk.stepper) i.same
    (kept_of c.args.desk.now.jobs) (kept_of c.loop-line.desk.jobs) (names_in c.loop-line.rooms) (i.did after_joins named)
    c.in_err-number.ensures.came.0 came in
    on_err c.from_residual.result cut

pub returns-in_err-number-clause-begun : goal.returns-in_err-number-clause-begun
returns-in_err-number-clause-begun g c =
    let s = g.P.Stepper in
    let i = c.loop-line.invariant in
    let script = c.args.script.now in
    let items = c.as_slice-line-items.result.now in
    let line : Line = c.line-item.result in
    let k = c.loop-line.line-index in
    let here : slice_get c.args.script.now.lines k ≡ Some line =
    rw c.as_slice-line-items.ensures at (slice_get_read items (length items) k line refl c.loop-line-test.true c.line-item.is) in
    on_err c.from_residual.result
    (calls_cut script k line here (g.G.Gate.calls c.args.gate.now) (g.G.Gate.calls c.loop-line.gate) (g.G.Gate.calls c.do_own.new.gate)
    (s.me c.args.desk.now.stepper) (s.me c.loop-line.desk.stepper) i.same.me c.in_err-number.ensures.came.0 c.loop-line.number i.steps i.calls
    c.in_err-number.ensures.begun)
