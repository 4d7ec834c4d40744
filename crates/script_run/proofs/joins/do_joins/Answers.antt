use Rattle.std.proofs.Common.{◌<◌, ◌∙◌, ◌≡◌, ℕ, List, Some, arith, length, refl, subst, sym}
use Rattle.std.specs.Prelude.{slice_get}
use Rattle.std.specs.List.{AllByRecursion}
use Rattle.std.proofs.lemmas.Option.{slice_get_read}
use Rattle.mj_base.specs.declared.ids.SeqId.{SeqId}
use Rattle.mj_schema.specs.declared.schema.Schema.{Schema}
use Rattle.call_script.specs.Sound.{IsLine, IsScript, others}
use Rattle.call_script.specs.declared.script.Command.{Command}
use Rattle.call_script.specs.declared.script.Line.{Line}
use Rattle.call_script.specs.declared.script.Script.{Script}
use Rattle.script_run.specs.declared.joins.Joint.{Joint}
use Rattle.script_run.proofs.JoinDone.{joined_all, joined_next, joined_none, joined_same, at_line}
use Rattle.script_run.proofs.joins.do_joins.Goals as goal
use Rattle.script_run.proofs.joins.do_joins.Goals.{in-Join+in_default-done, in_default}
use Rattle.script_run.specs.steps.Cutting.{CutJoin}
use Rattle.script_run.proofs.CutTurns.{unspent_of}
use Rattle.script_run.proofs.NeverFull.{never_in_join}

-- a line of a script is sound
sound : (s : Schema) (script : Script) (lines : List Line) (i : ℕ) (line : Line) → IsScript s script → lines ≡ script.lines
    → slice_get lines i ≡ Some line → IsLine s script.seqs script.names line
sound s script lines i line is same here =
    at_line (IsLine s script.seqs script.names) script.lines i line is.lines (subst (λ (ls : List Line). slice_get ls i ≡ Some line) same here)

pub loop-line-init : goal.loop-line-init
loop-line-init c = joined_none c.args.lines.now c.args.core c.args.rests.now c.args.rooms.now

pub join-back-requires-clause-schema : goal.join-back-requires-clause-schema
join-back-requires-clause-schema c =
    let w = c.requires.script in
    (c.loop-line.invariant w.0 w.1 w.2 w.3 w.4).core.schema ∙ (sym w.4.core.schema ∙ c.requires.schema)

pub join-back-requires-clause-rested : goal.join-back-requires-clause-rested
join-back-requires-clause-rested c =
    let w = c.requires.script in
    (c.loop-line.invariant w.0 w.1 w.2 w.3 w.4).rests

pub join-back-requires-clause-seq : goal.join-back-requires-clause-seq
join-back-requires-clause-seq c =
    let w = c.requires.script in
    let lines = c.args.lines.now in
    let line = c.line-item.result in
    let here = slice_get_read lines (length lines) c.loop-line.line-index line refl c.loop-line-test.true c.line-item.is in
    let done = c.loop-line.invariant w.0 w.1 w.2 w.3 w.4 in
    subst (λ (n : ℕ). line.seq.0 < n) (sym done.core.seqs) (sound w.0 w.1 lines c.loop-line.line-index line w.2 w.3 here).seq

pub join-back-requires-clause-other : goal.join-back-requires-clause-other
join-back-requires-clause-other c =
    let w = c.requires.script in
    let lines = c.args.lines.now in
    let line = c.line-item.result in
    let here = slice_get_read lines (length lines) c.loop-line.line-index line refl c.loop-line-test.true c.line-item.is in
    let done = c.loop-line.invariant w.0 w.1 w.2 w.3 w.4 in
    let all = subst (λ (command : Command). AllByRecursion (λ (seq : SeqId). seq.0 < w.1.seqs) (others command)) c.in-Join.is
    (sound w.0 w.1 lines c.loop-line.line-index line w.2 w.3 here).others in
    subst (λ (n : ℕ). c.in-Join.other.0 < n) (sym done.core.seqs) all.0

pub join-back-requires-clause-rooms : goal.join-back-requires-clause-rooms
join-back-requires-clause-rooms c =
    let w = c.requires.script in
    let done = c.loop-line.invariant w.0 w.1 w.2 w.3 w.4 in
    done.rooms.count ∙ sym done.core.seqs

pub loop-line-preserved : goal.loop-line-preserved
loop-line-preserved c =
    let lines = c.args.lines.now in
    let line = c.line-item.result in
    let at = c.loop-line.line-index in
    let here = slice_get_read lines (length lines) at line refl c.loop-line-test.true c.line-item.is in
    elim c.match-line.branch [
      | in-Join+in_default-done w ↦
          let joint : Joint = record { seq = line.seq; other = w.in-Join.other; first = w.in-Join.first; second = w.in-Join.second } in
          rw (w.core-is, w.rests-is, w.rooms-is)
          (joined_next lines at line here c.args.core c.args.rests.now c.args.rooms.now c.loop-line.core c.loop-line.rests c.loop-line.rooms
          c.loop-line.invariant w.join-back.result.0 w.join-back.new.rests w.join-back.new.rooms joint w.in-Join.is refl
          (rw w.in_default-done.is at w.join-back.ensures.made))
      | in_default w ↦
          rw (w.core-is, w.rests-is, w.rooms-is)
          (joined_same lines at line here c.args.core c.args.rests.now c.args.rooms.now c.loop-line.core c.loop-line.rests c.loop-line.rooms
          c.loop-line.invariant w.in_default.not-Join)
    ]

pub returns-clause-joined : goal.returns-clause-joined
returns-clause-joined c =
    joined_all c.args.lines.now c.loop-line.line-index c.args.core c.args.rests.now c.args.rooms.now c.loop-line.core c.loop-line.rests c.loop-line.rooms
    (omega (arith, c.loop-line-test.false)) c.loop-line.invariant

pub returns-in-Err-clause-unspent : goal.returns-in-Err-clause-unspent
returns-in-Err-clause-unspent c = λ s script is short same first.
    let core = c.loop-line.core in
    unspent_of c.in-Err.cut (CutJoin c.line-item.result.seq core c.join-back.result.0) (rw c.in-Err.is at c.join-back.ensures.cut)
    (λ cut. never_in_join s script is short _ c.line-item.result.seq core c.join-back.result.0 c.loop-line.rests c.loop-line.rooms
    (c.loop-line.invariant s script is same first) cut)
