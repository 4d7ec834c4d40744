use Rattle.std.proofs.Common.{◌<◌, ◌∙◌, ◌≡◌, ℕ, List, [], Some, arith, length, refl, subst, sym}
use Rattle.std.specs.Prelude.{slice_get}
use Rattle.std.specs.List.{AllByRecursion}
use Rattle.std.proofs.lemmas.Option.{slice_get_read}
use Rattle.mj_base.specs.declared.ids.SeqId.{SeqId}
use Rattle.mj_schema.specs.declared.schema.Schema.{Schema}
use Rattle.bind_hub.specs.Hubs.{schema_in, seqs_in}
use Rattle.call_script.specs.Sound.{IsLine, IsScript, others}
use Rattle.call_script.specs.declared.script.Command.{Command}
use Rattle.call_script.specs.declared.script.Line.{Line}
use Rattle.call_script.specs.declared.script.Script.{Script}
use Rattle.script_run.specs.declared.joins.Joint.{Joint}
use Rattle.script_run.proofs.JoinDone.{at_line, joined_all}
use Rattle.threaded_run.specs.steps.Joins.{core_of}
use Rattle.threaded_run.proofs.Resting.{so_next, so_none, so_same}
use Rattle.threaded_run.proofs.joins.do_joins.Goals as goal
use Rattle.threaded_run.proofs.joins.do_joins.Goals.{in-Join+in_default-done, in_default}

-- a line of a script is sound
sound : (s : Schema) (script : Script) (lines : List Line) (i : ℕ) (line : Line) → IsScript s script → lines ≡ script.lines
    → slice_get lines i ≡ Some line → IsLine s script.seqs script.names line
sound s script lines i line is same here =
    at_line (IsLine s script.seqs script.names) script.lines i line is.lines (subst (λ (ls : List Line). slice_get ls i ≡ Some line) same here)

pub loop-line-init : goal.loop-line-init
loop-line-init g c = record {
  len = refl;
  count = refl;
  passes = c.requires.passes;
  joined = so_none c.args.hub.now.turn.board.shared.table_id (schema_in c.args.hub.now) (seqs_in c.args.hub.now) c.args.lines.now c.args.rooms.now
      c.args.passes.now c.requires.fresh;
}

pub join-done-requires-clause-within : goal.join-done-requires-clause-within
join-done-requires-clause-within g c =
    let w = c.requires.script in
    let lines = c.args.lines.now in
    let line = c.line-item.result in
    let here = slice_get_read lines (length lines) c.loop-line.line-index line refl c.loop-line-test.true c.line-item.is in
    let below : line.seq.0 < w.0.seqs = (sound _ w.0 lines c.loop-line.line-index line w.1 w.3 here).seq in
    subst (λ (n : ℕ). line.seq.0 < n) (sym (c.loop-line.invariant.len ∙ (c.requires.count ∙ w.2))) below

pub join-done-requires-clause-other : goal.join-done-requires-clause-other
join-done-requires-clause-other g c =
    let w = c.requires.script in
    let lines = c.args.lines.now in
    let line = c.line-item.result in
    let here = slice_get_read lines (length lines) c.loop-line.line-index line refl c.loop-line-test.true c.line-item.is in
    let all = subst (λ (command : Command). AllByRecursion (λ (seq : SeqId). seq.0 < w.0.seqs) (others command)) c.in-Join.is
    (sound _ w.0 lines c.loop-line.line-index line w.1 w.3 here).others in
    subst (λ (n : ℕ). c.in-Join.other.0 < n) (sym w.2) all.0

pub join-done-requires-clause-count : goal.join-done-requires-clause-count
join-done-requires-clause-count g c = c.loop-line.invariant.len ∙ c.requires.count

pub join-done-requires-clause-rooms : goal.join-done-requires-clause-rooms
join-done-requires-clause-rooms g c = c.loop-line.invariant.count ∙ c.requires.rooms

pub join-done-requires-clause-passes : goal.join-done-requires-clause-passes
join-done-requires-clause-passes g c = c.loop-line.invariant.passes

pub loop-line-preserved : goal.loop-line-preserved
loop-line-preserved g c =
    let hub = c.args.hub.now in
    let lines = c.args.lines.now in
    let line = c.line-item.result in
    let at = c.loop-line.line-index in
    let i = c.loop-line.invariant in
    let here = slice_get_read lines (length lines) at line refl c.loop-line-test.true c.line-item.is in
    elim c.match-line.branch [
      | in-Join+in_default-done w ↦
          let joint : Joint = record { seq = line.seq; other = w.in-Join.other; first = w.in-Join.first; second = w.in-Join.second } in
          let j = rw w.in_default-done.is at (w.join-done.ensures.joined i.joined.0 i.joined.1) in
          rw (w.passes-is, w.rooms-is) (record {
            len = w.join-done.ensures.len ∙ i.len;
            count = j.3.count ∙ i.count;
            passes = w.join-done.ensures.passes;
            joined = so_next hub.turn.board.shared.table_id (schema_in hub) (seqs_in hub) lines at line here c.args.rooms.now c.loop-line.passes
                c.loop-line.rooms i.joined w.join-done.new.passes w.join-done.new.rooms joint j.0 j.1 w.in-Join.is refl j.2 j.3;
          })
      | in_default w ↦
          rw (w.passes-is, w.rooms-is) (record {
            len = i.len;
            count = i.count;
            passes = i.passes;
            joined = so_same hub.turn.board.shared.table_id (schema_in hub) (seqs_in hub) lines at line here c.args.rooms.now c.loop-line.passes
                c.loop-line.rooms i.joined w.in_default.not-Join;
          })
    ]

pub returns-in-Err-clause-spent : goal.returns-in-Err-clause-spent
returns-in-Err-clause-spent g c script rests is same first spent =
    let i = c.loop-line.invariant in
    let s = c.join-done.ensures.spent i.joined.0 i.joined.1 (c.in-Err.is ∙ spent) in
    (record { joins = i.joined.0; goes = (i.joined.2 rests _ script is same first).asks; have = s.0 }, s.1)

pub returns-clause-joined : goal.returns-clause-joined
returns-clause-joined g c script rests is same first =
    let hub = c.args.hub.now in
    let i = c.loop-line.invariant in (
      i.joined.0,
      i.joined.1,
      joined_all c.args.lines.now c.loop-line.line-index (core_of (schema_in hub) (seqs_in hub) []) rests c.args.rooms.now
          (core_of (schema_in hub) (seqs_in hub) i.joined.0) rests c.loop-line.rooms (omega (arith, c.loop-line-test.false)) (i.joined.2 rests) _ script is
          same first,
    )
