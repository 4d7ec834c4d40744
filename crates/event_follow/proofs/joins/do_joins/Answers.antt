use Rattle.std.proofs.Common.{◌<◌, ◌≡◌, ℕ, List, Some, ap, arith, length, refl, subst, sym}
use Rattle.std.specs.Prelude.{slice_get}
use Rattle.std.specs.List.{AllByRecursion}
use Rattle.std.proofs.lemmas.Option.{slice_get_read}
use Rattle.mj_base.specs.declared.ids.SeqId.{SeqId}
use Rattle.call_script.specs.Sound.{others}
use Rattle.call_script.specs.declared.script.Command.{Command}
use Rattle.call_script.specs.declared.script.Line.{Line}
use Rattle.core_state.specs.Agreement.{schema_of}
use Rattle.event_tables.specs.AsCore.{state_of}
use Rattle.script_run.specs.declared.joins.Joint.{Joint}
use Rattle.event_follow.proofs.FollowingLemmas.{joined_few}
use Rattle.event_follow.proofs.Joining.{joined_all, joined_next, joined_same, line_sound}
use Rattle.event_follow.proofs.joins.do_joins.Goals as goal
use Rattle.event_follow.proofs.joins.do_joins.Goals.{in-Join+in_ok-join, in_default}

-- what stands in these lines stands in those of the script
here_in : (lines all : List Line) (i : ℕ) (line : Line) → lines ≡ all → slice_get lines i ≡ Some line → slice_get all i ≡ Some line
here_in lines all i line same here = subst (λ (ls : List Line). slice_get ls i ≡ Some line) same here

pub loop-line-init : goal.loop-line-init
loop-line-init c = c.requires.first

pub join-requires-clause-stands : goal.join-requires-clause-stands
join-requires-clause-stands c = c.loop-line.invariant.is.stands

pub join-requires-clause-few : goal.join-requires-clause-few
join-requires-clause-few c =
    joined_few (schema_of (state_of c.args.machine.now.tables)) c.args.script.now c.requires.script c.requires.short _ c.loop-line.machine
    c.loop-line.places c.loop-line.invariant

pub join-requires-clause-seq : goal.join-requires-clause-seq
join-requires-clause-seq c =
    let schema = schema_of (state_of c.args.machine.now.tables) in
    let script = c.args.script.now in
    let lines = c.as_slice-lines.result.now in
    let line = c.line-item.result in
    let at = c.loop-line.line-index in
    let read = slice_get_read lines (length lines) at line refl c.loop-line-test.true c.line-item.is in
    let here = here_in lines script.lines at line c.as_slice-lines.ensures read in
    let sound = line_sound schema script c.requires.script at line here c.loop-line.machine c.loop-line.places c.loop-line.invariant in
    subst (λ (n : ℕ). line.seq.0 < n) (sym c.loop-line.invariant.is.seqs) sound.seq

pub join-requires-clause-other : goal.join-requires-clause-other
join-requires-clause-other c =
    let schema = schema_of (state_of c.args.machine.now.tables) in
    let script = c.args.script.now in
    let lines = c.as_slice-lines.result.now in
    let line = c.line-item.result in
    let at = c.loop-line.line-index in
    let read = slice_get_read lines (length lines) at line refl c.loop-line-test.true c.line-item.is in
    let here = here_in lines script.lines at line c.as_slice-lines.ensures read in
    let sound = line_sound schema script c.requires.script at line here c.loop-line.machine c.loop-line.places c.loop-line.invariant in
    let all = subst (λ (command : Command). AllByRecursion (λ (seq : SeqId). seq.0 < script.seqs) (others command)) c.in-Join.is sound.others in
    subst (λ (n : ℕ). c.in-Join.other.0 < n) (sym c.loop-line.invariant.is.seqs) all.0

pub join-requires-clause-places : goal.join-requires-clause-places
join-requires-clause-places c = omega (arith, c.loop-line.invariant.size, c.requires.script.seqs.1)

pub loop-line-preserved : goal.loop-line-preserved
loop-line-preserved c =
    let schema = schema_of (state_of c.args.machine.now.tables) in
    let script = c.args.script.now in
    let lines = c.as_slice-lines.result.now in
    let line = c.line-item.result in
    let at = c.loop-line.line-index in
    let read = slice_get_read lines (length lines) at line refl c.loop-line-test.true c.line-item.is in
    let here = here_in lines script.lines at line c.as_slice-lines.ensures read in
    elim c.match-line.branch [
      | in-Join+in_ok-join w ↦
          let joint : Joint = record { seq = line.seq; other = w.in-Join.other; first = w.in-Join.first; second = w.in-Join.second } in
          rw (w.machine-is, w.places-is)
          (joined_next schema script c.requires.script at line here c.loop-line.machine c.loop-line.places c.loop-line.invariant w.join.new.machine
          w.join.new.places joint w.in-Join.is refl w.in_ok-join.ensures)
      | in_default w ↦
          rw (w.machine-is, w.places-is)
          (joined_same schema script c.requires.script at line here c.loop-line.machine c.loop-line.places c.loop-line.invariant w.in_default.not-Join)
    ]

pub returns : goal.returns
returns c =
    let schema = schema_of (state_of c.args.machine.now.tables) in
    joined_all schema c.args.script.now c.loop-line.line-index c.loop-line.machine c.loop-line.places
    (omega (arith, c.loop-line-test.false, ap length c.as_slice-lines.ensures)) c.loop-line.invariant
