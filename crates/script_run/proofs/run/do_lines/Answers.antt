use Rattle.std.proofs.Common.{◌≡◌, Bor, length, map, subst, arith}
use Rattle.call_script.specs.declared.script.Line.{Line}
use Rattle.script_run.specs.steps.Cutting.{CutLine}
use Rattle.script_run.specs.Draining.{past_in}
use Rattle.script_run.specs.steps.Going.{HasDone}
use Rattle.script_run.proofs.CutTurns.{unspent_of}
use Rattle.script_run.proofs.NeverFull.{never_in_line}
use Rattle.script_run.proofs.LineTurns.{done_more, still_running}
use Rattle.script_run.proofs.RunParts.{line_in, said_at, said_length}
use Rattle.script_run.proofs.run.do_lines.Goals as goal

pub turn-back-requires-clause-line : goal.turn-back-requires-clause-line
turn-back-requires-clause-line c =
    let lines = c.args.lines.now in
    let said = said_at lines c.loop-line.line-index c.line-item.result c.loop-line-test.true c.line-item.is in
    line_in c.args.schema.now c.args.script.now (map (λ (l : Bor Line). l.now) lines) c.loop-line.line-index c.line-item.result.now c.requires.lines said

pub loop-line-preserved : goal.loop-line-preserved
loop-line-preserved c =
    let schema = c.args.schema.now in
    let script = c.args.script.now in
    let lines = c.args.lines.now in
    let line = c.line-item.result.now in
    let said = said_at lines c.loop-line.line-index c.line-item.result c.loop-line-test.true c.line-item.is in
    let did = rw c.in_default.is at c.turn-back.ensures.did in
    let i = c.loop-line.invariant in
    record {
      running =
          still_running schema script line c.loop-line.core c.turn-back.result.0 c.turn-back.new.rests c.loop-line.rooms c.turn-back.new.rooms
          i.running.core.schema did c.loop-line.rests i.running;
      done = λ order are first.
          done_more schema script order (past_in c.args.core) (map (λ (l : Bor Line). l.now) lines) are c.loop-line.line-index line said c.loop-line.core
          c.turn-back.result.0 c.loop-line.rests c.turn-back.new.rests c.loop-line.rooms c.turn-back.new.rooms (i.done order are first) did;
    }

pub returns-clause-done : goal.returns-clause-done
returns-clause-done c = λ order are first.
    let lines = map (λ (l : Bor Line). l.now) c.args.lines.now in
    let all : c.loop-line.line-index ≡ length lines = omega (arith, said_length c.args.lines.now) in
    subst
    (λ n. HasDone c.args.schema.now c.args.script.now order (past_in c.args.core) lines n c.loop-line.core c.loop-line.rests c.loop-line.rooms)
    all (c.loop-line.invariant.done order are first)

pub returns-in-Err-clause-unspent : goal.returns-in-Err-clause-unspent
returns-in-Err-clause-unspent c = λ order short are joins first.
    let schema = c.args.schema.now in
    let script = c.args.script.now in
    let line = c.line-item.result.now in
    let lines = map (λ (l : Bor Line). l.now) c.args.lines.now in
    let said = said_at c.args.lines.now c.loop-line.line-index c.line-item.result c.loop-line-test.true c.line-item.is in
    let done = c.loop-line.invariant.done order are first in
    unspent_of c.in-Err.cut (CutLine script line c.loop-line.core c.turn-back.result.0 c.loop-line.rooms) (rw c.in-Err.is at c.turn-back.ensures.cut)
    (λ cut. never_in_line schema script c.requires.script short (past_in c.args.core) joins order lines are c.loop-line.line-index line said
    c.loop-line.core c.turn-back.result.0 c.loop-line.rests c.loop-line.rooms done cut)
