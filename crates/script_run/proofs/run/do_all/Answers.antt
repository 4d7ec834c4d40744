use Rattle.std.proofs.Common.{Bor, map}
use Rattle.std.proofs.lemmas.Result.{on_ok_weaker}
use Rattle.call_script.specs.declared.script.Line.{Line}
use Rattle.script_run.specs.Draining.{past_in}
use Rattle.script_run.proofs.RunParts.{all_done, all_joined, done_none, joined_none, running_joined}
use Rattle.script_run.proofs.run.do_all.Goals as goal

pub do_joins-core-requires-clause-script : goal.do_joins-core-requires-clause-script
do_joins-core-requires-clause-script c = (
  c.args.schema.now,
  c.args.script.now,
  c.requires.script,
  c.as_slice.ensures,
  joined_none c.args.schema.now c.args.script.now c.args.core c.args.rests.now c.args.rooms.now c.requires.schema c.requires.seqs c.requires.fresh
      c.requires.rested c.requires.rooms,
)

pub do_lines-requires-clause-running : goal.do_lines-requires-clause-running
do_lines-requires-clause-running c =
    let schema = c.args.schema.now in
    let script = c.args.script.now in
    let first = joined_none schema script c.args.core c.args.rests.now c.args.rooms.now c.requires.schema c.requires.seqs c.requires.fresh c.requires.rested
    c.requires.rooms in
    let joins = rw c.in-Ok.is at (c.do_joins-core.ensures.joined schema script c.requires.script c.as_slice.ensures first) in
    running_joined schema script c.do_joins-core.result.0 c.do_joins-core.new.rests c.do_joins-core.new.rooms joins

pub returns-in-Ok-clause-done : goal.returns-in-Ok-clause-done
returns-in-Ok-clause-done c = λ order are.
    let schema = c.args.schema.now in
    let script = c.args.script.now in
    let lines = map (λ (l : Bor Line). l.now) c.args.lines.now in
    let first = joined_none schema script c.args.core c.args.rests.now c.args.rooms.now c.requires.schema c.requires.seqs c.requires.fresh c.requires.rested
    c.requires.rooms in
    let joins = rw c.in-Ok.is at (c.do_joins-core.ensures.joined schema script c.requires.script c.as_slice.ensures first) in
    let core = c.do_joins-core.result.0 in
    let rests = c.do_joins-core.new.rests in
    let rooms = c.do_joins-core.new.rooms in
    on_ok_weaker c.do_lines.result.1
    (all_done schema script order (past_in core) lines are (all_joined schema script core rests rooms joins) c.do_lines.result.0 c.do_lines.new.rests
    c.do_lines.new.rooms)
    (c.do_lines.ensures.done order are (done_none schema script core rests rooms joins order lines))

pub returns-in-Ok-clause-unspent : goal.returns-in-Ok-clause-unspent
returns-in-Ok-clause-unspent c = λ order short are.
    let schema = c.args.schema.now in
    let script = c.args.script.now in
    let lines = map (λ (l : Bor Line). l.now) c.args.lines.now in
    let first = joined_none schema script c.args.core c.args.rests.now c.args.rooms.now c.requires.schema c.requires.seqs c.requires.fresh c.requires.rested
    c.requires.rooms in
    let joins = rw c.in-Ok.is at (c.do_joins-core.ensures.joined schema script c.requires.script c.as_slice.ensures first) in
    let core = c.do_joins-core.result.0 in
    c.do_lines.ensures.unspent order short are joins.asks (done_none schema script core c.do_joins-core.new.rests c.do_joins-core.new.rooms joins order lines)

pub returns-in-Err-clause-unspent : goal.returns-in-Err-clause-unspent
returns-in-Err-clause-unspent c = λ order short are.
    let schema = c.args.schema.now in
    let script = c.args.script.now in
    let first = joined_none schema script c.args.core c.args.rests.now c.args.rooms.now c.requires.schema c.requires.seqs c.requires.fresh c.requires.rested
    c.requires.rooms in
    rw c.in-Err.is at (c.do_joins-core.ensures.unspent schema script c.requires.script short c.as_slice.ensures first)
