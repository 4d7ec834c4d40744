use Rattle.script_run.specs.Draining.{past_in}
use Rattle.script_run.proofs.Traces.{ok_weaker}
use Rattle.script_run.proofs.RunParts.{all_joined, joined_none}
use Rattle.script_run.proofs.tracing.follow_all.Goals as goal

pub do_joins-core-requires-clause-script : goal.do_joins-core-requires-clause-script
do_joins-core-requires-clause-script c = (
  c.args.schema.now,
  c.args.script.now,
  c.requires.script,
  c.as_slice.ensures,
  joined_none c.args.schema.now c.args.script.now c.args.core c.args.rests.now c.args.rooms.now c.requires.schema c.requires.seqs c.requires.fresh
      c.requires.rested c.requires.rooms,
)

pub follow_lines-requires-clause-joined : goal.follow_lines-requires-clause-joined
follow_lines-requires-clause-joined c =
    let schema = c.args.schema.now in
    let script = c.args.script.now in
    let first = joined_none schema script c.args.core c.args.rests.now c.args.rooms.now c.requires.schema c.requires.seqs c.requires.fresh c.requires.rested
    c.requires.rooms in
    rw c.in-Ok.is at (c.do_joins-core.ensures.joined schema script c.requires.script c.as_slice.ensures first)

pub returns-in-Ok-clause-traced : goal.returns-in-Ok-clause-traced
returns-in-Ok-clause-traced c =
    let schema = c.args.schema.now in
    let script = c.args.script.now in
    let first = joined_none schema script c.args.core c.args.rests.now c.args.rooms.now c.requires.schema c.requires.seqs c.requires.fresh c.requires.rested
    c.requires.rooms in
    let joins = rw c.in-Ok.is at (c.do_joins-core.ensures.joined schema script c.requires.script c.as_slice.ensures first) in
    let core = c.do_joins-core.result.0 in
    ok_weaker c.follow_lines.result.1 _ _
    (λ whole followed. record {
      after_joins = past_in core;
      joined = all_joined schema script core c.do_joins-core.new.rests c.do_joins-core.new.rooms joins;
      followed = followed;
    })
    c.follow_lines.ensures.followed

pub returns-in-Err-clause-unspent : goal.returns-in-Err-clause-unspent
returns-in-Err-clause-unspent c = λ short.
    let schema = c.args.schema.now in
    let script = c.args.script.now in
    let first = joined_none schema script c.args.core c.args.rests.now c.args.rooms.now c.requires.schema c.requires.seqs c.requires.fresh c.requires.rested
    c.requires.rooms in
    rw c.in-Err.is at (c.do_joins-core.ensures.unspent schema script c.requires.script short c.as_slice.ensures first)
