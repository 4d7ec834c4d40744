use Rattle.std.proofs.Common.{sym, ◌∙◌}
use Rattle.event_tables.specs.AsCore.{past_by}
use Rattle.event_follow.proofs.DrainingLemmas.{all_taken, drained_more, fewer_left, room_for_two, taker_within}
use Rattle.event_follow.proofs.draining.drain.Goals as goal

pub ready-requires : goal.ready-requires
ready-requires c = c.loop-seq.invariant.is.stands

pub turn-requires-clause-is : goal.turn-requires-clause-is
turn-requires-clause-is c = c.loop-seq.invariant.is

pub turn-requires-clause-seq : goal.turn-requires-clause-seq
turn-requires-clause-seq c =
    taker_within c.args.schema.now c.args.script.now (past_by c.args.machine.now.tables) c.loop-seq.machine c.loop-seq.invariant c.in-Some.seq
    c.in-Some.end (sym c.in-Some.ensures)

pub turn-requires-clause-few : goal.turn-requires-clause-few
turn-requires-clause-few c =
    let lines = c.requires.lines in
    room_for_two c.args.schema.now c.args.script.now (past_by c.args.machine.now.tables) c.loop-seq.machine c.loop-seq.invariant c.in-Some.seq
    c.in-Some.end (sym c.in-Some.ensures) c.requires.script c.requires.short lines.0 lines.1 lines.2 lines.3 lines.4

pub loop-seq-smaller : goal.loop-seq-smaller
loop-seq-smaller c =
    fewer_left c.args.schema.now c.args.script.now c.in-Some.seq c.in-Some.end c.loop-seq.machine c.turn.new.machine c.in_ok-turn.ensures

pub loop-seq-preserved : goal.loop-seq-preserved
loop-seq-preserved c =
    drained_more c.args.schema.now c.args.script.now (past_by c.args.machine.now.tables) c.loop-seq.machine c.loop-seq.invariant c.in-Some.seq
    c.in-Some.end (sym c.in-Some.ensures) c.turn.new.machine c.in_ok-turn.ensures

pub returns : goal.returns
returns c = record {
  is = c.loop-seq.invariant.is;
  part =
      all_taken c.args.schema.now c.args.script.now (past_by c.args.machine.now.tables) c.loop-seq.machine c.loop-seq.invariant
      (sym c.ready.ensures ∙ c.in_default.is);
}
