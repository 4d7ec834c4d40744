use Rattle.std.proofs.Common.{◌≡◌, length}
use Rattle.bind_hub.specs.Hubs.{schema_in, seqs_in}
use Rattle.threaded_run.specs.steps.Passes.{ArePasses}
use Rattle.threaded_run.proofs.Resting.{JoinedSo}
use Rattle.threaded_run.proofs.joins.do_joins.Given as goal

-- the joins among so many lines are done
abbrev pub invariant-loop-line : goal.invariant-loop-line
invariant-loop-line g l = record {
  len : length l.passes ≡ length l.fn.passes;
  count : length l.rooms ≡ length l.fn.rooms;
  passes : ArePasses l.hub.turn.board.shared.table_id (schema_in l.hub) (seqs_in l.hub) l.passes;
  joined : JoinedSo l.hub.turn.board.shared.table_id (schema_in l.hub) (seqs_in l.hub) l.lines l.line-index l.fn.rooms l.passes l.rooms;
}
