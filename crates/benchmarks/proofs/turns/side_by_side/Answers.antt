use Rattle.std.proofs.Common.{◌≡◌, sym}
use Rattle.std.specs.Prelude.{slice_index_or}
use denote.Param.Send.{sendable}
use Rattle.std.proofs.Crossing as vecs
use Rattle.threaded_run.proofs.Places.{carried}
use Rattle.benchmarks.proofs.Crossing.{crosses}
use Rattle.benchmarks.proofs.turns.side_by_side.Goals as goal

pub for_each_mut-requires-send-T : goal.for_each_mut-requires-send-T
for_each_mut-requires-send-T g c κs within = search (crosses, vecs.crosses, sendable) depth 60 fits 20000

pub for_each_mut-requires-sync-F : goal.for_each_mut-requires-sync-F
for_each_mut-requires-sync-F g c κs within = let s = c.type_bounds.sync-R in search (crosses, vecs.crosses, sendable) depth 60 fits 20000

pub for_each_mut-requires-clause-accepts : goal.for_each_mut-requires-clause-accepts
for_each_mut-requires-clause-accepts g c κs within i p below e =
    carried (slice_index_or c.args.passes.now i p.now) p.now (sym e) (λ w. w.place.table_id ≡ c.args.turn.now.board.shared.table_id)
    (c.requires.at i p.now below)
