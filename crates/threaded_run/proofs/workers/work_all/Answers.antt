use Rattle.std.proofs.Common.{sym}
use Rattle.std.specs.Prelude.{slice_index_or}
use denote.Param.Send.{sendable}
use Rattle.std.proofs.Crossing as vecs
use Rattle.mj_schema.proofs.Crossing.{schema_sync}
use Rattle.script_run.specs.AtDesk.{seen_by}
use Rattle.threaded_run.specs.steps.Workers.{IsReady}
use Rattle.threaded_run.proofs.Crossing.{crosses, script_sync}
use Rattle.threaded_run.proofs.Places.{carried}
use Rattle.threaded_run.proofs.workers.work_all.Goals as goal

pub for_each_mut-requires-send-T : goal.for_each_mut-requires-send-T
for_each_mut-requires-send-T g c κs within =
    let p = c.type_bounds.send-P in
    let q = c.type_bounds.send-G in
    search (crosses, vecs.crosses, sendable) depth 60 fits 20000

pub for_each_mut-requires-sync-F : goal.for_each_mut-requires-sync-F
for_each_mut-requires-sync-F g c κs within = search (schema_sync, script_sync, vecs.crosses, sendable) depth 60 fits 20000

pub for_each_mut-requires-clause-accepts : goal.for_each_mut-requires-clause-accepts
for_each_mut-requires-clause-accepts g c κs within i p below e =
    let s = g.P.Stepper in (
      c.requires.script,
      carried (slice_index_or c.args.workers.now i p.now) p.now (sym e)
          (λ w. IsReady c.args.script.now c.args.schema.now (seen_by s.schema s.seqs s.alone s.me s.seen w.desk.stepper) w.room)
          (c.requires.ready i p.now below),
    )
