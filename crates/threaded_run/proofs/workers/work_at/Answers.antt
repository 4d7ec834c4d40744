use Rattle.std.proofs.Common.{subst, sym}
use Rattle.mj_schema.specs.declared.schema.Schema.{Schema}
use Rattle.call_script.specs.Sound.{IsScript}
use Rattle.remote_receiver.specs.Held.{kept_of}
use Rattle.script_run.specs.AtDesk.{seen_by}
use Rattle.script_run.specs.Working.{CutWork, Works}
use Rattle.script_run.specs.declared.cut.Cut.TheVariants as cuts
use Rattle.threaded_run.proofs.Places.{err_is, err_some, ok_none}
use Rattle.threaded_run.proofs.workers.work_at.Goals as goal

pub work_on-requires-clause-seq : goal.work_on-requires-clause-seq
work_on-requires-clause-seq g c = c.requires.ready.within

pub work_on-requires-clause-schema : goal.work_on-requires-clause-schema
work_on-requires-clause-schema g c = c.requires.ready.schema_is

pub work_on-requires-clause-script : goal.work_on-requires-clause-script
work_on-requires-clause-script g c = subst (λ (s : Schema). IsScript s c.args.script.now) (sym c.requires.ready.schema_is) c.requires.script

pub work_on-requires-clause-seqs : goal.work_on-requires-clause-seqs
work_on-requires-clause-seqs g c = c.requires.ready.seqs

pub work_on-requires-clause-names : goal.work_on-requires-clause-names
work_on-requires-clause-names g c = c.requires.ready.names

pub returns-clause-did : goal.returns-clause-did
returns-clause-did g c =
    let s = g.P.Stepper in
    let script = c.args.script.now in
    let old = c.args.worker.now in
    let desk = c.work_on.new.desk in
    let before = seen_by s.schema s.seqs s.alone s.me s.seen old.desk.stepper in
    let after = seen_by s.schema s.seqs s.alone s.me s.seen desk.stepper in
    let done = c.work_on.result in
    let cut = c.err-cut.result in
    let is = c.err-cut.ensures.value in (
      c.work_on.ensures.later,
      err_some done cut (CutWork script before after old.room) is c.work_on.ensures.part,
      ok_none done cut (Works script before after (kept_of old.desk.jobs) (kept_of desk.jobs) old.room c.work_on.new.rooms) is c.work_on.ensures.works,
      (λ spent. c.work_on.ensures.spent (err_is done cut cuts.Spent is spent)),
    )
