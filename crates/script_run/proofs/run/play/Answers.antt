use Rattle.std.proofs.Common.{◌≡◌, ◌++◌, List, arith, drop, length, subst, sym, take}
use Rattle.std.proofs.lemmas.List.{take_at}
use Rattle.mj_schema.specs.declared.schema.Schema.{Schema}
use Rattle.remote_receiver.specs.declared.rest.Rest.{Rest}
use Rattle.script_run.specs.declared.plain.Plain.{Plain}
use Rattle.script_run.specs.Draining.{DrainedAll, DrainedOf, HasDrained, past_in}
use Rattle.script_run.specs.steps.Going.{Played, PlayedAll}
use Rattle.script_run.proofs.RunParts.{drained_none, none_weaker, whole_run}
use Rattle.script_run.proofs.run.play.Goals as goal
use Rattle.script_run.proofs.FewEvents.{part_goes}

pub drain-requires-clause-drained : goal.drain-requires-clause-drained
drain-requires-clause-drained c =
    let script = c.args.script.now in
    let core = c.do_all-core.result.0 in
    let new = c.do_all-core.new.rests in
    let rests = c.args.rests in
    let running = rw c.in-Ok.is at c.do_all-core.ensures.running in
    let long : length new ≡ rests.len =
    omega (arith, running.rests.count, running.core.seqs, c.requires.rested.count, c.requires.seqs, rests.ok.0) in
    let all : take rests.len (new ++ drop (length new) rests.items) ≡ new = take_at new (drop (length new) rests.items) rests.len long in
    subst (λ (s : Schema). HasDrained s script (past_in core) core (take rests.len (new ++ drop (length new) rests.items))) (sym running.core.schema)
    (subst (λ (rs : List (Rest Plain)). HasDrained c.args.schema.now script (past_in core) core rs) (sym all)
    (drained_none c.args.schema.now script core new c.do_all-core.new.rooms running))

pub returns-in-Ok-clause-played : goal.returns-in-Ok-clause-played
returns-in-Ok-clause-played c = λ order are.
    let schema = c.args.schema.now in
    let script = c.args.script.now in
    let core = c.do_all-core.result.0 in
    let drained = c.drain.result in
    let running = rw c.in-Ok.is at c.do_all-core.ensures.running in
    let done = rw c.in-Ok.is at (c.do_all-core.ensures.done order are) in
    let all = subst (λ (s : Schema). DrainedOf s script (past_in core) drained) running.core.schema c.drain.ensures.drained in
    subst (λ (s : Schema). Played s script order drained) (sym c.requires.schema)
    (none_weaker drained.cut (DrainedAll schema script (past_in core) drained) (PlayedAll schema script order drained)
    (whole_run schema script order core drained done) all)

pub returns-in-Ok-clause-unspent : goal.returns-in-Ok-clause-unspent
returns-in-Ok-clause-unspent c = λ order short are.
    let done = rw c.in-Ok.is at (c.do_all-core.ensures.done order are) in
    c.drain.ensures.unspent done.after_joins done.middle short done.whole (part_goes c.args.script.now done.after_joins done.joins)
    (λ s w. (done.lines s w).asks)

pub returns-in-Err-clause-unspent : goal.returns-in-Err-clause-unspent
returns-in-Err-clause-unspent c = λ order short are.
    rw c.cut_off-in-Err.ensures.cut (rw c.in-Err.is at (c.do_all-core.ensures.unspent order short are))
