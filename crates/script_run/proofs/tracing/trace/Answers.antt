use Rattle.std.proofs.Common.{◌≡◌, ◌∙◌, ◌++◌, List, true, false, arith, drop, length, subst, sym, take}
use Rattle.std.proofs.lemmas.List.{take_at}
use Rattle.mj_schema.specs.declared.schema.Schema.{Schema}
use Rattle.call_script.specs.Sound.{IsScript}
use Rattle.remote_receiver.specs.declared.rest.Rest.{Rest}
use Rattle.script_run.specs.Draining.{DrainedAll, DrainedOf, HasDrained, past_in}
use Rattle.script_run.specs.declared.plain.Plain.{Plain}
use Rattle.script_run.specs.steps.Traced.{TracedAll, TracedOf}
use Rattle.script_run.proofs.Traces.{drained_first, if_none, traced_part, traced_whole}
use Rattle.script_run.proofs.RunParts.{none_weaker}
use Rattle.script_run.proofs.tracing.trace.Goals as goal

pub drain-requires-clause-script : goal.drain-requires-clause-script
drain-requires-clause-script c =
    let t = rw (c.in-Ok-true.is, c.in-Ok-true.field-0-test) at c.follow_all-core.ensures.traced in
    subst (λ (s : Schema). IsScript s c.args.script.now) (c.requires.schema ∙ sym t.followed.core.schema) c.requires.script

pub drain-requires-clause-schema : goal.drain-requires-clause-schema
drain-requires-clause-schema c =
    let t = rw (c.in-Ok-true.is, c.in-Ok-true.field-0-test) at c.follow_all-core.ensures.traced in
    t.followed.core.schema

pub drain-requires-clause-drained : goal.drain-requires-clause-drained
drain-requires-clause-drained c =
    let schema = c.args.schema.now in
    let script = c.args.script.now in
    let core = c.follow_all-core.result.0 in
    let new = c.follow_all-core.new.rests in
    let rests = c.args.rests in
    let t = rw (c.in-Ok-true.is, c.in-Ok-true.field-0-test) at c.follow_all-core.ensures.traced in
    let f = t.followed in
    let long : length new ≡ rests.len = omega (arith, f.rests.count, f.core.seqs, c.requires.rested.count, c.requires.seqs, rests.ok.0) in
    let all : take rests.len (new ++ drop (length new) rests.items) ≡ new = take_at new (drop (length new) rests.items) rests.len long in
    subst (λ (s : Schema). HasDrained s script (past_in core) core (take rests.len (new ++ drop (length new) rests.items))) (sym f.core.schema)
    (subst (λ (rs : List (Rest Plain)). HasDrained schema script (past_in core) core rs) (sym all)
    (drained_first schema script c.args.events.now core new t))

pub returns-in-Ok-true-clause-traced : goal.returns-in-Ok-true-clause-traced
returns-in-Ok-true-clause-traced c =
    let schema = c.args.schema.now in
    let script = c.args.script.now in
    let events = c.args.events.now in
    let core = c.follow_all-core.result.0 in
    let new = c.follow_all-core.new.rests in
    let drained = c.drain.result in
    let t = rw (c.in-Ok-true.is, c.in-Ok-true.field-0-test) at c.follow_all-core.ensures.traced in
    let all = subst (λ (s : Schema). DrainedOf s script (past_in core) drained) t.followed.core.schema c.drain.ensures.drained in
    subst (λ (s : Schema). TracedOf s script events drained true) (sym c.requires.schema)
    (none_weaker drained.cut (DrainedAll schema script (past_in core) drained) (TracedAll schema script events drained true)
    (traced_whole schema script events core new t drained) all)

pub returns-in-Ok-false-clause-traced : goal.returns-in-Ok-false-clause-traced
returns-in-Ok-false-clause-traced c =
    let schema = c.args.schema.now in
    let script = c.args.script.now in
    let events = c.args.events.now in
    let core = c.follow_all-core.result.0 in
    let drained = c.stopped.result in
    let t = rw (c.in-Ok-false.is, c.in-Ok-false.field-0-test) at c.follow_all-core.ensures.traced in
    subst (λ (s : Schema). TracedOf s script events drained false) (sym c.requires.schema)
    (if_none drained.cut (TracedAll schema script events drained false)
    (traced_part schema script events core c.follow_all-core.new.rests t drained c.stopped.ensures.core))

pub returns-in-Ok-true-clause-unspent : goal.returns-in-Ok-true-clause-unspent
returns-in-Ok-true-clause-unspent c = λ short.
    let t = rw (c.in-Ok-true.is, c.in-Ok-true.field-0-test) at c.follow_all-core.ensures.traced in
    c.drain.ensures.unspent t.after_joins t.followed.middle short t.followed.whole_is t.followed.joins t.followed.asks

pub returns-in-Ok-false-clause-unspent : goal.returns-in-Ok-false-clause-unspent
returns-in-Ok-false-clause-unspent c = λ short. rw c.stopped.ensures.cut tt

pub returns-in-Err-clause-unspent : goal.returns-in-Err-clause-unspent
returns-in-Err-clause-unspent c = λ short. rw c.cut_off-in-Err.ensures.cut (rw c.in-Err.is at (c.follow_all-core.ensures.unspent short))
