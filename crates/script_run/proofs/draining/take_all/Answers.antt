use Rattle.std.proofs.Common.{◌≤◌, List, length, subst, sym, ◌∙◌}
use Rattle.mj_base.specs.declared.limits.TheConstants.{MAX_EVENTS}
use Rattle.bind_model.specs.declared.event.Event.{Event}
use Rattle.script_run.specs.steps.Cutting.{CutTake}
use Rattle.script_run.specs.Draining.{HasDrained, past_in}
use Rattle.script_run.proofs.CutTurns.{spent_full, take_full, unspent_of}
use Rattle.script_run.proofs.NeverFull.{never_in_take}
use Rattle.script_run.proofs.TakeTurns.{all_taken, drained_more, drained_part, fewer_left, ready_below}
use Rattle.script_run.proofs.draining.take_all.Goals as goal

pub turn-back-requires-clause-seq : goal.turn-back-requires-clause-seq
turn-back-requires-clause-seq c =
    ready_below c.args.schema.now c.args.script.now c.loop-seq.core c.loop-seq.invariant.core c.in-Some.seq c.in-Some.end (sym c.in-Some.ensures)

pub loop-seq-smaller : goal.loop-seq-smaller
loop-seq-smaller c =
    let took = rw c.in_default-done.is at c.turn-back.ensures.took in
    fewer_left c.args.schema.now c.args.script.now c.in-Some.seq c.in-Some.end c.loop-seq.core c.turn-back.result.0 c.turn-back.new.rests
    c.loop-seq.invariant.core.schema took

pub loop-seq-preserved : goal.loop-seq-preserved
loop-seq-preserved c =
    let took = rw c.in_default-done.is at c.turn-back.ensures.took in
    drained_more c.args.schema.now c.args.script.now (past_in c.args.core) c.loop-seq.core c.loop-seq.rests c.loop-seq.invariant c.in-Some.seq c.in-Some.end
    (sym c.in-Some.ensures) c.turn-back.result.0 c.turn-back.new.rests took

pub returns-clause-part : goal.returns-clause-part
returns-clause-part c =
    all_taken c.args.schema.now c.args.script.now (past_in c.args.core) c.loop-seq.core c.loop-seq.rests c.loop-seq.invariant
    (sym c.ready.ensures ∙ c.in_default.is)

pub returns-in-Err-clause-unspent : goal.returns-in-Err-clause-unspent
returns-in-Err-clause-unspent c = λ after_joins middle short whole joins asks.
    let schema = c.args.schema.now in
    let script = c.args.script.now in
    let drained = subst (λ (before : List Event). HasDrained schema script before c.loop-seq.core c.loop-seq.rests) whole c.loop-seq.invariant in
    unspent_of c.in-Err.cut (CutTake script c.in-Some.seq c.in-Some.end c.loop-seq.core c.turn-back.result.0) (rw c.in-Err.is at c.turn-back.ensures.cut)
    (λ cut. never_in_take schema script c.requires.script short after_joins joins middle asks c.in-Some.seq c.in-Some.end c.loop-seq.core
    c.turn-back.result.0 c.loop-seq.rests drained (sym c.in-Some.ensures) cut)

pub returns-in-Err-clause-cut : goal.returns-in-Err-clause-cut
returns-in-Err-clause-cut c =
    drained_part c.args.schema.now c.args.script.now (past_in c.args.core) c.loop-seq.core c.loop-seq.rests c.loop-seq.invariant c.in-Some.seq
    c.in-Some.end (sym c.in-Some.ensures) c.turn-back.result.0 (rw c.in-Err.is at c.turn-back.ensures.part)

pub returns-in-Err-clause-spent : goal.returns-in-Err-clause-spent
returns-in-Err-clause-spent c = λ e.
    let script = c.args.script.now in
    let after = c.turn-back.result.0 in
    spent_full c.in-Err.cut (CutTake script c.in-Some.seq c.in-Some.end c.loop-seq.core after) (MAX_EVENTS ≤ length after.events)
    (rw c.in-Err.is at c.turn-back.ensures.cut) (take_full script c.in-Some.seq c.in-Some.end c.loop-seq.core after) e
