use Rattle.std.proofs.Common.{◌≡◌, ◌≤◌, ◌++◌, ◌∙◌, ap, arith, drop, length, subst, sym, take}
use Rattle.std.specs.Prelude.{Err}
use Rattle.mj_base.specs.declared.limits.TheConstants.{MAX_EVENTS}
use Rattle.mj_schema.specs.declared.schema.Schema.{Schema}
use Rattle.bind_core.specs.Play.{Play}
use Rattle.std.proofs.lemmas.List.{take_at}
use Rattle.script_run.specs.Draining.{DrainedPart, HaveRested, past_in}
use Rattle.script_run.specs.declared.cut.Cut.{Cut}
use Rattle.script_run.specs.declared.cut.Cut.TheVariants as cuts
use Rattle.script_run.proofs.CutTurns.{cut_is}
use Rattle.script_run.proofs.RunParts.{drained_all}
use Rattle.script_run.proofs.draining.drain.Goals as goal

pub finish-core-requires-clause-rested : goal.finish-core-requires-clause-rested
finish-core-requires-clause-rested c =
    let drained = rw c.in-Ok.is at c.take_all-core.ensures.drained in
    let new = c.take_all-core.new.rests in
    let rests = c.args.rests in
    let long : length new ≡ rests.len =
    omega (arith, drained.rests.count, drained.core.seqs, c.requires.drained.rests.count, c.requires.drained.core.seqs, rests.ok.0) in
    let all : take rests.len (new ++ drop (length new) rests.items) ≡ new = take_at new (drop (length new) rests.items) rests.len long in
    subst (HaveRested c.take_all-core.result.0) (sym all) drained.rests

pub returns-in-Ok-clause-drained : goal.returns-in-Ok-clause-drained
returns-in-Ok-clause-drained c =
    let drained = rw c.in-Ok.is at c.take_all-core.ensures.drained in
    let part = rw c.in-Ok.is at c.take_all-core.ensures.part in
    drained_all c.args.schema.now c.args.core.schema c.args.script.now (past_in c.args.core) c.take_all-core.result.0 _ c.requires.schema drained.core part
    c.finish-core.ensures.core c.finish-core.ensures.notes

pub returns-in-Err-clause-unspent : goal.returns-in-Err-clause-unspent
returns-in-Err-clause-unspent c = λ after_joins middle short whole joins asks.
    let unspent = c.take_all-core.ensures.unspent after_joins middle short whole joins asks in
    rw c.cut_off.ensures.cut (rw c.in-Err.is at unspent)

pub returns-in-Err-clause-cut : goal.returns-in-Err-clause-cut
returns-in-Err-clause-cut c =
    let part = rw c.in-Err.is at c.take_all-core.ensures.cut in
    rw c.cut_off.ensures.cut
    (subst (λ (s : Schema). DrainedPart s c.args.script.now (past_in c.args.core) c.cut_off.result.core) (sym c.requires.schema)
    (subst (DrainedPart c.args.schema.now c.args.script.now (past_in c.args.core)) (sym c.cut_off.ensures.core) part))

pub returns-in-Err-clause-spent : goal.returns-in-Err-clause-spent
returns-in-Err-clause-spent c = λ e.
    subst (λ (p : Play). MAX_EVENTS ≤ length p.events) (sym c.cut_off.ensures.core)
    (c.take_all-core.ensures.spent
    (c.in-Err.is ∙ ap (λ (cut : Cut). Err cut) (cut_is c.in-Err.cut cuts.Spent (sym c.cut_off.ensures.cut ∙ e))))
