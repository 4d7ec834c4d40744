use Rattle.std.proofs.Common.{◌≡◌, ◌+◌, ◌∙◌, ◌++◌, List, ap, arith, drop, length, refl, subst, sym, take}
use Rattle.std.specs.Prelude.{slice_get}
use Rattle.std.proofs.lemmas.List.{take_at}
use Rattle.bind_core.specs.Play.{Play}
use Rattle.bind_model.specs.Seen.{own_of}
use Rattle.callback_laws.specs.Callbacks.{callbacks_in}
use Rattle.remote_receiver.specs.declared.rest.Rest.{Rest}
use Rattle.script_run.specs.declared.plain.Plain.{Plain}
use Rattle.script_run.specs.steps.Ending.{HasEnded, RestFrom}
use Rattle.script_run.specs.Draining.{HasRested}
use Rattle.script_run.proofs.Ending.{noted_below, noted_next, rest_all, rest_next}
use Rattle.script_run.proofs.Waking.{numbered}
use Rattle.script_run.proofs.desks.finish.Goals as goal

pub loop-seq-init : goal.loop-seq-init
loop-seq-init c = record { core = refl; rests = rest_all c.args.core c.args.rests.items c.requires.rested; notes = c.new-notes.ensures.items }

pub finish_one-back-requires-clause-rested : goal.finish_one-back-requires-clause-rested
finish_one-back-requires-clause-rested c = λ rest here.
    let i = c.loop-seq.invariant in
    let seq = numbered c.loop-seq.seq in
    subst (λ (core : Play). HasRested core seq rest) (sym i.core)
    (i.rests.each seq (omega arith) rest (ap (λ (rs : List (Rest Plain)). slice_get rs seq.0) (sym c.deref_mut.ensures.value) ∙ here))

pub loop-seq-preserved : goal.loop-seq-preserved
loop-seq-preserved c =
    let i = c.loop-seq.invariant in
    let seq = c.loop-seq.seq in
    let rests = c.loop-seq.rests in
    let new = c.finish_one-back.new.rests in
    let ended = subst (λ (rs : List (Rest Plain)). HasEnded (numbered seq) rs new) c.deref_mut.ensures.value c.finish_one-back.ensures.rests in
    let long : length new ≡ rests.len = omega (arith, ended.count, rests.ok.0) in
    let all : take rests.len (new ++ drop (length new) rests.items) ≡ new = take_at new (drop (length new) rests.items) rests.len long in
    record {
      core = c.finish_one-back.ensures.core ∙ i.core;
      rests = subst (RestFrom (seq + 1) c.args.core) (sym all) (rest_next seq c.args.core rests.items new i.rests ended);
      notes =
          noted_next c.args.core seq c.loop-seq.notes.items c.finish_one-back.new.notes.items i.notes
          (rw c.in_default.is at c.finish_one-back.ensures.notes
          ∙ ap (λ (core : Play). c.loop-seq.notes.items ++ callbacks_in (own_of (numbered seq) core.events)) i.core);
    }

pub returns-clause-notes : goal.returns-clause-notes
returns-clause-notes c =
    let all : c.loop-seq.seq ≡ c.args.seqs = omega (arith, c.loop-seq-test.false, c.loop-seq.auto.seq-end) in
    c.from_vec.ensures ∙ (c.loop-seq.invariant.notes ∙ ap (noted_below c.args.core) all)
