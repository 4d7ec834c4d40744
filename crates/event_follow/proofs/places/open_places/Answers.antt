use Rattle.std.proofs.Common.{◌+◌, ℕ, length, ap, ◌∙◌}
use Rattle.std.proofs.lemmas.List.{length_push}
use Rattle.script_run.proofs.Traces.{each_added}
use Rattle.event_follow.specs.steps.Places.{IsFresh}
use Rattle.event_follow.proofs.places.open_places.Goals as goal

pub loop-seq-preserved : goal.loop-seq-preserved
loop-seq-preserved c =
    let place = c.in_ok-place.place in
    record {
      count =
          ap length c.in_ok-push.ensures.items
          ∙ (length_push c.loop-seq.places.items place ∙ ap (λ (n : ℕ). n + 1) c.loop-seq.invariant.count);
      each =
          each_added (IsFresh c.args.script.now) c.loop-seq.places.items c.push.new.self.items c.loop-seq.seq place c.loop-seq.invariant.count
          c.in_ok-push.ensures.items c.in_ok-place.ensures c.loop-seq.invariant.each;
    }
