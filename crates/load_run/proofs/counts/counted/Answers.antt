use Rattle.std.proofs.Common.{◌≡◌, ◌∙◌, ap, length}
use Rattle.std.specs.List.{count_by, sum_by}
use Rattle.bind_core.specs.Play.{Play}
use Rattle.bind_model.specs.declared.event.Event.{Event}
use Rattle.load_run.specs.Counts.{bytes_of, is_got, is_sent}
use Rattle.load_run.proofs.counts.counted.Goals as goal

pub returns-clause-counted : goal.returns-clause-counted
returns-clause-counted c =
    let same : c.as_slice-history.result.now ≡ c.args.core.events = c.as_slice-history.ensures
    ∙ (c.history.ensures.events ∙ ap (λ (p : Play). p.events) c.count_ran-core.ensures.core) in
    record {
      events = c.count_events-events.ensures ∙ ap length same;
      sent = c.count_sent-sent.ensures ∙ ap (count_by (λ (event : Event). is_sent event.told)) same;
      got = c.count_got-got.ensures ∙ ap (count_by (λ (event : Event). is_got event.told)) same;
      ran = c.count_ran-core.ensures.ran;
      bytes = c.count_bytes-bytes.ensures ∙ ap (sum_by (λ (event : Event). bytes_of event.told)) same;
    }
