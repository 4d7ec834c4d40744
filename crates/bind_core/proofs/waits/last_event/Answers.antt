use Rattle.std.proofs.Common.{◌-◌, List, length, ap, ◌∙◌}
use Rattle.std.specs.List.{slice_get}
use Rattle.bind_model.specs.declared.event.Event.{Event}
use Rattle.bind_core.proofs.Waking.{newest_is}
use Rattle.bind_core.proofs.waits.last_event.Goals as goal

pub returns : goal.returns
returns c =
    c.last.ensures.value
    ∙ (ap (λ (events : List Event). slice_get events (length events - 1)) c.as_slice.ensures ∙ newest_is c.args.state.now.log.events)
