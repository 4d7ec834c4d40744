use Rattle.std.proofs.Common.{List, [], take}
use Rattle.bind_model.specs.declared.event.Event.{Event}
use Rattle.event_follow.specs.steps.Following.{AreAlong, IsAmid}
use Rattle.event_follow.proofs.following.follow_events.Given as goal

-- so far one came for each
abbrev pub invariant-loop-event : goal.invariant-loop-event
invariant-loop-event l = (after_joins : List Event) → IsAmid l.schema l.script after_joins [] l.fn.machine l.fn.places
    → AreAlong l.schema l.script after_joins (take l.event-index l.events) l.machine l.places
