use Rattle.std.proofs.Common.{List, [], take}
use Rattle.bind_model.specs.declared.event.Event.{Event}
use Rattle.script_run.specs.steps.Following.{AreAlong, IsAmid}
use Rattle.script_run.proofs.tracing.follow_events.Given as goal

-- so far one came for each
abbrev pub invariant-loop-event : goal.invariant-loop-event
invariant-loop-event l = (after_joins : List Event) → IsAmid l.schema l.script after_joins [] l.fn.core l.fn.rests l.fn.rooms l.fn.agendas
    → AreAlong l.schema l.script after_joins (take l.event-index l.events) l.core l.rests l.rooms l.agendas
