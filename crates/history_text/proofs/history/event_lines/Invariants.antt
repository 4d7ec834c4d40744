use Rattle.std.proofs.Common.{◌≡◌, take}
use Rattle.history_text.specs.History.{event_lines}
use Rattle.history_text.proofs.history.event_lines.Given as goal

abbrev pub invariant-loop-number : goal.invariant-loop-number
invariant-loop-number l = l.text.items ≡ event_lines l.schema 0 (take l.number l.events)
