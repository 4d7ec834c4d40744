use Rattle.std.proofs.Common.{◌≡◌, ◌≤◌, ◌++◌, drop, length}
use Rattle.std.specs.Prelude.{reverse}
use Rattle.bind_model.specs.Seen.{own_of}
use Rattle.callback_laws.specs.Callbacks.{callbacks_in}
use Rattle.event_notes.specs.steps.Got.{Knows}
use Rattle.event_notes.proofs.notes.push_back.Given as goal

-- the callbacks of the calls from a number on, the last first, and the requests whose responses were got there
abbrev pub invariant-loop-at : goal.invariant-loop-at
invariant-loop-at l = record {
  most : l.at ≤ length l.events;
  knows : Knows l.answered (own_of l.seq (drop l.at l.events));
  back : l.notes.items ≡ l.fn.notes.items ++ reverse (callbacks_in (own_of l.seq (drop l.at l.events)));
}

abbrev pub decreases-loop-at : goal.decreases-loop-at
decreases-loop-at l = l.at
