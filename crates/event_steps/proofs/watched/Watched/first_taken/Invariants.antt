use Rattle.std.proofs.Common.{◌≡◌}
use Rattle.bind_core.specs.steps.FirstTaken.{first_taken}
use Rattle.bind_core.specs.Takers.{ready_taker}
use Rattle.event_tables.specs.AsCore.{state_of}
use Rattle.event_steps.proofs.watched.Watched.first_taken.Given as goal

-- the first of what is left is the first of all
abbrev pub invariant-loop-end : goal.invariant-loop-end
invariant-loop-end l = record {
  can_next : (goal.iterator-loop-end).can_next l.end-iterator;
  is_finite : (goal.iterator-loop-end).is_finite l.end-iterator;
  first : first_taken (ready_taker (state_of l.tables)) l.end-iterator ≡ first_taken (ready_taker (state_of l.tables)) l.self;
}
