use Rattle.std.proofs.Common.{◌≡◌}
use Rattle.turn_lock.specs.Passing.{IsOf}
use Rattle.benchmarks.proofs.turns.take_turns.Given as goal

abbrev pub invariant-loop : goal.invariant-loop
invariant-loop g l =
    (l.pass.number ≡ l.fn.pass.number) × IsOf l.fn.pass.place.table_id l.fn.pass.place.me.0.basis l.pass.place.table_id l.pass.place.me
