use Rattle.std.proofs.Common.{◌≡◌, ◌≤◌, ◌+◌, length}
use Rattle.std.specs.Prelude.{vec_capacity}
use Rattle.hub_tests.proofs.pipes.make_pipes.Given as goal

abbrev pub invariant-loop : goal.invariant-loop
invariant-loop g l =
    (l.seat.hub.now ≡ l.fn.seat.hub.now) × (l.seat.pass.number ≡ l.fn.seat.pass.number) × (length l.told.items + 100 ≤ vec_capacity l.told + l.counter)
