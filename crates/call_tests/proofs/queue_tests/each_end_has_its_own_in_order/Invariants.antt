use Rattle.std.proofs.Common.{◌≡◌, ◌*◌}
use Rattle.call_tests.proofs.queue_tests.each_end_has_its_own_in_order.Given as goal

abbrev pub ghosts-take_all : goal.ghosts-take_all
ghosts-take_all g a = record { name = a.blank.name; parts = a.blank.parts }

-- two ends a pipe
abbrev pub invariant-loop-number : goal.invariant-loop-number
invariant-loop-number g l = l.pipes.made ≡ 2 * l._number
