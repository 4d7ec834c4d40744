use Rattle.std.proofs.Common.{length}
use Rattle.hub_tests.proofs.seats.let_go.Given as goal

abbrev pub decreases-loop-one : goal.decreases-loop-one
decreases-loop-one l = length l.told.items
