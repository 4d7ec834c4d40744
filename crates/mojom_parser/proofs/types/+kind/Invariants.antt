use Rattle.std.proofs.Common.{◌+◌, ◌*◌}
use Rattle.mojom_parser.proofs.types.+kind.Given as goal

abbrev pub decreases-array : goal.decreases-array
decreases-array l = 4 * l.left + 1

abbrev pub decreases-map_of : goal.decreases-map_of
decreases-map_of l = 4 * l.left + 1

abbrev pub decreases-base : goal.decreases-base
decreases-base l = 4 * l.left + 2

abbrev pub decreases-node : goal.decreases-node
decreases-node l = 4 * l.left
