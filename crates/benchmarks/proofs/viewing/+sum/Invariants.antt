use Rattle.std.proofs.Common.{◌+◌, ◌*◌}
use Rattle.benchmarks.proofs.viewing.+sum.Given as goal

abbrev pub decreases-with_part : goal.decreases-with_part
decreases-with_part l = 3 * l.left

abbrev pub decreases-with_parts : goal.decreases-with_parts
decreases-with_parts l = 3 * l.left + 1

abbrev pub decreases-with_object : goal.decreases-with_object
decreases-with_object l = 3 * l.left + 2
