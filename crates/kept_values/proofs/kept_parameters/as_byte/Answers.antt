use Rattle.std.proofs.Common.{sym, arith}
use Rattle.std.proofs.lemmas.Int.{ints}
use Rattle.kept_values.proofs.kept_parameters.as_byte.Goals as goal

pub returns : goal.returns
returns c = sym (omega (arith, ints, c.ranges.number))
