use Rattle.std.proofs.Common.{sym, ap, arith, rules, SFits, w64}
use Rattle.std.proofs.lemmas.Int.{ints}
use Rattle.wire_model.specs.Trees.{Whole}
use Rattle.kept_values.proofs.kept_parameters.number_part.Goals as goal

pub returns-in-Some : goal.returns-in-Some
returns-in-Some c =
    let fits : SFits w64 c.in-Some.small = search rules in
    ap Whole (omega (arith, ints, fits, c.ranges.number, sym c.in-Some.ensures))
