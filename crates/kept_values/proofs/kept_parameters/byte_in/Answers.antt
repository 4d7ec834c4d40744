use Rattle.std.proofs.Common.{arith, rules, SFits}
use Rattle.std.proofs.lemmas.Int.{ints}
use Rattle.std.specs.Int.{w128}
use Rattle.kept_values.proofs.KeptLists.{byte_found}
use Rattle.kept_values.proofs.kept_parameters.byte_in.Goals as goal

pub returns-in-Whole : goal.returns-in-Whole
returns-in-Whole c =
    let fits : SFits w128 c.in-Whole.number = search rules in
    byte_found c.args.value.now c.in-Whole.number _ c.as_byte.result c.in-Whole.is c.as_byte.ensures (omega (arith, ints, fits))
