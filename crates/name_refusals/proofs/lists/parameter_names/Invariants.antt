use Rattle.std.proofs.Common.{◌≡◌, take, map}
use Rattle.name_refusals.specs.NameRefusals.{parameter_names}
use Rattle.name_refusals.proofs.lists.parameter_names.Given as goal

abbrev pub invariant-loop-parameter : goal.invariant-loop-parameter
invariant-loop-parameter l = map (λ n. n.now) l.names.items ≡ parameter_names (take l.parameter-index l.parameters)
