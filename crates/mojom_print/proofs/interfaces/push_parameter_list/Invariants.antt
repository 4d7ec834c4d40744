use Rattle.std.proofs.Common.{◌≡◌, ◌++◌, take}
use Rattle.std.specs.Prelude.{codes}
use Rattle.std.specs.List.{flat_map}
use Rattle.mojom_print.specs.Interfaces.{parameter_text}
use Rattle.mojom_print.proofs.interfaces.push_parameter_list.Given as goal

abbrev pub invariant-loop-parameter : goal.invariant-loop-parameter
invariant-loop-parameter l =
    l.out.items ≡ l.initial.out.items ++ flat_map (λ parameter. codes ", " ++ parameter_text parameter) (take l.parameter-index l.rest)
