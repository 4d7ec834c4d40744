use Rattle.std.proofs.Common.{◌≡◌, ◌++◌, take}
use Rattle.std.specs.Prelude.{codes}
use Rattle.std.specs.List.{flat_map}
use Rattle.mojom_print.specs.Attributes.{attribute_text}
use Rattle.mojom_print.proofs.attributes.push_attributes.Given as goal

abbrev pub invariant-loop-attribute : goal.invariant-loop-attribute
invariant-loop-attribute l =
    l.out.items ≡ l.initial.out.items ++ flat_map (λ attribute. codes ", " ++ attribute_text attribute) (take l.attribute-index l.rest)
