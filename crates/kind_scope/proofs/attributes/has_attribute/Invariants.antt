use Rattle.std.proofs.Common.{◌≡◌, drop}
use Rattle.kind_scope.specs.Attributes.{has_attribute}
use Rattle.kind_scope.proofs.attributes.has_attribute.Given as goal

abbrev pub invariant-loop-attribute : goal.invariant-loop-attribute
invariant-loop-attribute l =
    has_attribute l.name (drop l.attribute-index l.attributes) ≡ has_attribute l.name l.attributes
