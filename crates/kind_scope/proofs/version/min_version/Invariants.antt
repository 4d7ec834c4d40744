use Rattle.std.proofs.Common.{◌≡◌, drop}
use Rattle.kind_scope.specs.Versions.{min_version}
use Rattle.kind_scope.proofs.version.min_version.Given as goal

abbrev pub invariant-loop-attribute : goal.invariant-loop-attribute
invariant-loop-attribute l = min_version (drop l.attribute-index l.attributes) ≡ min_version l.attributes
