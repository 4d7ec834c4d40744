use Rattle.std.proofs.Common.{◌≡◌, drop, map, ◌++◌}
use Rattle.kind_scope.specs.Members.{parameter_of}
use Rattle.kind_scope.specs.Views.{member_view}
use Rattle.kind_scope.proofs.member.parameters.Given as goal

abbrev pub invariant-loop-parameter : goal.invariant-loop-parameter
invariant-loop-parameter l = map member_view l.found.items ++ map parameter_of (drop l.parameter-index l.parameters) ≡ map parameter_of l.parameters
