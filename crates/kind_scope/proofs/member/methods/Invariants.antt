use Rattle.std.proofs.Common.{◌≡◌, drop, map, ◌++◌}
use Rattle.std.specs.List.{flat_map}
use Rattle.kind_scope.specs.Members.{method_of}
use Rattle.kind_scope.specs.Views.{member_view}
use Rattle.kind_scope.proofs.member.methods.Given as goal

abbrev pub invariant-loop-member : goal.invariant-loop-member
invariant-loop-member l = map member_view l.found.items ++ flat_map method_of (drop l.member-index l.members) ≡ flat_map method_of l.members
