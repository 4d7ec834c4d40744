use Rattle.std.proofs.Common.{◌≡◌, drop, map, ◌++◌}
use Rattle.kind_scope.specs.Members.{numbered_from, numbered}
use Rattle.kind_scope.specs.Views.{member_view, numbered_view}
use Rattle.kind_scope.proofs.member.numbered.Given as goal

abbrev pub invariant-loop-member : goal.invariant-loop-member
invariant-loop-member l =
    map numbered_view l.made.items ++ numbered_from l.next (map member_view (drop l.member-index l.members))
    ≡ numbered (map member_view l.members)
