use Rattle.std.proofs.Common.{◌≡◌, drop, map, max}
use Rattle.std.specs.List.{fold}
use Rattle.kind_scope.specs.Versions.{version_of}
use Rattle.kind_scope.specs.Views.{member_view, scope_view}
use Rattle.draft_rows.proofs.interface_version.latest.Given as goal

abbrev pub invariant-loop-member : goal.invariant-loop-member
invariant-loop-member l =
    fold max l.found (map (version_of (scope_view l.scope)) (map member_view (drop l.member-index l.members)))
    ≡ fold max 0 (map (version_of (scope_view l.scope)) (map member_view l.members))
