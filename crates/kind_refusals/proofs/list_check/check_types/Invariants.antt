use Rattle.std.proofs.Common.{◌≡◌, drop, map}
use Rattle.std.specs.List.{flat_map}
use Rattle.mojom_files.specs.Refusals.{best_of}
use Rattle.kind_scope.specs.Views.{member_view, scope_view}
use Rattle.kind_refusals.specs.TypeRefusals.{refused_in_member}
use Rattle.kind_refusals.proofs.list_check.check_types.Given as goal

abbrev pub invariant-loop-member : goal.invariant-loop-member
invariant-loop-member l =
    best_of l.best (flat_map (refused_in_member (scope_view l.scope) l.fields) (map member_view (drop l.member-index l.members)))
    ≡ best_of l.fn.best (flat_map (refused_in_member (scope_view l.scope) l.fields) (map member_view l.members))
