use Rattle.std.proofs.Common.{◌≡◌, drop}
use Rattle.std.specs.List.{flat_map}
use Rattle.mojom_files.specs.Refusals.{best_of}
use Rattle.kind_scope.specs.Views.{scope_view}
use Rattle.kind_refusals.specs.KindRefusals.{refused_in_interface}
use Rattle.kind_refusals.proofs.file_check.check_methods.Given as goal

abbrev pub invariant-loop-member : goal.invariant-loop-member
invariant-loop-member l =
    best_of l.best (flat_map (refused_in_interface (scope_view l.scope)) (drop l.member-index l.members))
    ≡ best_of l.fn.best (flat_map (refused_in_interface (scope_view l.scope)) l.members)
