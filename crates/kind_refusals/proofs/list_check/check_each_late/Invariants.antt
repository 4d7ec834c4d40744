use Rattle.std.proofs.Common.{◌≡◌, drop, map}
use Rattle.std.specs.List.{flat_map}
use Rattle.mojom_files.specs.Refusals.{best_of}
use Rattle.kind_scope.specs.Views.{numbered_view, scope_view}
use Rattle.kind_refusals.specs.OrdinalRefusals.{refused_late}
use Rattle.kind_refusals.proofs.list_check.check_each_late.Given as goal

abbrev pub invariant-loop-one : goal.invariant-loop-one
invariant-loop-one l =
    best_of l.best (flat_map (refused_late (scope_view l.scope)) (map numbered_view (drop l.one-index l.members)))
    ≡ best_of l.fn.best (flat_map (refused_late (scope_view l.scope)) (map numbered_view l.members))
