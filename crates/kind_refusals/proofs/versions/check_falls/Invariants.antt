use Rattle.std.proofs.Common.{◌≡◌, drop, map}
use Rattle.mojom_files.specs.Refusals.{best_of}
use Rattle.kind_scope.specs.Views.{numbered_view, scope_view}
use Rattle.kind_refusals.specs.OrdinalRefusals.{refused_falls}
use Rattle.kind_refusals.proofs.versions.check_falls.Given as goal

-- what is left, after the version of the last member that was passed
abbrev pub invariant-loop-one : goal.invariant-loop-one
invariant-loop-one l =
    best_of l.best (refused_falls (scope_view l.scope) l.before (map numbered_view (drop l.one-index l.members)))
    ≡ best_of l.fn.best (refused_falls (scope_view l.scope) 0 (map numbered_view l.members))
