use Rattle.std.proofs.Common.{◌≡◌, drop, map}
use Rattle.std.specs.Prelude.{filter, if◌then◌else◌}
use Rattle.mojom_files.specs.Refusals.{best_of}
use Rattle.kind_scope.specs.Views.{scope_view}
use Rattle.kind_scope.specs.Attributes.{is_default}
use Rattle.kind_refusals.specs.KindRefusals.{refused_default}
use Rattle.kind_refusals.proofs.enum_check.check_defaults.Given as goal

abbrev pub invariant-loop-enumerator : goal.invariant-loop-enumerator
invariant-loop-enumerator l =
    best_of l.best (map (refused_default (scope_view l.scope)) (drop (if l.is_later then 0 else 1) (filter is_default (drop l.enumerator-index l.enumerators))))
    ≡ best_of l.fn.best (map (refused_default (scope_view l.scope)) (drop 1 (filter is_default l.enumerators)))
