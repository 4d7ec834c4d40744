use Rattle.std.proofs.Common.{◌≡◌, drop, map, max}
use Rattle.std.specs.List.{fold}
use Rattle.kind_scope.specs.Views.{scope_view}
use Rattle.draft_rows.specs.InterfaceVersions.{latest_of_method}
use Rattle.draft_rows.proofs.interface_version.latest_of_methods.Given as goal

abbrev pub invariant-loop-method : goal.invariant-loop-method
invariant-loop-method l =
    fold max l.found (map (latest_of_method (scope_view l.scope)) (map (λ m. m.now) (drop l.method-index l.list)))
    ≡ fold max 0 (map (latest_of_method (scope_view l.scope)) (map (λ m. m.now) l.list))
