use Rattle.std.proofs.Common.{◌≡◌, drop, map, ◌++◌}
use Rattle.draft_rows.specs.Rows.{structs_of_methods}
use Rattle.draft_rows.proofs.interface_row.add_each_method.Given as goal
use Rattle.kind_scope.specs.Views.{scope_view}

abbrev pub invariant-loop-method : goal.invariant-loop-method
invariant-loop-method l =
    l.structs.items ++ structs_of_methods l.rows (scope_view l.scope) l.full (map (λ m. m.now) (drop l.method-index l.methods))
    ≡ l.fn.structs.items ++ structs_of_methods l.rows (scope_view l.scope) l.full (map (λ m. m.now) l.methods)
