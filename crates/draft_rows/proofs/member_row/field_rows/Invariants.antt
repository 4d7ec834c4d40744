use Rattle.std.proofs.Common.{◌≡◌, drop, map, ◌++◌}
use Rattle.draft_rows.specs.Rows.{found_of, field_row}
use Rattle.draft_rows.proofs.member_row.field_rows.Given as goal
use Rattle.kind_scope.specs.Views.{numbered_view, scope_view}

abbrev pub invariant-loop-one : goal.invariant-loop-one
invariant-loop-one l =
    l.made.items ++ found_of (field_row l.rows (scope_view l.scope)) (map numbered_view (drop l.one-index l.ones))
    ≡ found_of (field_row l.rows (scope_view l.scope)) (map numbered_view l.ones)
