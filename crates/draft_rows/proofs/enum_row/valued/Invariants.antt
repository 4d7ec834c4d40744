use Rattle.std.proofs.Common.{◌≡◌, drop, map, ◌++◌}
use Rattle.draft_rows.specs.Rows.{valued_from, valued}
use Rattle.draft_rows.proofs.enum_row.valued.Given as goal
use Rattle.kind_scope.specs.Views.{scope_view}
use Rattle.draft_rows.specs.steps.Views.{valued_view}

abbrev pub invariant-loop-enumerator : goal.invariant-loop-enumerator
invariant-loop-enumerator l =
    map valued_view l.made.items ++ valued_from (scope_view l.scope) l.next (drop l.enumerator-index l.enumerators)
    ≡ valued (scope_view l.scope) l.enumerators
