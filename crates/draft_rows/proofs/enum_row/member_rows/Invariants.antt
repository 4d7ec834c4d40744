use Rattle.std.proofs.Common.{◌≡◌, drop, map, ◌++◌}
use Rattle.draft_rows.specs.Rows.{member_row}
use Rattle.draft_rows.proofs.enum_row.member_rows.Given as goal
use Rattle.draft_rows.specs.steps.Views.{valued_view}

abbrev pub invariant-loop-one : goal.invariant-loop-one
invariant-loop-one l =
    l.made.items ++ map member_row (map valued_view (drop l.one-index l.ones)) ≡ map member_row (map valued_view l.ones)
