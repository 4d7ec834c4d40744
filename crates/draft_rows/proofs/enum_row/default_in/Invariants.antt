use Rattle.std.proofs.Common.{◌≡◌, drop, map}
use Rattle.draft_rows.specs.Rows.{default_in}
use Rattle.draft_rows.proofs.enum_row.default_in.Given as goal
use Rattle.draft_rows.specs.steps.Views.{valued_view}

abbrev pub invariant-loop-one : goal.invariant-loop-one
invariant-loop-one l =
    default_in (map valued_view (drop l.one-index l.ones)) ≡ default_in (map valued_view l.ones)
