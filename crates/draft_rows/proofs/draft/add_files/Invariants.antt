use Rattle.std.proofs.Common.{◌≡◌, drop}
use Rattle.draft_rows.specs.RowCounts.{no_rows}
use Rattle.draft_rows.specs.Drafts.{join, draft_from}
use Rattle.draft_rows.proofs.draft.add_files.Given as goal
use Rattle.draft_rows.specs.steps.Views.{lists_view}

abbrev pub invariant-loop-number : goal.invariant-loop-number
invariant-loop-number l =
    join (lists_view l.lists) (draft_from l.rows l.names.files l.consts l.files l.counts (drop l.number-index l.order))
    ≡ join (lists_view l.fn.lists) (draft_from l.rows l.names.files l.consts l.files no_rows l.order)
