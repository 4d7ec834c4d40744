use Rattle.std.proofs.Common.{◌≡◌, drop, ◌++◌}
use Rattle.draft_rows.specs.RowCounts.{rows_from, rows_of}
use Rattle.draft_rows.proofs.counts.rows_of.Given as goal

abbrev pub invariant-loop-number : goal.invariant-loop-number
invariant-loop-number l = l.rows.items ++ rows_from l.files l.counts (drop l.number-index l.order) ≡ rows_of l.files l.order
