use Rattle.std.proofs.Common.{◌≡◌, drop, ◌++◌}
use Rattle.draft_rows.specs.RowCounts.{after_all, counts_before}
use Rattle.draft_rows.proofs.counts.add_counts.Given as goal

abbrev pub invariant-loop-view : goal.invariant-loop-view
invariant-loop-view l = record {
  before : l.before.items ++ counts_before l.behind (drop l.view-index l.views) ≡ l.fn.before.items ++ counts_before l.fn.counts l.views;
  behind : after_all l.behind (drop l.view-index l.views) ≡ after_all l.fn.counts l.views;
}
