use Rattle.std.proofs.Common.{◌≡◌, drop}
use Rattle.draft_rows.specs.RowCounts.{after_all}
use Rattle.draft_rows.specs.Drafts.{join, draft_of_all}
use Rattle.draft_rows.proofs.draft.add_all.Given as goal
use Rattle.draft_rows.specs.steps.Views.{lists_view}
use Rattle.kind_scope.specs.Views.{scope_view}

abbrev pub invariant-loop-view : goal.invariant-loop-view
invariant-loop-view l = record {
  added : join (lists_view l.lists) (draft_of_all l.rows (scope_view l.scope) l.behind (drop l.view-index l.views))
      ≡ join (lists_view l.fn.lists) (draft_of_all l.rows (scope_view l.scope) l.fn.counts l.views);
  behind : after_all l.behind (drop l.view-index l.views) ≡ after_all l.fn.counts l.views;
}
