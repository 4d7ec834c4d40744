use Rattle.std.proofs.Common.{◌≡◌, drop, map, ◌++◌}
use Rattle.draft_rows.specs.Drafts.{methods_order}
use Rattle.draft_rows.proofs.draft.add_methods_order.Given as goal

abbrev pub invariant-loop-method : goal.invariant-loop-method
invariant-loop-method l =
    l.order.items ++ methods_order l.number (map (λ m. m.now) (drop l.method-index l.methods))
    ≡ l.fn.order.items ++ methods_order l.fn.first (map (λ m. m.now) l.methods)
