use Rattle.std.proofs.Common.{◌≡◌, drop, map, ◌++◌}
use Rattle.draft_rows.specs.Rows.{method_rows}
use Rattle.draft_rows.proofs.interface_row.method_rows.Given as goal

abbrev pub invariant-loop-method : goal.invariant-loop-method
invariant-loop-method l =
    l.made.items ++ method_rows l.next l.number (map (λ m. m.now) (drop l.method-index l.methods))
    ≡ method_rows 0 l.fn.first (map (λ m. m.now) l.methods)
