-- The order of ends, by which a table of them finds one.
use Rattle.std.proofs.Common.{◌≡◌, ◌∙◌}
use Rattle.std.specs.Prelude.{◌&&◌}
use Rattle.std.specs.BTreeMap.{is_at}
use Rattle.std.specs.Ordering.{nat_cmp, ordering_then}
use Rattle.std.specs.declared.cmp.Ordering.{Ordering}
use Rattle.mj_base.specs.declared.ids.EndId.{EndId}
use Rattle.handle_table.specs.Things.{same_end}
use Rattle.bind_model.proofs.NameOrder.{both_equal, tied}

-- by sequence, then by number
abbrev pub end_cmp : EndId → EndId → Ordering
end_cmp a b = ordering_then (nat_cmp a.seq b.seq) (nat_cmp a.serial b.serial)

-- ends that compare alike are one
pub alike : (x y : EndId) → is_at (end_cmp x) y ≡ same_end x y
alike x y = both_equal (nat_cmp x.seq y.seq) (nat_cmp x.serial y.serial) ∙ (λ i. tied x.seq y.seq i && tied x.serial y.serial i)
