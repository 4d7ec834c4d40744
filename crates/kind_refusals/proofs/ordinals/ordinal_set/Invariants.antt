use Rattle.std.proofs.Common.{◌≡◌, ℕ, take, map}
use Rattle.std.specs.BTreeSet.{contains}
use Rattle.std.specs.Ordering.{nat_cmp}
use Rattle.kind_scope.specs.Views.{numbered_view}
use Rattle.kind_refusals.specs.OrdinalRefusals.{is_among, ordinals_of}
use Rattle.kind_refusals.proofs.ordinals.ordinal_set.Given as goal

abbrev pub invariant-loop-one : goal.invariant-loop-one
invariant-loop-one l = (q : ℕ) → contains nat_cmp l.seen q ≡ is_among (ordinals_of (map numbered_view (take l.one-index l.members))) q
