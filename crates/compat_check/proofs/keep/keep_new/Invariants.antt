use Rattle.std.proofs.Common.{◌≡◌, ◌+◌, List, take, length}
use Rattle.compat_model.specs.declared.pair.Pair.{Pair}
use Rattle.compat_check.specs.steps.PairSets.{count, IsSetOf}
use Rattle.compat_check.specs.steps.Skims.{Skims, with_seen}
use Rattle.compat_check.proofs.keep.keep_new.Given as goal

-- of the pairs that were passed those are kept that weren't seen
abbrev pub invariant-loop-pair : goal.invariant-loop-pair
invariant-loop-pair l =
    ((list : List Pair) → IsSetOf l.fn.seen list
    → Skims Pair list l.kept.items (take l.pair-index l.pairs) × IsSetOf l.seen (with_seen Pair l.kept.items list))
    × (count l.seen ≡ count l.fn.seen + length l.kept.items)
