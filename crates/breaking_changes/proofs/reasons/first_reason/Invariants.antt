use Rattle.std.proofs.Common.{◌≡◌, drop}
use Rattle.compat_model.specs.Members.{first_found}
use Rattle.compat_model.specs.Pairs.{pair_reason}
use Rattle.breaking_changes.proofs.reasons.first_reason.Given as goal

-- the first of what is left is the first of all
abbrev pub invariant-loop-pair : goal.invariant-loop-pair
invariant-loop-pair l =
    first_found (pair_reason l.old l.new l.namesakes) (drop l.pair-index l.pairs) ≡ first_found (pair_reason l.old l.new l.namesakes) l.pairs
