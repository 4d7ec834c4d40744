-- Round after round of pairs that weren't seen before.
use Rattle.std.specs.Prelude.{◌≡◌, ◌<◌, ℕ, suc, List, [], Option, Some, None}
use Rattle.mj_schema.specs.declared.schema.Schema.{Schema}
use Rattle.compat_model.specs.declared.pair.Pair.{Pair}
use Rattle.compat_model.specs.declared.reason.Reason.{Reason}
use Rattle.compat_model.specs.declared.reason.Verdict.{Verdict}
use Rattle.compat_model.specs.declared.reason.Verdict.TheVariants.{Compatible, Broken}
use Rattle.compat_model.specs.Pairs.{pair_reason, follows}
use Rattle.compat_model.specs.Verdicts.{namesakes, reached, reason_at, IsBroken, IsCompatible}
use Rattle.compat_check.specs.declared.pair_set.PairSet.{PairSet}
use Rattle.compat_check.specs.steps.PairSets.{IsSetOf}
use Rattle.compat_check.specs.steps.Skims.{Skims, with_seen, AreQuiet, FollowIn}

-- after these steps: nothing had a reason so far, what was seen follows into itself and what is at hand, and at hand is what one step more
-- leads to without what was seen
pub record Round (old new : Schema) (steps : ℕ) (seen level : List Pair) : Type 0 where
  pub before : (m : ℕ) → m < suc steps → reason_at old new m ≡ None
  pub skims : Skims Pair seen level (reached old new (suc steps))
  pub quiet : AreQuiet Pair (pair_reason old new (namesakes old new)) seen
  pub follow : FollowIn Pair (follows old new) seen (with_seen Pair level seen)

-- a round, whose pairs and what was seen before are in the set
pub record AtRound (old new : Schema) (seen : PairSet) (level : List Pair) : Type 0 where
  pub steps : ℕ
  pub passed : List Pair
  pub round : Round old new steps passed level
  pub set : IsSetOf seen (with_seen Pair level passed)

-- a round, or the first reason, behind which nothing is at hand
abbrev pub AtSearch : Schema → Schema → PairSet → List Pair → Option Reason → Type 0
AtSearch old new seen level None = AtRound old new seen level
AtSearch old new seen level (Some why) = IsBroken old new why × (level ≡ [])

-- what the search finds is the first reason, and it finds none where there is none
abbrev pub Decides : Schema → Schema → Option Reason → Type 0
Decides old new None = IsCompatible old new
Decides old new (Some why) = IsBroken old new why

-- what is answered where the search has found this
abbrev pub verdict_by : Option Reason → ℕ → Verdict
verdict_by None stable = Compatible stable
verdict_by (Some why) stable = Broken why
