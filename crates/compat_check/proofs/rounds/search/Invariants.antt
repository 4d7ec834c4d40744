use Rattle.std.proofs.Common.{◌≡◌, ◌+◌, ◌-◌, ◌^◌, ◌<◌, length}
use Rattle.compat_check.specs.steps.PairSets.{count}
use Rattle.compat_check.specs.steps.Rounds.{AtSearch}
use Rattle.compat_check.proofs.rounds.search.Given as goal

-- a round, or the first reason; the pairs of the level are those that were seen last
abbrev pub invariant-rounds : goal.invariant-rounds
invariant-rounds l = record {
  state : AtSearch l.old l.new l.seen l.level.items l.reason;
  counted : l.total ≡ count l.seen;
  grown : l.total ≡ l.known + length l.level.items;
  small : l.total < 2 ^ 63;
}

-- each round but the last sees more
abbrev pub decreases-rounds : goal.decreases-rounds
decreases-rounds l = 2 ^ 63 - l.known
