use Rattle.std.proofs.Common.{◌≡◌}
use Rattle.event_follow.proofs.Joining.{GaveBelow}
use Rattle.event_follow.proofs.joins.give_all.Given as goal

-- the ends came at so many places
abbrev pub invariant-loop-place : goal.invariant-loop-place
invariant-loop-place l = record {
  number : l.number ≡ l.place-index;
  given : GaveBelow l.joint l.first l.second l.place-index l.fn.places l.places;
}
