use Rattle.std.proofs.Common.{◌≤◌, ◌+◌}
use Rattle.history_audit.proofs.Differing.{SameSoFar}
use Rattle.history_audit.proofs.texts.first_difference.Given as goal

-- so far the texts are the same
abbrev pub invariant-loop-at : goal.invariant-loop-at
invariant-loop-at l = record {
  small : l.line ≤ l.at + 1;
  so : SameSoFar l.bytes l.text l.line l.at;
}
