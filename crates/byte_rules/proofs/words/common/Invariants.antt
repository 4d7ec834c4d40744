use Rattle.std.proofs.Common.{length, ◌-◌, ◌≡◌, ◌≤◌}
use Rattle.byte_rules.specs.Among.{common}
use Rattle.byte_rules.proofs.Fronts.{so_far}
use Rattle.byte_rules.proofs.words.common.Given as goal

abbrev pub invariant-loop-count : goal.invariant-loop-count
invariant-loop-count l = record {
  within_word : l.count ≤ length l.word;
  within_bytes : l.count ≤ length l.bytes;
  so_far : so_far l.word l.bytes l.count ≡ common l.word l.bytes;
}

abbrev pub decreases-loop-count : goal.decreases-loop-count
decreases-loop-count l = length l.word - l.count
