use Rattle.std.proofs.Common.{◌≡◌, ◌≤◌, None, length, drop}
use Rattle.line_parts.specs.steps.Reading.{nearest_in}
use Rattle.line_parts.proofs.KeywordReads.{entries}
use Rattle.line_parts.proofs.keywords.keyword.Given as goal

abbrev pub invariant-loop-value : goal.invariant-loop-value
invariant-loop-value g l = record {
  within : l.near.0 ≤ length l.bytes;
  so_far : nearest_in l.bytes l.near (entries (λ e. e.0) (λ e. e.1.now) (drop l.value-index l.table))
      ≡ nearest_in l.bytes (0, None) (entries (λ e. e.0) (λ e. e.1.now) l.table);
}
