use Rattle.std.proofs.Common.{◌≡◌, ◌≤◌, None, length, drop}
use Rattle.line_parts.specs.steps.Reading.{nearest_in}
use Rattle.line_parts.proofs.KeywordReads.{entries}
use Rattle.line_parts.proofs.names.text_of.Given as goal

abbrev pub invariant-loop-entry : goal.invariant-loop-entry
invariant-loop-entry g l = record {
  within : l.near.0 ≤ length l.bytes;
  so_far : nearest_in l.bytes l.near (entries (λ e. tt) (λ e. e.text) (drop l.entry-index l.entries))
      ≡ nearest_in l.bytes (0, None) (entries (λ e. tt) (λ e. e.text) l.entries);
}
