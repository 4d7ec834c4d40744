use Rattle.std.proofs.Common.{◌≡◌, drop, map, ◌++◌}
use Rattle.draft_rows.specs.RowCounts.{methods_in}
use Rattle.draft_rows.proofs.counts.methods_in.Given as goal

abbrev pub invariant-loop-member : goal.invariant-loop-member
invariant-loop-member l = map (λ m. m.now) l.found.items ++ methods_in (drop l.member-index l.members) ≡ methods_in l.members
