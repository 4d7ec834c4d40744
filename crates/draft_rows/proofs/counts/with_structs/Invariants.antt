use Rattle.std.proofs.Common.{◌≡◌, ◌+◌, ◌^◌, ◌<◌, drop}
use Rattle.draft_rows.specs.RowCounts.{structs_of_all, methods_in}
use Rattle.draft_rows.proofs.counts.with_structs.Given as goal

abbrev pub invariant-loop-member : goal.invariant-loop-member
invariant-loop-member l = record {
  rest : l.sum + structs_of_all (methods_in (drop l.member-index l.members)) ≡ l.fn.count + structs_of_all (methods_in l.members);
  small : l.sum < 2 ^ 32;
}
