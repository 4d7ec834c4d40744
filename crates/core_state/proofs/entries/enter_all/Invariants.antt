use Rattle.std.proofs.Common.{take}
use Rattle.core_state.proofs.Entered.{EnteredSoFar}
use Rattle.core_state.proofs.entries.enter_all.Given as goal

abbrev pub invariant-loop-entry : goal.invariant-loop-entry
invariant-loop-entry l = EnteredSoFar (take l.entry-index l.entries) l.end l.initial.table l.table
