use Rattle.std.proofs.Common.{take}
use Rattle.core_state.specs.Entries.{ArePlaced}
use Rattle.core_state.specs.Routers.{router_at}
use Rattle.core_state.specs.steps.Same.{AllSame}
use Rattle.core_state.proofs.entries.place_all.Given as goal

-- there are places for those so far, and nothing else changed
abbrev pub invariant-loop-entry : goal.invariant-loop-entry
invariant-loop-entry l = AllSame l.initial.table l.table × ArePlaced (router_at l.table l.end) (take l.entry-index l.entries)
