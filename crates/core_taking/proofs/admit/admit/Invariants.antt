use Rattle.std.proofs.Common.{List, length, take}
use Rattle.bind_model.specs.Wire.{Named}
use Rattle.core_state.specs.Routers.{found_at}
use Rattle.core_taking.specs.Admits.{AreSlots, IsAdmitted}
use Rattle.core_taking.proofs.admit.admit.Given as goal

-- those so far
abbrev pub invariant-loop-at : goal.invariant-loop-at
invariant-loop-at l = (named : List Named) → AreSlots named (length l.ids) l.slots
    → IsAdmitted (found_at l.endpoints l.end) named (take l.at l.ids) l.seen l.admitted
