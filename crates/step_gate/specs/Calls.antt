-- The calls of a gate.
use Rattle.std.specs.Prelude.{ℕ, zero, suc, List, [], ◌∷◌, ◌++◌}
use Rattle.mj_base.specs.declared.ids.SeqId.{SeqId}
use Rattle.step_gate.specs.declared.GateCall.{GateCall}
use Rattle.step_gate.specs.declared.GateCall.TheVariants.{Before, After}
use Rattle.step_gate.specs.declared.CallList.{CallList, Empty, More'}

-- those round the first so many steps of a sequence: one before and one after each, in order
abbrev pub calls_round : SeqId → ℕ → List GateCall
calls_round seq zero = []
calls_round seq (suc n) = calls_round seq n ++ Before seq n ∷ After seq n ∷ []

-- the calls that a list for clauses says, the first in front
abbrev pub listed : CallList → List GateCall
listed Empty = []
listed (More' marker before last) = listed before ++ last ∷ []
