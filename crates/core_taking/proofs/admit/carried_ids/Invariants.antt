use Rattle.std.proofs.Common.{◌≡◌}
use Rattle.wire_model.specs.Message.{ids_from}
use Rattle.core_taking.proofs.admit.carried_ids.Given as goal

-- those so far
abbrev pub invariant-loop-k : goal.invariant-loop-k
invariant-loop-k l = l.ids.items ≡ ids_from l.bytes l.span.start l.k
