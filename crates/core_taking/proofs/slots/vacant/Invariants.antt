use Rattle.std.proofs.Common.{◌≡◌, replicate, None}
use Rattle.core_taking.proofs.slots.vacant.Given as goal

-- as many as there were turns
abbrev pub invariant-loop : goal.invariant-loop
invariant-loop l = l.slots.items ≡ replicate l.counter None
