use Rattle.std.proofs.Common.{◌≡◌, map, pos, replicate}
use Rattle.wire_model.specs.Trees.{Whole, view}
use Rattle.load_run.proofs.values.bytes.Given as goal

-- the bytes so far
abbrev pub invariant-loop : goal.invariant-loop
invariant-loop l = map view l.bytes.items ≡ replicate l.counter (Whole (pos l.byte))
