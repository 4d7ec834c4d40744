use Rattle.std.proofs.Common.{◌≡◌, ◌+◌, drop}
use Rattle.mojom_lexer.specs.steps.Scans.{run_len}
use Rattle.mojom_lexer.proofs.bytes.run_len.Given as goal

-- the bytes so far pass
abbrev pub invariant-loop-len : goal.invariant-loop-len
invariant-loop-len g l = run_len g.test l.bytes ≡ l.len + run_len g.test (drop l.len l.bytes)
