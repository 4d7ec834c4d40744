use Rattle.std.proofs.Common.{◌≡◌, ◌+◌, drop}
use Rattle.std.specs.Option.{option_map}
use Rattle.mojom_lexer.specs.steps.Scans.{before_close}
use Rattle.mojom_lexer.proofs.comments.before_close.Given as goal

abbrev pub invariant-loop-len : goal.invariant-loop-len
invariant-loop-len l = option_map (λ n. l.len + n) (before_close (drop l.len l.bytes)) ≡ before_close l.bytes
