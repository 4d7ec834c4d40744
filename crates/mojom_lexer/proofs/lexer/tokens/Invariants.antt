use Rattle.std.proofs.Common.{◌≤◌, ◌-◌, length}
use Rattle.mojom_lexer.specs.Lexed.{Reaches}
use Rattle.mojom_lexer.proofs.lexer.tokens.Given as goal

-- good pieces lead to `at`, and these are their tokens
abbrev pub invariant-loop-at : goal.invariant-loop-at
invariant-loop-at l = record { within : l.at ≤ length l.bytes; reaches : Reaches l.bytes l.at l.tokens.items }

abbrev pub decreases-loop-at : goal.decreases-loop-at
decreases-loop-at l = length l.bytes - l.at
