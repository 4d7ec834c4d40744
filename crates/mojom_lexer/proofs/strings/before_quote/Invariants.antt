use Rattle.std.proofs.Common.{◌≡◌, ◌+◌, drop, false}
use Rattle.std.specs.Option.{option_map}
use Rattle.mojom_lexer.specs.steps.Scans.{before_quote}
use Rattle.mojom_lexer.proofs.strings.before_quote.Given as goal

abbrev pub invariant-loop-len : goal.invariant-loop-len
invariant-loop-len l = option_map (λ n. l.len + n) (before_quote l.after_backslash (drop l.len l.bytes)) ≡ before_quote false l.bytes
