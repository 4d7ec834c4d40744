use Rattle.std.proofs.Common.{◌≡◌, drop}
use Rattle.mojom_lexer.specs.Numbers.{value_from}
use Rattle.mojom_lexer.proofs.numbers.value_in.Given as goal

-- the digits so far are worth `value`
abbrev pub invariant-loop-byte : goal.invariant-loop-byte
invariant-loop-byte l = value_from l.base l.value (drop l.byte-index l.digits) ≡ value_from l.base 0 l.digits
