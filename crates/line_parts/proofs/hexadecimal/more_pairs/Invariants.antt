use Rattle.std.proofs.Common.{◌≡◌, ◌∷◌, [], ◌-◌, length, ℕ}
use Rattle.byte_rules.specs.Lang.{until, many}
use Rattle.byte_rules.specs.steps.Reading.{with_front}
use Rattle.line_parts.specs.Lists.{pair}
use Rattle.line_parts.proofs.hexadecimal.more_pairs.Given as goal

abbrev pub invariant-loop : goal.invariant-loop
invariant-loop l = with_front (λ (t : ℕ). t ∷ []) l.items.items ((until l.last (length l.bytes - l.counter) pair).read l.rest)
    ≡ with_front (λ (t : ℕ). t ∷ []) l.initial.items.items ((many l.last pair).read l.bytes)
