use Rattle.std.proofs.Common.{◌≡◌, ◌∷◌, [], ◌-◌, length}
use Rattle.byte_rules.specs.Lang.{until, many}
use Rattle.byte_rules.specs.steps.Reading.{with_front}
use Rattle.handle_table.specs.declared.thing.Thing.{Thing}
use Rattle.line_parts.specs.Signs.{letter_d}
use Rattle.history_reader.specs.Whole.{left_line}
use Rattle.history_reader.proofs.lines.left_lines.Given as goal

abbrev pub invariant-loop : goal.invariant-loop
invariant-loop l = with_front (λ (t : Thing). t ∷ []) l.left.items ((until letter_d (length l.bytes - l.counter) left_line).read l.rest)
    ≡ with_front (λ (t : Thing). t ∷ []) [] ((many letter_d left_line).read l.bytes)
