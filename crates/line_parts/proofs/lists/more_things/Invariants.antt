use Rattle.std.proofs.Common.{◌≡◌, ◌∷◌, [], ◌-◌, length}
use Rattle.byte_rules.specs.Lang.{until, many, ◌▸◌}
use Rattle.byte_rules.specs.steps.Reading.{with_front}
use Rattle.handle_table.specs.declared.thing.Thing.{Thing}
use Rattle.line_parts.specs.Signs.{comma, closes}
use Rattle.line_parts.specs.Ids.{thing}
use Rattle.line_parts.proofs.lists.more_things.Given as goal

abbrev pub invariant-loop : goal.invariant-loop
invariant-loop l = with_front (λ (t : Thing). t ∷ []) l.items.items ((until closes (length l.bytes - l.counter) (comma ▸ thing)).read l.rest)
    ≡ with_front (λ (t : Thing). t ∷ []) l.initial.items.items ((many closes (comma ▸ thing)).read l.bytes)
