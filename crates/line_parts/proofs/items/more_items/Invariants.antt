use Rattle.std.proofs.Common.{◌≡◌, ◌-◌, ◌==◌, Bool, length}
use Rattle.byte_rules.specs.Lang.{closed, ◌▸◌}
use Rattle.line_parts.specs.Signs.{comma, closes}
use Rattle.line_parts.specs.Series.{at_most}
use Rattle.line_parts.specs.Lists.{is_pending, item, more_items}
use Rattle.line_parts.specs.steps.Reading.{gathered, add_items}
use Rattle.line_parts.specs.declared.items.Item.{Item}
use Rattle.line_parts.proofs.items.more_items.Given as goal

abbrev pub invariant-loop : goal.invariant-loop
invariant-loop l = gathered add_items (l.tokens.handles.items, l.tokens.pendings.items)
    ((at_most (λ b. b == closes) (λ seen. comma ▸ item seen) (λ (seen : Bool) (x : Item). is_pending x) (closed closes tt)
    (length l.bytes - l.counter) l.seen).read l.rest)
    ≡ gathered add_items (l.initial.tokens.handles.items, l.initial.tokens.pendings.items) ((more_items l.initial.seen).read l.bytes)
