use Rattle.std.proofs.Common.{◌≡◌, ◌∷◌, [], ◌-◌, length}
use Rattle.byte_rules.specs.Lang.{until, many, ◌▸◌}
use Rattle.byte_rules.specs.steps.Reading.{with_front}
use Rattle.bind_model.specs.declared.endpoint.PendingId.{PendingId}
use Rattle.line_parts.specs.Signs.{comma, closes}
use Rattle.line_parts.specs.Ids.{pending}
use Rattle.line_parts.proofs.lists.more_pendings.Given as goal

abbrev pub invariant-loop : goal.invariant-loop
invariant-loop l = with_front (λ (t : PendingId). t ∷ []) l.items.items ((until closes (length l.bytes - l.counter) (comma ▸ pending)).read l.rest)
    ≡ with_front (λ (t : PendingId). t ∷ []) l.initial.items.items ((many closes (comma ▸ pending)).read l.bytes)
