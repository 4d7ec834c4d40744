use Rattle.std.proofs.Common.{List, [], ◌∷◌, ◌++◌, refl, ap, ◌∙◌}
use Rattle.queued_keys.specs.declared.key.Key.{Key}
use Rattle.message_pipe.proofs.slots.store_next.Goals as goal

pub returns-then-is_err-clause-err : goal.returns-then-is_err-clause-err
returns-then-is_err-clause-err c = (c.reserve.ensures.items, λ a. refl)

pub returns-in-Ok-clause-ok : goal.returns-in-Ok-clause-ok
returns-in-Ok-clause-ok c = (
  c.in-Ok.key,
  c.push_back_reserved.ensures.items ∙ ap (λ (ks : List Key). ks ++ c.in-Ok.key ∷ []) c.reserve.ensures.items,
  c.in-Ok.ensures.ok,
)

pub returns-in-Err-clause-err : goal.returns-in-Err-clause-err
returns-in-Err-clause-err c = (c.reserve.ensures.items, c.in-Err.ensures.err.1)
