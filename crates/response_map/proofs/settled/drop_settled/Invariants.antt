use Rattle.std.proofs.Common.{◌≡◌, not, btree_map_len}
use Rattle.std.specs.FinMap.{retain_keys}
use Rattle.response_map.specs.Contents.{callbacks_of}
use Rattle.response_map.specs.steps.Scopes.{has}
use Rattle.response_map.proofs.settled.drop_settled.Given as goal

-- those that are not of the scope are as they were
abbrev pub invariant-loop-key : goal.invariant-loop-key
invariant-loop-key g l =
    retain_keys (callbacks_of l.callbacks) (λ x. not (has l.scope x))
    ≡ retain_keys (callbacks_of l.fn.callbacks) (λ x. not (has l.scope x))

abbrev pub decreases-loop-key : goal.decreases-loop-key
decreases-loop-key g l = btree_map_len l.callbacks
