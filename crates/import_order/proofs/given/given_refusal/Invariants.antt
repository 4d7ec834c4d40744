use Rattle.std.proofs.Common.{◌≡◌, ◌<◌, ℕ}
use Rattle.std.specs.Prelude.{None}
use Rattle.mojom_files.specs.Refusals.{best_of}
use Rattle.import_order.specs.Order.{given_refusals_at}
use Rattle.import_order.proofs.given.given_refusal.Given as goal

abbrev pub invariant-loop-number : goal.invariant-loop-number
invariant-loop-number l = (k : ℕ) → k < l.number → best_of None (given_refusals_at l.files k) ≡ None
