use Rattle.std.proofs.Common.{◌∙◌, ap, List, ℕ}
use Rattle.std.specs.Prelude.{◌||◌, ◌==◌}
use Rattle.import_order.specs.Imports.{has}
use Rattle.import_order.proofs.Counts.{has_insert}
use Rattle.import_order.proofs.least.LeastFirst.insert.Goals as goal

pub returns : goal.returns
returns c = λ k.
    ap (λ (xs : List ℕ). has xs k) c.in_ok-insert.ensures.keys
    ∙ (has_insert c.self.inside.numbers.keys c.args.number k ∙ ap (λ (xs : List ℕ). has xs k || (c.args.number == k)) c.self.view_is)
