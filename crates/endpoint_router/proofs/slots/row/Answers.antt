use Rattle.std.proofs.Common.{ℕ, ap, sym, ◌∙◌}
use Rattle.std.specs.Prelude.{Option}
use Rattle.endpoint_router.specs.Rows.{seen_in}
use Rattle.endpoint_router.specs.steps.SlotChanges.{row_under}
use Rattle.endpoint_router.proofs.slots.row.Goals as goal

pub returns-in-Some : goal.returns-in-Some
returns-in-Some c =
    c.row_at.ensures ∙ ap (λ (o : Option ℕ). seen_in (row_under c.args.rows.now.slots o)) (sym (sym c.key.ensures ∙ c.in-Some.is))

pub returns-in-None : goal.returns-in-None
returns-in-None c = ap (λ (o : Option ℕ). seen_in (row_under c.args.rows.now.slots o)) (sym (sym c.key.ensures ∙ c.in-None.is))
