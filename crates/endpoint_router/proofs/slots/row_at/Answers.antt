use Rattle.std.proofs.Common.{ap, ◌∙◌}
use Rattle.std.specs.Prelude.{Option}
use Rattle.std.specs.Option.{option_map}
use Rattle.endpoint_router.specs.Rows.{row_seen, seen_in}
use Rattle.endpoint_router.specs.declared.slot.Placed.{Placed}
use Rattle.endpoint_router.specs.declared.row.Row.{Row}
use Rattle.endpoint_router.specs.Slots.{row_there}
use Rattle.endpoint_router.proofs.slots.row_at.Goals as goal

pub returns-in-Some : goal.returns-in-Some
returns-in-Some c =
    ap (λ (o : Option Row). option_map row_seen o) c.row.ensures ∙ ap (λ (o : Option Placed). seen_in (row_there o)) c.in-Some.ensures

pub returns-in-None : goal.returns-in-None
returns-in-None c = ap (λ (o : Option Placed). seen_in (row_there o)) c.in-None.ensures
