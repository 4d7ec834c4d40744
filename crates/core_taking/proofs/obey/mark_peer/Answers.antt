use Rattle.std.proofs.Common.{ap, sym, ◌∙◌}
use Rattle.std.specs.Prelude.{Option, is_some}
use Rattle.bind_model.specs.declared.endpoint.Endpoint.{Endpoint}
use Rattle.endpoint_router.specs.Changes.{marked}
use Rattle.core_state.specs.Routers.{router_at}
use Rattle.core_state.proofs.Turned.{row_found, turns_missing}
use Rattle.core_taking.proofs.obey.mark_peer.Goals as goal

pub turn-requires : goal.turn-requires
turn-requires c =
    row_found (router_at c.args.endpoints.now c.args.end) c.args.id
    (ap (λ (o : Option Endpoint). is_some o) (sym c.find.ensures) ∙ (sym c.is_some.ensures ∙ c.if-is_some.true))

pub returns-else-is_some : goal.returns-else-is_some
returns-else-is_some c =
    turns_missing marked c.args.end c.args.id c.args.endpoints.now
    (ap (λ (o : Option Endpoint). is_some o) (sym c.find.ensures) ∙ (sym c.is_some.ensures ∙ c.if-is_some.false))
