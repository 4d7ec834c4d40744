-- Routers that change at one end.
use Rattle.std.specs.Prelude.{ℕ}
use Rattle.mj_base.specs.declared.ids.EndId.{EndId}
use Rattle.handle_table.specs.Things.{same_end}
use Rattle.bind_model.specs.declared.endpoint.Endpoint.{Endpoint}
use Rattle.endpoint_router.specs.Rows.{RowSeen}
use Rattle.endpoint_router.specs.Turns.{AssociatesIf, EntersIf, TurnsIf}
use Rattle.core_state.specs.Routers.{Routers, router_at}

-- a row turns at an end, and nothing else
abbrev pub TurnsAt : (RowSeen → RowSeen) → EndId → ℕ → Routers → Routers → Type 0
TurnsAt f x id old new = (y : EndId) → TurnsIf f id (same_end x y) (router_at old y) (router_at new y)

-- an endpoint enters at an end, and nothing else changes
abbrev pub EntersAt : Endpoint → EndId → ℕ → Routers → Routers → Type 0
EntersAt endpoint x id old new = (y : EndId) → EntersIf endpoint id (same_end x y) (router_at old y) (router_at new y)

-- an endpoint enters under the next id at an end, and nothing else changes
abbrev pub AssociatesAt : Endpoint → EndId → Routers → Routers → Type 0
AssociatesAt endpoint x old new = (y : EndId) → AssociatesIf endpoint (same_end x y) (router_at old y) (router_at new y)
