-- The routers of ends, as the core keeps them.
use Rattle.std.specs.Prelude.{ℕ, Option}
use Rattle.mj_base.specs.declared.ids.EndId.{EndId}
use Rattle.bind_model.specs.declared.endpoint.Endpoint.{Endpoint}
use Rattle.endpoint_router.specs.Rows.{Contents, endpoints_of}
use Rattle.endpoint_router.specs.Table.{Table, router_of}

-- the endpoints of all ends in one table
abbrev pub Routers : Type 0
Routers = Table

-- the router of an end
abbrev pub router_at : Routers → EndId → Contents
router_at routers x = router_of routers x

-- the endpoint of an id at an end
abbrev pub found_at : Routers → EndId → ℕ → Option Endpoint
found_at routers x id = endpoints_of (router_at routers x) id
