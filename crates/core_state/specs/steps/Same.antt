-- Routers in which nothing changes that can be seen.
use Rattle.mj_base.specs.declared.ids.EndId.{EndId}
use Rattle.core_state.specs.Routers.{Routers, router_at}
use Rattle.endpoint_router.specs.Turns.{IsSame}

-- so it is with the router of each end
abbrev pub AllSame : Routers → Routers → Type 0
AllSame old new = (x : EndId) → IsSame (router_at old x) (router_at new x)
