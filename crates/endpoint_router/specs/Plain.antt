-- The endpoints of all ends, a router for each.
use Rattle.std.specs.Prelude.{Bool, List, Option, Some, None, is_some}
use Rattle.std.specs.Map.{lookup}
use Rattle.mj_base.specs.declared.ids.EndId.{EndId}
use Rattle.handle_table.specs.Things.{same_end}
use Rattle.endpoint_router.specs.Rows.{Contents, no_endpoints}

-- what a router says, where there is one
abbrev pub contents_in : Option Contents → Contents
contents_in None = no_endpoints
contents_in (Some contents) = contents

-- the router of an end
abbrev pub router_in : List (EndId × Contents) → EndId → Contents
router_in routers x = contents_in (lookup (same_end x) routers)

-- whether an end has one
abbrev pub has_router : List (EndId × Contents) → EndId → Bool
has_router routers x = is_some (lookup (same_end x) routers)
