-- Whether an end may have another endpoint.
use Rattle.std.specs.Prelude.{ℕ, ◌&&◌, not, nat_lt, Option, Some, None, is_some, if◌then◌else◌}
use Rattle.mj_base.specs.declared.ids.EndId.{EndId}
use Rattle.message_pipe.specs.Contents.{Contents}
use Rattle.message_pipe.specs.Ends.{end_of, is_closed}
use Rattle.bind_model.specs.declared.told.Why.{Why}
use Rattle.bind_model.specs.declared.told.Why.TheVariants.{Disconnected, NoName}
use Rattle.core_state.specs.Routers.{Routers, found_at}

-- why none is made, where there are so many interfaces
abbrev pub why_not : ℕ → Contents → Routers → EndId → ℕ → Option Why
why_not interfaces pipes endpoints y interface =
    if not (is_some (found_at endpoints y 0) && nat_lt interface interfaces) then Some NoName
    else (if is_closed (end_of pipes.ends y) then Some Disconnected else None)
