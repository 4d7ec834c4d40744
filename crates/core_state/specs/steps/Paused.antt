-- Waits that are met, by what the state keeps.
use Rattle.std.specs.Prelude.{Bool, ◌||◌, List, [], ◌∷◌, Option, Some, None, if◌then◌else◌}
use Rattle.mj_base.specs.declared.ids.EndId.{EndId}
use Rattle.message_pipe.specs.Contents.{Contents}
use Rattle.message_pipe.specs.Ends.{end_of, is_closed}
use Rattle.end_notices.specs.Table.{Lines, notices_at}
use Rattle.end_notices.specs.declared.waits.Wait.{Wait}
use Rattle.core_state.specs.declared.state.State.{State}

-- whether a wait is met: its end is closed, or has consumed the flush
abbrev pub is_met_by : Contents → Lines → Wait → Bool
is_met_by pipes lines w = is_closed (end_of pipes.ends w.end) || (notices_at lines w.end).met w.flush

-- the same of a state
abbrev pub is_met_in : State → Wait → Bool
is_met_in s w = is_met_by s.pipes s.tables.notices w

-- the end that the first wait that isn't met is for
abbrev pub unmet_in : State → List Wait → Option EndId
unmet_in s [] = None
unmet_in s (w ∷ ws) = if is_met_in s w then unmet_in s ws else Some w.end
