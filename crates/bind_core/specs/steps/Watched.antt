-- What is watched before a command is done.
use Rattle.std.specs.Prelude.{◌≡◌, true, List}
use Rattle.mj_base.specs.declared.ids.EndId.{EndId}
use Rattle.bind_model.specs.Ready.{is_ready}
use Rattle.bind_model.specs.declared.commands.Command.{Command}
use Rattle.bind_core.specs.EndSets.{has_end}
use Rattle.bind_core.specs.Causes.{IsNoted, Lists}
use Rattle.bind_core.specs.steps.Watching.{HasNear, end_named}
use Rattle.core_state.specs.Agreement.{past_of, wire_in}
use Rattle.core_state.specs.declared.state.State.{State}

-- each end where a take is ready is in the set
abbrev pub CoversReady : State → List EndId → Type 0
CoversReady s ends = (x : EndId) → is_ready (wire_in s) (past_of s) x ≡ true → has_end ends x ≡ true

-- and what the command may make ready, and the wait that it gives is known by its causes
pub record IsWatched (s : State) (command : Command) (ends : List EndId) (lists : Lists) : Type 0 where
  pub ready : CoversReady s ends
  pub near : HasNear s (end_named command) ends
  pub noted : IsNoted lists command
