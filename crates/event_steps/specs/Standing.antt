-- What holds of a machine between its steps.
use Rattle.std.specs.Prelude.{◌≡◌, true, List}
use Rattle.mj_base.specs.declared.ids.EndId.{EndId}
use Rattle.bind_core.specs.Covers.{AllListed}
use Rattle.bind_core.specs.EndSets.{has_end}
use Rattle.bind_model.specs.Ready.{is_ready}
use Rattle.core_state.specs.Agreement.{Holds, past_of, wire_in}
use Rattle.core_state.specs.declared.state.State.{State}
use Rattle.event_tables.specs.AsCore.{past_by, state_of}
use Rattle.event_steps.specs.declared.machine.Machine.{Machine}

-- each end where a take is ready is in the set
abbrev pub Covers : State → List EndId → Type 0
Covers s ends = (x : EndId) → is_ready (wire_in s) (past_of s) x ≡ true → has_end ends x ≡ true

-- its tables are what its events say, it watches each such end, and knows those that wait by what ends their waits
pub record Stands (machine : Machine) : Type 0 where
  pub holds : Holds (state_of machine.tables)
  pub covers : Covers (state_of machine.tables) machine.watched
  pub listed : AllListed machine.waiting (past_by machine.tables)
