-- A step that adds no event.
use Rattle.std.specs.Prelude.{◌≡◌}
use Rattle.core_state.specs.declared.state.State.{State}
use Rattle.core_state.specs.Agreement.{schema_of, Holds}

-- no event
pub record Stays (old new : State) : Type 0 where
  pub holds : Holds new
  pub schema : schema_of new ≡ schema_of old
  pub seqs : new.seqs ≡ old.seqs
  pub events : new.log.events ≡ old.log.events
