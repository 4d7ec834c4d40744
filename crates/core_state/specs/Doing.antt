-- What a step does to the state and to the history.
use Rattle.std.specs.Prelude.{◌≡◌, ◌<◌, ◌++◌, [], ◌∷◌, length}
use Rattle.mj_base.specs.declared.limits.TheConstants.{MAX_EVENTS}
use Rattle.mj_base.specs.declared.ids.SeqId.{SeqId}
use Rattle.bind_model.specs.declared.asked.Asked.{Asked}
use Rattle.bind_model.specs.declared.told.Told.{Told}
use Rattle.bind_model.specs.Replies.{answer}
use Rattle.bind_model.specs.Plain.{asked_of, told_of, HandsBack, HandsPendings, HandsResponders, IsOf, command_of, IsSpentAt}
use Rattle.bind_model.specs.declared.commands.Command.{Command}
use Rattle.bind_model.specs.declared.commands.Reply.{Reply}
use Rattle.bind_model.specs.declared.commands.Refused.{Refused}
use Rattle.core_state.specs.declared.state.State.{State}
use Rattle.core_state.specs.Agreement.{past_of, schema_of, wire_in, Holds}

-- there is room for one more event, of a sequence that is there
pub record HasRoom (s : State) (seq : SeqId) : Type 0 where
  pub holds : Holds s
  pub within : seq.0 < s.seqs
  pub room : 0 < s.log.room
  pub few : length s.log.events < MAX_EVENTS

-- a command may be done
pub record CanDo (s : State) (seq : SeqId) (command : Command) : Type 0 where
  pub able : HasRoom s seq
  pub prepared : IsOf (schema_of s) command

-- the reply that the history gives to what is asked
abbrev pub told_to : State → SeqId → Asked → Told
told_to s seq asked = answer (wire_in s) s.seqs (past_of s) seq asked

-- the reply that the history gives
abbrev pub told_in : State → SeqId → Command → Told
told_in s seq command = told_to s seq (asked_of command)

-- one event, the one that the history gives
pub record Done (old new : State) (seq : SeqId) (command : Command) (reply : Reply) : Type 0 where
  pub holds : Holds new
  pub schema : schema_of new ≡ schema_of old
  pub seqs : new.seqs ≡ old.seqs
  pub events : new.log.events ≡ old.log.events ++ record { seq = seq; asked = asked_of command; told = told_in old seq command } ∷ []
  pub told : told_of reply ≡ told_in old seq command
  pub back : HandsBack command reply
  pub responders : HandsResponders (wire_in old) command reply
  pub pendings : HandsPendings (wire_in old) (past_of new) command reply
  pub few : length old.log.events < MAX_EVENTS

-- no event, and the command comes back
pub record Undone (old new : State) (command : Command) (refused : Refused) : Type 0 where
  pub holds : Holds new
  pub schema : schema_of new ≡ schema_of old
  pub seqs : new.seqs ≡ old.seqs
  pub events : new.log.events ≡ old.log.events
  pub back : command_of refused ≡ command
  pub spent : IsSpentAt (length old.log.events) refused
