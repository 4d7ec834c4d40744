-- Messages of the machine that come to one end, unless something holds, or to each end.
use Rattle.std.specs.Prelude.{◌≡◌, Bool, true, false, List, Option}
use Rattle.std.specs.Option.{option_map}
use Rattle.mj_base.specs.declared.ids.EndId.{EndId}
use Rattle.message_pipe.specs.Contents.{Contents}
use Rattle.message_pipe.specs.Ends.{end_of, with_messages}
use Rattle.message_pipe.specs.declared.message.Message.{Message}
use Rattle.core_state.specs.Emitting.{EmitsTo}

-- these messages are written at the other end of a pipe, unless this holds
abbrev pub EmitsUnless : Bool → Option EndId → List Message → Contents → Contents → Type 0
EmitsUnless true o messages old new = new ≡ old
EmitsUnless false o messages old new = EmitsTo o messages old new

-- each end has these messages more, and nothing else changes
pub record Adds (added : EndId → List Message) (old new : Contents) : Type 0 where
  pub ends : (x : EndId) → end_of new.ends x ≡ option_map (with_messages (added x)) (end_of old.ends x)
  pub table : new.table ≡ old.table
  pub made : new.made ≡ old.made
