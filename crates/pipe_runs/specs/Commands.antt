-- What commands at ends are told, and what they leave, however the ends are kept.
use Rattle.std.specs.Prelude.{◌≡◌, ◌&&◌, Bool, not, nat_le, List, [], ◌∷◌, Option, Some, None, if◌then◌else◌}
use Rattle.std.specs.Option.{option_map}
use Rattle.mj_base.specs.declared.ids.EndId.{EndId}
use Rattle.mj_base.specs.declared.limits.TheConstants.{MAX_UNREAD_MESSAGES}
use Rattle.handle_table.specs.Things.{same_end}
use Rattle.message_pipe.specs.Ends.{shut, with_message, without_front}
use Rattle.message_pipe.specs.Mail.{front_of, weighs}
use Rattle.message_pipe.specs.declared.message.Message.{Message}
use Rattle.message_pipe.specs.declared.pipe_end.PipeEnd.{PipeEnd}
use Rattle.pipe_runs.specs.declared.run.QueueCommand.{QueueCommand}
use Rattle.pipe_runs.specs.declared.run.QueueCommand.TheVariants.{Write, Read, Close}
use Rattle.pipe_runs.specs.declared.run.QueueReply.{QueueReply}
use Rattle.pipe_runs.specs.declared.run.QueueReply.TheVariants as replies

-- one end becomes this function of it, and each other stays
abbrev pub Turns : EndId → (PipeEnd → PipeEnd) → (EndId → Option PipeEnd) → (EndId → Option PipeEnd) → Type 0
Turns end f old new = (x : EndId) → new x ≡ (if same_end end x then option_map f (old x) else old x)

-- each end is as it was
abbrev pub Stay : (EndId → Option PipeEnd) → (EndId → Option PipeEnd) → Type 0
Stay old new = (x : EndId) → new x ≡ old x

-- the end that a command is at
abbrev pub named : QueueCommand → EndId
named (Write end message) = end
named (Read end) = end
named (Close end) = end

-- whether an end takes no such message: 4,096 that weren't emitted lie unread there, and it isn't emitted itself
abbrev pub is_refused : Message → PipeEnd → Bool
is_refused message end = not message.emitted && nat_le MAX_UNREAD_MESSAGES (weighs end.unread)

-- what a command is told at an end
abbrev pub told : QueueCommand → Option PipeEnd → QueueReply
told (Write end message) None = replies.NoEnd
told (Write end message) (Some before) = if is_refused message before then replies.Full else replies.Written
told (Read end) None = replies.NoEnd
told (Read end) (Some before) = replies.Got (front_of before.unread)
told (Close end) before = replies.Shut

-- and what it leaves of it
abbrev pub left : QueueCommand → Option PipeEnd → Option PipeEnd
left (Write end message) None = None
left (Write end message) (Some before) = Some (if is_refused message before then before else with_message message before)
left (Read end) before = option_map without_front before
left (Close end) before = option_map shut before

-- what each end is after a command
abbrev pub after : QueueCommand → (EndId → Option PipeEnd) → EndId → Option PipeEnd
after command ends x = if same_end (named command) x then left command (ends x) else ends x

-- the replies to commands, in order
abbrev pub replies_to : List QueueCommand → (EndId → Option PipeEnd) → List QueueReply
replies_to [] ends = []
replies_to (command ∷ commands) ends = told command (ends (named command)) ∷ replies_to commands (after command ends)

-- what each end is after all of them
abbrev pub after_all : List QueueCommand → (EndId → Option PipeEnd) → EndId → Option PipeEnd
after_all [] ends x = ends x
after_all (command ∷ commands) ends x = after_all commands (after command ends) x
