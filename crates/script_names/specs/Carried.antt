-- What goes with commands, and what comes back with replies.
use Rattle.std.specs.Prelude.{ℕ, List, [], ◌∷◌, length, Option, Some, None}
use Rattle.handle_table.specs.declared.thing.Thing.{Thing}
use Rattle.bind_model.specs.Pendings.{Half}
use Rattle.bind_model.specs.declared.endpoint.ResponderId.{ResponderId}
use Rattle.bind_model.specs.declared.commands.Command.{Command}
use Rattle.bind_model.specs.declared.commands.Command.TheVariants.{Bind, Associate, Attach, Call, Answer, Raw, Close, Flow}
use Rattle.bind_model.specs.declared.commands.ToClose.TheVariants as close
use Rattle.bind_model.specs.declared.commands.Reply.{Reply}
use Rattle.bind_model.specs.declared.commands.Reply.TheVariants.{Associated, Wrote, Flowed, No}

-- ## With a command

-- what the handles that go with a command are of
abbrev pub things_with : Command → List Thing
things_with (Bind handle side interface) = handle ∷ []
things_with (Call end id prepared handles pendings moment) = handles
things_with (Answer responder prepared handles pendings moment) = handles
things_with (Raw handle bytes handles) = handle ∷ handles
things_with (Close (close.Handle handle)) = handle ∷ []
things_with (Flow handle flow) = handle ∷ []
things_with command = []

-- the pendings that go with a command
abbrev pub halves_with : Command → List Half
halves_with (Attach pending seq) = pending ∷ []
halves_with (Call end id prepared handles pendings moment) = pendings
halves_with (Answer responder prepared handles pendings moment) = pendings
halves_with (Close (close.Pending pending)) = pending ∷ []
halves_with command = []

-- for how many pendings there is to be room
abbrev pub halves_room : Command → ℕ
halves_room (Associate end side interface) = 1
halves_room command = length (halves_with command)

-- the responder that goes with a command
abbrev pub responder_with : Command → Option ResponderId
responder_with (Answer responder prepared handles pendings moment) = Some responder
responder_with (Close (close.Responder responder)) = Some responder
responder_with command = None

-- ## With a reply

-- for how many handles that come back there is to be room
abbrev pub things_back : Reply → List Thing
things_back (Wrote handle) = handle ∷ []
things_back (Flowed handle flowed) = handle ∷ []
things_back (No why command) = things_with command
things_back reply = []

-- for how many pendings that come back there is to be room
abbrev pub halves_back : Reply → ℕ
halves_back (Associated pending) = 1
halves_back (No why command) = length (halves_with command)
halves_back reply = 0
