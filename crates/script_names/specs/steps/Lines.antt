-- What lines ask, case by case, by what is held or meant.
use Rattle.std.specs.Prelude.{ℕ, List, Option, option_and_then}
use Rattle.std.specs.Option.{option_map}
use Rattle.mj_base.specs.declared.ids.EndId.{EndId}
use Rattle.mj_base.specs.declared.ids.SeqId.{SeqId}
use Rattle.handle_table.specs.declared.thing.Thing.{Thing}
use Rattle.wire_encoder.specs.declared.endpoint.EndpointSide.{EndpointSide}
use Rattle.bind_model.specs.declared.asked.Asked.{Asked}
use Rattle.bind_model.specs.declared.asked.Asked.TheVariants as asks
use Rattle.bind_model.specs.declared.asked.Closing.TheVariants as closings
use Rattle.bind_model.specs.declared.asked.Notice.{Notice}
use Rattle.bind_model.specs.declared.endpoint.PendingId.{PendingId}
use Rattle.bind_model.specs.declared.endpoint.ResponderId.{ResponderId}
use Rattle.bind_model.specs.declared.commands.Command.{Command}
use Rattle.bind_model.specs.declared.flow.Flow.{Flow}
use Rattle.call_script.specs.declared.script.NameId.{NameId}
use Rattle.script_names.specs.declared.rooms.Rooms.{Rooms}
use Rattle.script_names.specs.Asking.{closed_of, or_skip}
use Rattle.script_names.specs.Settling.{Took}

-- to bind what is held, or to skip the line of this number
abbrev pub bound : ℕ → EndpointSide → ℕ → Option Thing → Asked
bound number side interface thing = or_skip number (option_map (λ (x : Thing). asks.Bind x side interface) thing)

-- to associate an endpoint with the end that is meant, or to skip the line of this number
abbrev pub associated : ℕ → EndpointSide → ℕ → Option EndId → Asked
associated number side interface end = or_skip number (option_map (λ (y : EndId). asks.Associate y side interface) end)

-- to attach the pending that is held, or to skip the line of this number
abbrev pub attached : ℕ → SeqId → Option PendingId → Asked
attached number seq pending = or_skip number (option_map (λ (p : PendingId). asks.Attach p seq) pending)

-- to take at the end that is meant, or to skip the line of this number
abbrev pub taken : ℕ → Option EndId → Asked
taken number end = or_skip number (option_map asks.Take end)

-- to close what is held, or to skip the line of this number
abbrev pub shut : ℕ → Option Thing → Option PendingId → Option ResponderId → Asked
shut number thing pending responder = or_skip number (closed_of thing pending responder)

-- to close the endpoint of this id at the end that is meant, or to skip the line of this number
abbrev pub shut_at : ℕ → ℕ → Option EndId → Asked
shut_at number id end = or_skip number (option_map (λ (y : EndId). asks.Close (closings.Endpoint y id)) end)

-- to write a control from the end that is meant, or to skip the line of this number
abbrev pub noticed : ℕ → Notice → Option EndId → Asked
noticed number notice end = or_skip number (option_map (λ (y : EndId). asks.Notify y notice) end)

-- to pause the first end that is meant until the other has consumed a flush, or to skip the line of this number
abbrev pub paused : ℕ → ℕ → Option EndId → Option EndId → Asked
paused number flush end other =
    or_skip number (option_and_then (λ (b : EndId). option_map (λ (a : EndId). asks.Pause b a flush) other) end)

-- to move bytes at what is held, or to skip the line of this number
abbrev pub flowing : ℕ → Flow → Option Thing → Asked
flowing number flow thing = or_skip number (option_map (λ (x : Thing). asks.Flow x flow) thing)

-- nothing goes with a command, so that whatever its names are nothing is taken for it
abbrev pub TakesNothing : Command → Type 0
TakesNothing command = (one : Option NameId) (handles pendings : List NameId) (rooms : Rooms) → Took one handles pendings command rooms rooms
