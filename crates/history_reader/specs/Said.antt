-- What the text of a history says: all but the interfaces of the endpoints of responders.
use Rattle.std.specs.Prelude.{List, map, length}
use Rattle.handle_table.specs.declared.thing.Thing.{Thing}
use Rattle.bind_model.specs.declared.asked.Asked.{Asked}
use Rattle.bind_model.specs.declared.asked.Asked.TheVariants.{Answer, Close}
use Rattle.bind_model.specs.declared.asked.Closing.{Closing}
use Rattle.bind_model.specs.declared.asked.Closing.TheVariants.{Responder}
use Rattle.bind_model.specs.declared.endpoint.ResponderId.{ResponderId}
use Rattle.bind_model.specs.declared.event.Event.{Event}
use Rattle.history_text.specs.declared.notes.Note.{Note}
use Rattle.history_reader.specs.declared.printed.Printed.{Printed}

-- a responder without the interface of its endpoint: 0 stands for it
abbrev pub said_responder : ResponderId → ResponderId
said_responder r = record r { interface = 0 }

-- what is closed, as the text says it
abbrev pub said_closing : Closing → Closing
said_closing (Responder r) = Responder (said_responder r)
said_closing closing = closing

-- a command, as the text says it
abbrev pub said_asked : Asked → Asked
said_asked (Answer r outgoing) = Answer (said_responder r) outgoing
said_asked (Close closing) = Close (said_closing closing)
said_asked asked = asked

-- an event, as the text says it
abbrev pub said_event : Event → Event
said_event event = record event { asked = said_asked event.asked }

-- the events, the callbacks, what is left, and how many events there were
abbrev pub said : List Event → List Note → List Thing → Printed
said events notes left = record { events = map said_event events; notes = notes; left = left; count = length events }
