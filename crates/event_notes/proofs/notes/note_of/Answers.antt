use Rattle.event_notes.proofs.notes.note_of.Goals as goal

pub returns-in-Call : goal.returns-in-Call
returns-in-Call c = rw (c.in-Sent.is, c.in-Call.is) c.note_of_request.ensures
