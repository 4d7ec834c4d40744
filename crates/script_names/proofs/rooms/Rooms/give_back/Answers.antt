use Rattle.script_names.proofs.rooms.Rooms.give_back.Goals as goal

pub returns-in-Close : goal.returns-in-Close
returns-in-Close c why = rw c.in-Close.is (c.give_back_closed.ensures why)
