use Rattle.script_names.proofs.rooms.Rooms.settle.Goals as goal

pub returns-in-No-clause-settles : goal.returns-in-No-clause-settles
returns-in-No-clause-settles c =
    let s = c.give_back.ensures c.in-No.field-0 in
    record {
      stands = rw c.in-No.is s.stands;
      handles = rw c.in-No.is s.handles;
      pendings = rw c.in-No.is s.pendings;
      responders = rw c.in-No.is s.responders;
    }
