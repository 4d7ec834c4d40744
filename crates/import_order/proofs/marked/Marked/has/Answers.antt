use Rattle.std.proofs.Common.{arith}
use Rattle.import_order.proofs.Marks.{room}
use Rattle.import_order.proofs.marked.Marked.has.Goals as goal

pub returns-clause-room : goal.returns-clause-room
returns-clause-room c = λ is. grind (arith, room)
