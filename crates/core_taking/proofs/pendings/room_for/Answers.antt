use Rattle.std.proofs.Common.{arith}
use Rattle.core_taking.proofs.PendingMade.{ids_few}
use Rattle.core_taking.proofs.pendings.room_for.Goals as goal

pub returns : goal.returns
returns c =
    let most = c.in_ok-room.ensures.capacity in
    let few = ids_few c.args.entries.now in
    (c.in_ok-room.ensures.items, omega (arith, few, most))
