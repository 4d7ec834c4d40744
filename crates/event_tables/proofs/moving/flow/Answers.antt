use Rattle.std.proofs.Common.{sym}
use Rattle.core_data.proofs.Spotted.{nowhere}
use Rattle.event_tables.specs.AsCore.{state_of}
use Rattle.event_tables.proofs.moving.flow.Goals as goal

pub refuse-requires-clause-why : goal.refuse-requires-clause-why
refuse-requires-clause-why c =
    nowhere (state_of c.args.tables.now) c.args.seq c.requires.holds c.args.flow c.args.thing c.in-Err.why (sym c.in-Err.ensures)

pub move_at-requires-clause-there : goal.move_at-requires-clause-there
move_at-requires-clause-there c = sym c.in-Ok.ensures
