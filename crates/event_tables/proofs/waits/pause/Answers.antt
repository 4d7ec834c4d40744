use Rattle.std.proofs.Common.{sym}
use Rattle.core_sending.proofs.Waiting.{pause_refused}
use Rattle.event_tables.specs.AsCore.{state_of}
use Rattle.event_tables.proofs.waits.pause.Goals as goal

pub refuse-requires-clause-why : goal.refuse-requires-clause-why
refuse-requires-clause-why c =
    pause_refused (state_of c.args.tables.now) c.args.seq c.args.end c.args.other c.args.flush (record { able = c.requires; prepared = tt })
    c.in-Some.why (sym c.in-Some.ensures)

pub wait-requires-clause-free : goal.wait-requires-clause-free
wait-requires-clause-free c = sym c.in-None.ensures
