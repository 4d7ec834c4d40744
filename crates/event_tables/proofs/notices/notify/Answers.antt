use Rattle.std.proofs.Common.{sym}
use Rattle.core_sending.proofs.Notifying.{notify_refused}
use Rattle.event_tables.specs.AsCore.{state_of}
use Rattle.event_tables.proofs.notices.notify.Goals as goal

pub refuse-requires-clause-why : goal.refuse-requires-clause-why
refuse-requires-clause-why c =
    notify_refused (state_of c.args.tables.now) c.args.seq c.args.end c.args.notice (record { able = c.requires; prepared = tt })
    c.in-Err.why (sym c.in-Err.ensures)

pub write-requires-clause-free : goal.write-requires-clause-free
write-requires-clause-free c = sym c.in-Ok.ensures
