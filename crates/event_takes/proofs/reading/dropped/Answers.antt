use Rattle.std.proofs.Common.{[], length}
use Rattle.core_taking.proofs.Arriving.{dropped_tells, no_slots}
use Rattle.event_tables.specs.AsCore.{state_of}
use Rattle.event_takes.proofs.reading.dropped.Goals as goal

pub returns : goal.returns
returns c =
    dropped_tells (state_of c.args.tables.now) c.requires.holds c.args.end c.args.message.now c.args.header.now c.args.ids.now c.in_ok-admitted.admitted
    c.requires.ids (c.in_ok-admitted.ensures [] (no_slots (length c.args.ids.now)))
