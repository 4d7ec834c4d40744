use Rattle.std.proofs.Common.{◌-◌, length}
use Rattle.history_reader.proofs.WholeReads.{Going}
use Rattle.history_reader.proofs.history.history_with.Given as goal

abbrev pub invariant-loop-number : goal.invariant-loop-number
invariant-loop-number l = Going l.schema l.names l.bytes l.events.items (length l.bytes - l.number) l.number l.rest
