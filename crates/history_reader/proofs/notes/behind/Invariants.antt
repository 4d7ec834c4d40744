use Rattle.std.proofs.Common.{◌-◌, length}
use Rattle.history_reader.proofs.NoteReads.{Going}
use Rattle.history_reader.proofs.notes.behind.Given as goal

abbrev pub invariant-loop : goal.invariant-loop
invariant-loop l = Going l.bytes l.notes.items (length l.bytes - l.counter) l.rest
