use Rattle.std.proofs.Common.{◌≡◌}
use Rattle.callback_laws.specs.Callbacks.{callbacks}
use Rattle.event_notes.proofs.notes.callbacks.Given as goal

-- those of the sequences below this one
abbrev pub invariant-loop-seq : goal.invariant-loop-seq
invariant-loop-seq l = l.notes.items ≡ callbacks l.seq l.events
