use Rattle.std.proofs.Common.{◌≡◌}
use Rattle.script_run.specs.steps.Ending.{RestFrom}
use Rattle.script_run.proofs.Ending.{noted_below}
use Rattle.script_run.proofs.desks.finish.Given as goal

-- the desks of so many sequences have ended, with their notes
abbrev pub invariant-loop-seq : goal.invariant-loop-seq
invariant-loop-seq l = record {
  core : l.core ≡ l.fn.core;
  rests : RestFrom l.seq l.fn.core l.rests.items;
  notes : l.notes.items ≡ noted_below l.fn.core l.seq;
}
