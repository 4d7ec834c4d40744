use Rattle.std.proofs.Common.{◌≡◌, ℕ, length}
use Rattle.std.specs.Prelude.{Some, slice_get}
use Rattle.script_run.specs.declared.agenda.Agenda.{Agenda}
use Rattle.script_run.specs.steps.Following.{IsFresh}
use Rattle.script_run.proofs.agenda.all_agendas.Given as goal

-- each sequence so far has its agenda
abbrev pub invariant-loop-seq : goal.invariant-loop-seq
invariant-loop-seq l = record {
  count : length l.agendas.items ≡ l.seq;
  each : (n : ℕ) (agenda : Agenda) → slice_get l.agendas.items n ≡ Some agenda → IsFresh l.script n agenda;
}
