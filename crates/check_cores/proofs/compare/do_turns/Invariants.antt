use Rattle.std.proofs.Common.{◌≡◌}
use Rattle.core_state.specs.Agreement.{schema_of}
use Rattle.event_tables.specs.AsCore.{state_of}
use Rattle.event_steps.specs.Standing.{Stands}
use Rattle.check_cores.proofs.compare.do_turns.Given as goal

-- the core and the machine by names have the schema and its two sequences
abbrev pub invariant-loop-place : goal.invariant-loop-place
invariant-loop-place l = record {
  core : (l.core.schema ≡ l.schema) × (l.core.seqs ≡ 2);
  machine : Stands l.machine × (schema_of (state_of l.machine.tables) ≡ l.schema) × (l.machine.tables.seqs ≡ 2);
}
