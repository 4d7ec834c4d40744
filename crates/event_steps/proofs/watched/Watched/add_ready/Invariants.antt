use Rattle.std.proofs.Common.{◌≡◌, true, drop}
use Rattle.std.specs.Prelude.{◌||◌, is_some}
use Rattle.mj_base.specs.declared.ids.EndId.{EndId}
use Rattle.bind_core.specs.EndSets.{has_end}
use Rattle.bind_core.specs.Takers.{ready_taker}
use Rattle.bind_core.specs.steps.Watching.{IsWithin}
use Rattle.event_tables.specs.AsCore.{state_of}
use Rattle.event_steps.proofs.watched.Watched.add_ready.Given as goal

-- each end where a take is ready is in the set, or is still to be looked at
abbrev pub invariant-loop-end : goal.invariant-loop-end
invariant-loop-end l = record {
  more : IsWithin l.initial.self l.self;
  looked : (x : EndId) → has_end l.ends x ≡ true → is_some (ready_taker (state_of l.tables) x) ≡ true
      → (has_end l.self x || has_end (drop l.end-index l.ends) x) ≡ true;
}
