use Rattle.std.proofs.Common.{◌≡◌, true, drop}
use Rattle.std.specs.Prelude.{◌||◌, is_some}
use Rattle.mj_base.specs.declared.ids.EndId.{EndId}
use Rattle.bind_core.specs.EndSets.{has_end}
use Rattle.bind_core.specs.Takers.{ready_taker}
use Rattle.bind_core.specs.steps.Watching.{IsWithin}
use Rattle.bind_core.proofs.waits.watch_ready.Given as goal

-- each end where a take is ready is watched, or is still to be looked at
abbrev pub invariant-loop-end : goal.invariant-loop-end
invariant-loop-end l = record {
  more : IsWithin l.initial.watched l.watched;
  looked : (x : EndId) → has_end l.ends x ≡ true → is_some (ready_taker l.state x) ≡ true
      → (has_end l.watched x || has_end (drop l.end-index l.ends) x) ≡ true;
}
