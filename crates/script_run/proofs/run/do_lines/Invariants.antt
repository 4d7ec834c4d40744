use Rattle.std.proofs.Common.{ℕ, map}
use Rattle.script_run.specs.Draining.{past_in}
use Rattle.script_run.specs.steps.Going.{HasDone}
use Rattle.script_run.specs.steps.Orders.{AreInOrder}
use Rattle.script_run.specs.steps.Running.{IsRunning}
use Rattle.script_run.proofs.run.do_lines.Given as goal

abbrev pub invariant-loop-line : goal.invariant-loop-line
invariant-loop-line l = record {
  running : IsRunning l.schema l.script l.core l.rests l.rooms;
  done : (order : ℕ) → AreInOrder l.script order (map (λ line. line.now) l.lines)
      → HasDone l.schema l.script order (past_in l.fn.core) (map (λ line. line.now) l.lines) 0 l.fn.core l.fn.rests l.fn.rooms
      → HasDone l.schema l.script order (past_in l.fn.core) (map (λ line. line.now) l.lines) l.line-index l.core l.rests l.rooms;
}
