use Rattle.std.proofs.Common.{◌≡◌, ◌++◌, take}
use Rattle.mojo_tool.specs.Lines.{steps_text}
use Rattle.mojo_tool.proofs.refusal.push_steps.Given as goal

-- the steps so far were written
abbrev pub invariant-loop-step : goal.invariant-loop-step
invariant-loop-step l = l.out.items ≡ l.fn.out.items ++ steps_text (take l.step-index l.steps)
