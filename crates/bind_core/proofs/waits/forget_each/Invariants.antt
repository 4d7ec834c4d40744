use Rattle.core_state.specs.Forgets.{StaysTrue}
use Rattle.bind_core.proofs.waits.forget_each.Given as goal

-- what was forgotten so far was met
abbrev pub invariant-loop-end : goal.invariant-loop-end
invariant-loop-end l = StaysTrue l.pipes l.initial.notices l.notices
