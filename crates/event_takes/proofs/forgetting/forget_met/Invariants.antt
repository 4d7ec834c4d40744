use Rattle.core_state.specs.Forgets.{StaysTrue}
use Rattle.event_takes.proofs.forgetting.forget_met.Given as goal

-- what was forgotten so far was met
abbrev pub invariant-loop : goal.invariant-loop
invariant-loop l = StaysTrue l.pipes l.initial.notices l.notices
