use Rattle.std.proofs.Common.{◌≡◌, ◌++◌, drop}
use Rattle.bind_core.specs.Causes.{all_for, gone_causes}
use Rattle.bind_core.proofs.waits.push_gone.Given as goal

-- those so far, and those of what is left
abbrev pub invariant-loop-thing : goal.invariant-loop-thing
invariant-loop-thing l = l.ends.items ++ all_for l.waiting (gone_causes (drop l.thing-index l.things))
    ≡ l.initial.ends.items ++ all_for l.waiting (gone_causes l.things)
