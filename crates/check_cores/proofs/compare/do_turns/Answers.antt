use Rattle.std.proofs.Common.{◌∙◌}
use Rattle.check_cores.proofs.compare.do_turns.Goals as goal

pub loop-place-init : goal.loop-place-init
loop-place-init c = record { core = c.requires.core; machine = c.requires.machine }

pub play_both-requires-clause-core : goal.play_both-requires-clause-core
play_both-requires-clause-core c = c.loop-place.invariant.core

pub play_both-requires-clause-machine : goal.play_both-requires-clause-machine
play_both-requires-clause-machine c = c.loop-place.invariant.machine

pub compare-requires : goal.compare-requires
compare-requires c = c.in_ok-play_both.ensures.machine.0

pub loop-place-preserved : goal.loop-place-preserved
loop-place-preserved c =
    let same = c.play_both.ensures.core in
    let core = c.loop-place.invariant.core in
    record { core = (same.0 ∙ core.0, same.1 ∙ core.1); machine = c.in_ok-play_both.ensures.machine }
