use Rattle.std.proofs.Common.{◌∙◌}
use Rattle.bind_core.proofs.Covering.{stands_more, stands_spared, woken_watched}
use Rattle.bind_core.proofs.watch.watch_woken.Goals as goal

pub returns-in_err-watch_ready-clause-stands : goal.returns-in_err-watch_ready-clause-stands
returns-in_err-watch_ready-clause-stands c =
    stands_more c.args.state.now c.requires.holds c.args.watched.now c.watch_ready.new.watched c.args.waiting.now c.args.waiting.now c.requires
    c.watch_ready.ensures.more (λ cause x h. h)

pub returns-clause-stands : goal.returns-clause-stands
returns-clause-stands c =
    stands_spared c.args.state.now c.requires.holds c.watch_ready.new.watched c.args.waiting.now c.clear_woken.new.waiting c.requires.listed
    (woken_watched c.args.state.now c.requires.holds c.args.watched.now c.watch_ready.new.watched c.args.waiting.now c.as_slice.result.now
    c.requires.covers c.watch_ready.ensures.more (c.as_slice.ensures.value ∙ c.in_ok-ends.ensures) c.in_ok-watch_ready.ensures.ready)
    c.clear_woken.ensures

pub returns-clause-covers : goal.returns-clause-covers
returns-clause-covers c =
    woken_watched c.args.state.now c.requires.holds c.args.watched.now c.watch_ready.new.watched c.args.waiting.now c.as_slice.result.now
    c.requires.covers c.watch_ready.ensures.more (c.as_slice.ensures.value ∙ c.in_ok-ends.ensures) c.in_ok-watch_ready.ensures.ready
