use Rattle.std.proofs.Common.{ap, sym, ◌∙◌}
use Rattle.bind_core.specs.steps.UnreadTakers.{taker_unread}
use Rattle.bind_core.proofs.WhoTakes.{nothing_takes, unread_takes}
use Rattle.bind_core.proofs.takers.taker.Goals as goal

pub returns-in-Some : goal.returns-in-Some
returns-in-Some c =
    c.taker_unread.ensures
    ∙ (ap (taker_unread c.args.state.now c.args.end) c.as_slice.ensures
    ∙ unread_takes c.args.state.now c.args.end c.in-Some.message.now (sym c.in-Some.ensures))

pub returns-in-None : goal.returns-in-None
returns-in-None c = nothing_takes c.args.state.now c.args.end (sym c.in-None.ensures)
