use Rattle.std.proofs.Common.{ap, sym, ◌∙◌}
use Rattle.std.specs.Prelude.{Option}
use Rattle.mj_base.specs.declared.ids.EndId.{EndId}
use Rattle.bind_core.specs.Takers.{taker_of, unless_paused}
use Rattle.event_tables.specs.AsCore.{state_of}
use Rattle.event_steps.proofs.takers.ready_taker.Goals as goal

pub returns-in-Some : goal.returns-in-Some
returns-in-Some c =
    ap (λ (pause : Option EndId). unless_paused pause (taker_of (state_of c.args.tables.now) c.args.end)) (sym c.in-Some.is ∙ c.paused_by.ensures)

pub returns-in-None : goal.returns-in-None
returns-in-None c =
    c.taker.ensures
    ∙ ap (λ (pause : Option EndId). unless_paused pause (taker_of (state_of c.args.tables.now) c.args.end)) (sym c.in-None.is ∙ c.paused_by.ensures)
