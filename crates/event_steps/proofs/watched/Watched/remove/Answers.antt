use Rattle.std.proofs.Common.{List, ◌∙◌, ap}
use Rattle.std.specs.Prelude.{◌&&◌, not}
use Rattle.mj_base.specs.declared.ids.EndId.{EndId}
use Rattle.handle_table.specs.Things.{same_end}
use Rattle.bind_core.specs.EndSets.{has_end}
use Rattle.bind_core.proofs.EndOrder.{taken_away}
use Rattle.event_steps.proofs.watched.Watched.remove.Goals as goal

pub returns : goal.returns
returns c x =
    taken_away c.self.inside.ends.keys c.remove.new.self.keys c.args.end c.remove.ensures.updates.0 x
    ∙ ap (λ (ends : List EndId). has_end ends x && not (same_end c.args.end x)) c.self.view_is
