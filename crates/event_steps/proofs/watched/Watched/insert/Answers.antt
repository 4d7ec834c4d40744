use Rattle.std.proofs.Common.{List, ◌∙◌, ap}
use Rattle.std.specs.Prelude.{◌||◌}
use Rattle.mj_base.specs.declared.ids.EndId.{EndId}
use Rattle.handle_table.specs.Things.{same_end}
use Rattle.bind_core.specs.EndSets.{has_end}
use Rattle.bind_core.proofs.EndOrder.{added}
use Rattle.event_steps.proofs.watched.Watched.insert.Goals as goal

pub returns-clause-ok : goal.returns-clause-ok
returns-clause-ok c x =
    added c.self.inside.ends.keys c.insert.new.self.keys c.args.end c.in_ok-insert.ensures.updates.0 x
    ∙ ap (λ (ends : List EndId). has_end ends x || same_end c.args.end x) c.self.view_is
