use Rattle.std.proofs.Common.{ap, ◌∙◌}
use Rattle.core_state.specs.Routers.{Routers, found_at}
use Rattle.core_state.proofs.routers.Routers.find.Goals as goal

pub returns : goal.returns
returns c = c.find.ensures ∙ ap (λ (r : Routers). found_at r c.args.end c.args.id) c.self.view_is
