use Rattle.std.proofs.Common.{ap, sym, ◌∙◌}
use Rattle.core_state.specs.Routers.{found_at}
use Rattle.bind_core.proofs.takers.endpoint_beside.Goals as goal

pub returns-then-id-eq0 : goal.returns-then-id-eq0
returns-then-id-eq0 c = sym c.requires ∙ ap (found_at c.args.state.now.endpoints c.args.end) (sym c.if-id-eq0.true)
