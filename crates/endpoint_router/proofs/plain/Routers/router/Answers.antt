use Rattle.std.proofs.Common.{List, ap, sym, ◌∙◌}
use Rattle.std.specs.Map.{lookup}
use Rattle.mj_base.specs.declared.ids.EndId.{EndId}
use Rattle.handle_table.specs.Things.{same_end}
use Rattle.endpoint_router.specs.Rows.{Contents}
use Rattle.endpoint_router.proofs.Keys.{end_found}
use Rattle.endpoint_router.proofs.plain.Routers.router.Goals as goal

pub returns : goal.returns
returns c =
    c.get.ensures.value
    ∙ (sym (end_found c.self.inside.routers c.args.end)
    ∙ ap (λ (routers : List (EndId × Contents)). lookup (same_end c.args.end) routers) c.self.view_is)
