use Rattle.std.proofs.Common.{List, ap, sym, ◌∙◌, ℕ}
use Rattle.std.specs.Map.{lookup}
use Rattle.mj_base.specs.declared.ids.EndId.{EndId}
use Rattle.handle_table.specs.Things.{same_end}
use Rattle.endpoint_router.proofs.Keys.{end_found}
use Rattle.endpoint_router.proofs.draws.Draws.get.Goals as goal

pub returns : goal.returns
returns c =
    c.get.ensures.value
    ∙ (sym (end_found c.self.inside.counts c.args.end) ∙ ap (λ (drawn : List (EndId × ℕ)). lookup (same_end c.args.end) drawn) c.self.view_is)
