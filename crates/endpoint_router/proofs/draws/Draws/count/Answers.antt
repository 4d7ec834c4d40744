use Rattle.std.proofs.Common.{ap, ◌∙◌, ℕ}
use Rattle.std.specs.Prelude.{Option, unwrap_or}
use Rattle.endpoint_router.proofs.Keys.{count_found}
use Rattle.endpoint_router.proofs.draws.Draws.count.Goals as goal

pub returns : goal.returns
returns c =
    c.unwrap_or.ensures
    ∙ (ap (λ (o : Option ℕ). unwrap_or o 0) (c.copied.ensures ∙ c.get.ensures.value)
    ∙ count_found c.self.inside.counts c.args.self.now c.args.end c.self.view_is)
