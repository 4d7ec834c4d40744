use Rattle.std.proofs.Common.{ap, sym, ◌∙◌}
use Rattle.endpoint_router.specs.Slots.{Keys, key_in}
use Rattle.endpoint_router.proofs.Keys.{key_found}
use Rattle.endpoint_router.proofs.index.Index.key.Goals as goal

pub returns : goal.returns
returns c =
    (c.copied.ensures ∙ c.get.ensures.value)
    ∙ (sym (key_found c.self.inside.keys c.args.end c.args.id) ∙ ap (λ (keys : Keys). key_in keys c.args.end c.args.id) c.self.view_is)
