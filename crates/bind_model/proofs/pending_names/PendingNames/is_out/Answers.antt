use Rattle.std.proofs.Common.{ap, ◌∙◌, false}
use Rattle.std.specs.Prelude.{Bool, Option, unwrap_or}
use Rattle.bind_model.proofs.PendingTable.{out_found}
use Rattle.bind_model.proofs.pending_names.PendingNames.is_out.Goals as goal

pub returns : goal.returns
returns c =
    c.unwrap_or.ensures
    ∙ (ap (λ (o : Option Bool). unwrap_or o false) (c.copied.ensures ∙ c.get.ensures.value)
    ∙ out_found c.self.inside.names c.args.self.now c.args.id c.self.view_is)
