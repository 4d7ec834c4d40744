use Rattle.std.proofs.Common.{ℕ, ap, ◌∙◌}
use Rattle.std.specs.Prelude.{◌==◌, not, Option, unwrap_or}
use Rattle.std.specs.BTreeMap.{get}
use Rattle.bind_model.specs.declared.responder.ResponderName.{ResponderName}
use Rattle.bind_model.proofs.ResponderCounts.{count_found, responder_cmp}
use Rattle.bind_model.proofs.responder_table.ResponderTable.is_out.Goals as goal

pub returns : goal.returns
returns c =
    ap (λ n. not (n == 0))
    (count_found c.self.inside.counts c.args.self.now c.args.id c.unwrap_or.result c.self.view_is
    (c.unwrap_or.ensures
    ∙ ap (λ (o : Option ℕ). unwrap_or o 0)
    (c.copied.ensures ∙ (c.get.ensures.value ∙ ap (λ (name : ResponderName). get responder_cmp c.self.inside.counts name) c.name_of.ensures))))
