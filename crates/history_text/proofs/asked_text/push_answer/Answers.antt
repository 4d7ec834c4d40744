use Rattle.std.proofs.Common.{◌≡◌, ◌++◌, subst}
use Rattle.std.specs.Prelude.{OnOk}
use Rattle.bind_model.specs.declared.asked.Asked.TheVariants.{Answer}
use Rattle.bind_model.specs.declared.asked.Outgoing.{Outgoing}
use Rattle.history_text.specs.History.{asked_text}
use Rattle.history_text.proofs.asked_text.push_answer.Goals as goal

pub returns : goal.returns
returns c =
    let old = c.args.out.now.items in
    subst (λ (o : Outgoing). OnOk c.push_response.result (c.push_response.new.out.items ≡ old ++ asked_text c.args.schema.now (Answer c.args.responder o)))
    c.get.ensures c.push_response.ensures
