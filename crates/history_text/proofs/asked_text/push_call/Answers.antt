use Rattle.std.proofs.Common.{◌≡◌, ◌++◌, subst}
use Rattle.std.specs.Prelude.{OnOk}
use Rattle.bind_model.specs.declared.asked.Asked.TheVariants.{Call}
use Rattle.bind_model.specs.declared.asked.Outgoing.{Outgoing}
use Rattle.history_text.specs.History.{asked_text}
use Rattle.history_text.proofs.asked_text.push_call.Goals as goal

pub returns : goal.returns
returns c =
    let old = c.args.out.now.items in
    subst (λ (o : Outgoing). OnOk c.push_request.result (c.push_request.new.out.items ≡ old ++ asked_text c.args.schema.now (Call c.args.end c.args.id o)))
    c.get.ensures c.push_request.ensures
