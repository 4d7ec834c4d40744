use Rattle.std.proofs.Common.{◌≡◌, [], ◌∷◌, ◌++◌, refl, ap, sym, subst, ◌∙◌}
use Rattle.std.specs.Prelude.{◌==◌, not}
use Rattle.bind_model.specs.declared.asked.Asked.TheVariants as asks
use Rattle.bind_model.specs.declared.asked.Closing.TheVariants as closings
use Rattle.bind_model.specs.declared.endpoint.ResponderId.{ResponderId}
use Rattle.bind_model.specs.declared.told.Told.TheVariants as tells
use Rattle.bind_model.specs.Responders.{count_of}
use Rattle.core_sending.proofs.Replied.{closing_done, closing_refused}
use Rattle.core_sending.proofs.answer.close_responder.Goals as goal

pub refuse-requires-clause-why : goal.refuse-requires-clause-why
refuse-requires-clause-why c =
    closing_refused c.args.state.now c.args.seq c.requires.able c.args.responder
    (ap (λ (q : ResponderId). not (count_of c.args.state.now.rights.responders q == 0)) (sym c.id-id.ensures)
    ∙ (sym c.is_out.ensures ∙ c.if-not-is_out.true))

pub returns-clause-done : goal.returns-clause-done
returns-clause-done c =
    closing_done c.args.state.now c.args.seq c.requires.able c.args.responder _
    (ap (λ (q : ResponderId). not (count_of c.args.state.now.rights.responders q == 0)) (sym c.id-id.ensures)
    ∙ (sym c.is_out.ensures ∙ c.if-not-is_out.false))
    refl refl refl refl refl refl c.spend.ensures c.new.result c.new-2.result c.new.ensures c.new-2.ensures
    (subst
    (λ (q : ResponderId). c.push_reserved.new.self.events ≡ c.args.state.now.log.events
    ++ record { seq = c.args.seq; asked = asks.Close (closings.Responder q); told = tells.Closed c.new.result } ∷ [])
    c.id-id.ensures c.push_reserved.ensures.events)
