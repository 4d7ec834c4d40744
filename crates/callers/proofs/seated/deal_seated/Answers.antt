use Rattle.std.proofs.Common.{◌≡◌, sym, ap, ◌∙◌, subst}
use Rattle.bind_hub.specs.declared.shared.Hub.{Hub}
use Rattle.bind_hub.specs.Passes.{IsPassOf}
use Rattle.callers.proofs.seated.deal_seated.Goals as goal

pub deal-risen-requires-clause-seq : goal.deal-risen-requires-clause-seq
deal-risen-requires-clause-seq g c = c.new-seat.result.is_pass.within

pub deal-risen-requires-clause-schema : goal.deal-risen-requires-clause-schema
deal-risen-requires-clause-schema g c = ap (λ (hub : Hub). hub.turn.board.shared.key.0.value.core.schema) c.new-seat.ensures.0 ∙ c.requires.schema

pub returns : goal.returns
returns g c =
    let risen = c.deal-risen.result.0 in
    let hub_is : risen.hub.now ≡ c.args.hub.now = c.deal-risen.ensures ∙ c.new-seat.ensures.0 in
    subst (λ p. IsPassOf c.args.hub.now.turn.board.shared.table_id c.args.hub.now.turn.board.shared.key.0.value.core.schema
    c.args.hub.now.turn.board.shared.key.0.value.core.seqs p.number p.place.table_id p.place.me.0) (sym c.into_pass-again.ensures.pass)
    (subst (λ (z : Hub). IsPassOf z.turn.board.shared.table_id z.turn.board.shared.key.0.value.core.schema z.turn.board.shared.key.0.value.core.seqs
    risen.pass.number risen.pass.place.table_id risen.pass.place.me.0)
    hub_is risen.is_pass)
