use Rattle.std.proofs.Common.{ap, sym, ◌∙◌, subst}
use Rattle.response_map.specs.Contents.{callbacks_of, with_newest}
use Rattle.response_map.proofs.Beside.{IsNew, kept_is, kept_new}
use Rattle.response_map.proofs.responses.ResponseMap.drop_scope.Goals as goal

pub invariant_of-self : goal.invariant_of-self
invariant_of-self g c = subst (λ newest. IsNew newest c.drop_settled.new.callbacks) (sym c.drop_newest.ensures)
    (kept_new c.self.inside.newest c.self.inside.settled c.drop_settled.new.callbacks c.args.scope c.self.invariant c.drop_settled.ensures)

pub returns-clause-others : goal.returns-clause-others
returns-clause-others g c = ap (λ newest. with_newest newest (callbacks_of c.drop_settled.new.callbacks)) c.drop_newest.ensures
    ∙ kept_is c.self.inside.newest c.self.inside.settled c.drop_settled.new.callbacks c.args.self.now c.args.scope c.self.view_is c.drop_settled.ensures
