use Rattle.std.proofs.Common.{ap, sym, ◌∙◌, subst}
use Rattle.response_map.specs.Contents.{callbacks_of, with_newest}
use Rattle.response_map.proofs.Callbacks.{get_in, taken_from}
use Rattle.response_map.proofs.Beside.{IsNew, get_found, get_beside, found_taken, beside_taken, new_beside}
use Rattle.response_map.proofs.responses.ResponseMap.take.Goals as goal

pub invariant_of-self-in-None : goal.invariant_of-self-in-None
invariant_of-self-in-None g c = subst (λ newest. IsNew newest c.remove.new.self) (sym (c.in-None.ensures.same))
    (new_beside c.self.inside.newest c.self.inside.settled c.remove.new.self c.args.key c.self.invariant
    (taken_from c.self.inside.settled c.remove.new.self c.args.key c.remove.ensures.updates))

pub returns-in-Some-clause-callback : goal.returns-in-Some-clause-callback
returns-in-Some-clause-callback g c =
    let found = c.in-Some.ensures.found in
    sym (get_found c.self.inside.newest c.self.inside.settled c.args.self.now c.args.key c.in-Some.callback c.self.view_is found)

pub returns-in-Some-clause-others : goal.returns-in-Some-clause-others
returns-in-Some-clause-others g c =
    found_taken c.self.inside.newest c.take_newest.new.newest c.self.inside.settled c.args.self.now c.args.key c.in-Some.callback
    c.self.view_is c.self.invariant c.in-Some.ensures.found c.in-Some.ensures.taken

pub returns-in-None-clause-callback : goal.returns-in-None-clause-callback
returns-in-None-clause-callback g c = c.remove.ensures.value ∙ sym (get_in c.self.inside.settled c.args.key)
    ∙ get_beside c.self.inside.newest c.self.inside.settled c.args.self.now c.args.key c.self.view_is c.in-None.ensures.other

pub returns-in-None-clause-others : goal.returns-in-None-clause-others
returns-in-None-clause-others g c = ap (λ newest. with_newest newest (callbacks_of c.remove.new.self)) c.in-None.ensures.same
    ∙ beside_taken c.self.inside.newest c.self.inside.settled c.remove.new.self c.args.self.now c.args.key c.self.view_is c.in-None.ensures.other
    (taken_from c.self.inside.settled c.remove.new.self c.args.key c.remove.ensures.updates)
