use Rattle.std.proofs.Common.{◌≡◌, ◌++◌, ◌∷◌, [], List, ap, ◌∙◌}
use Rattle.wire_model.specs.Trees.{Member, Tree, view}
use Rattle.wire_decoder.proofs.Joining.{taken}
use Rattle.wire_decoder.proofs.adding.put_into_union.Goals as goal

pub returns-clause-made : goal.returns-clause-made
returns-clause-made c before t seen =
    let parts = taken c.pop.new.self.items c.args.values.now.items c.in-Some.held before t c.in-Some.ensures.items seen in
    let held : view c.in_ok-value.value.value ≡ t = ap view c.in_ok-value.ensures.ok ∙ parts.1 in
    c.add.ensures.made ∙ ap (λ (l : List Tree). l ++ view c.union_of.result ∷ []) parts.0
    ∙ ap (λ (h : Tree). before ++ h ∷ []) (c.union_of.ensures ∙ ap (Member c.args.tag) held)
