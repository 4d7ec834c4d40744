use Rattle.std.proofs.Common.{◌≡◌, ap, sym, ◌∙◌, subst, false}
use Rattle.std.specs.Prelude.{List, ℕ, Some}
use Rattle.std.specs.BTreeMap.{Updates}
use Rattle.bind_model.specs.declared.responder.ResponderName.{ResponderName}
use Rattle.bind_model.specs.Responders.{count_of}
use Rattle.bind_model.specs.Responders.{has_count}
use Rattle.bind_model.proofs.ResponderCounts.{count_placed, place_made, responder_cmp}
use Rattle.bind_model.proofs.responder_table.ResponderTable.reserve.Goals as goal

pub returns-clause-same : goal.returns-clause-same
returns-clause-same c r =
    let absent : has_count c.self.inside.counts.entries c.args.id ≡ false =
    ap (λ (es : List (ResponderName × ℕ)). has_count es c.args.id) c.self.view_is ∙ (sym c.has_count.ensures ∙ c.if-has_count.false) in
    count_placed c.self.inside.counts c.insert.new.self c.args.id absent
    (subst (λ (name : ResponderName). Updates responder_cmp c.self.inside.counts c.insert.new.self name (Some 0)) c.name_of.ensures
    c.in_ok-insert.ensures.updates)
    r
    ∙ ap (λ (es : List (ResponderName × ℕ)). count_of es r) c.self.view_is

pub returns-clause-there : goal.returns-clause-there
returns-clause-there c =
    place_made c.self.inside.counts c.insert.new.self c.args.id
    (subst (λ (name : ResponderName). Updates responder_cmp c.self.inside.counts c.insert.new.self name (Some 0)) c.name_of.ensures
    c.in_ok-insert.ensures.updates)
