use Rattle.std.proofs.Common.{◌≡◌, List, ap, false, refl, sym, ◌∙◌, ℕ}
use Rattle.mj_base.specs.declared.ids.EndId.{EndId}
use Rattle.endpoint_router.specs.Table.{drawn_of, is_counted}
use Rattle.endpoint_router.proofs.Keys.{count_stands, counted_still, fresh_count}
use Rattle.endpoint_router.proofs.draws.Draws.make_count.Goals as goal

pub returns-in_err-insert-clause-keeps : goal.returns-in_err-insert-clause-keeps
returns-in_err-insert-clause-keeps c x h =
    ap (λ (drawn : List (EndId × ℕ)). is_counted drawn x) (c.in_err-insert.ensures.err ∙ c.self.view_is) ∙ h

pub returns-clause-same : goal.returns-clause-same
returns-clause-same c x =
    let absent : is_counted c.self.inside.counts.entries c.args.end ≡ false =
    ap (λ (drawn : List (EndId × ℕ)). is_counted drawn c.args.end) c.self.view_is ∙ (sym c.is_counted.ensures ∙ c.if-is_counted.false) in
    fresh_count c.self.inside.counts c.insert.new.self c.args.end 0 c.in_ok-insert.ensures.updates refl absent x
    ∙ ap (λ (drawn : List (EndId × ℕ)). drawn_of drawn x) c.self.view_is

pub returns-clause-there : goal.returns-clause-there
returns-clause-there c = count_stands c.self.inside.counts c.insert.new.self c.args.end 0 c.in_ok-insert.ensures.updates

pub returns-clause-keeps : goal.returns-clause-keeps
returns-clause-keeps c x h =
    counted_still c.self.inside.counts c.insert.new.self c.args.end 0 c.in_ok-insert.ensures.updates x
    (ap (λ (drawn : List (EndId × ℕ)). is_counted drawn x) c.self.view_is ∙ h)
