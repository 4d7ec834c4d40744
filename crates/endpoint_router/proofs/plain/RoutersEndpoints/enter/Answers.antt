use Rattle.std.proofs.Common.{◌≡◌, None, subst, sym, ◌∙◌}
use Rattle.handle_table.specs.Things.{same_end}
use Rattle.endpoint_router.specs.Plain.{router_in}
use Rattle.endpoint_router.specs.Rows.{Contents, row_at}
use Rattle.endpoint_router.specs.Turns.{EntersIf}
use Rattle.endpoint_router.proofs.SlotLemmas.{on_err, on_ok}
use Rattle.endpoint_router.proofs.plain.RoutersEndpoints.enter.Goals as goal

pub enter_in-requires-clause-there : goal.enter_in-requires-clause-there
enter_in-requires-clause-there c = c.in_ok-place.ensures.there

pub enter_in-requires-clause-absent : goal.enter_in-requires-clause-absent
enter_in-requires-clause-absent c =
    subst (λ (r : Contents). row_at r c.args.id ≡ None) (sym (c.in_ok-place.ensures.same c.args.end)) c.requires

pub returns-clause-ok : goal.returns-clause-ok
returns-clause-ok c =
    on_ok c.enter_in.result
    (λ e x. subst (λ (r : Contents). EntersIf c.args.endpoint c.args.id (same_end c.args.end x) r (router_in c.enter_in.new.self x))
    (c.in_ok-place.ensures.same x) (e x))
    c.enter_in.ensures.ok

pub returns-clause-err : goal.returns-clause-err
returns-clause-err c = on_err c.enter_in.result (λ e x. e x ∙ c.in_ok-place.ensures.same x) c.enter_in.ensures.err
