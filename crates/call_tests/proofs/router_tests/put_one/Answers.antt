use Rattle.std.proofs.Common.{◌≡◌, ℕ, Bool, true, false, refl, sym, ap, subst, ◌∙◌, arith}
use Rattle.std.specs.Prelude.{◌==◌, ◌&&◌, if◌then◌else◌, Option, Some, IsSome}
use Rattle.std.proofs.lemmas.Bool.{eq-eqb, ne_eqb}
use Rattle.mj_base.specs.declared.ids.EndId.{EndId}
use Rattle.handle_table.specs.Things.{same_end}
use Rattle.handle_table.proofs.ThingsLemmas.{same_end-refl}
use Rattle.bind_model.specs.declared.endpoint.Endpoint.{Endpoint}
use Rattle.endpoint_router.specs.Rows.{Contents, RowSeen, row_at, row_of}
use Rattle.endpoint_router.specs.Turns.{EntersIf}
use Rattle.call_tests.proofs.router_tests.put_one.Goals as goal

-- an endpoint that entered is there
there : (e : Endpoint) (id : ℕ) (y : EndId) (old new : Contents) → EntersIf e id (same_end y y) old new → IsSome (row_at new id)
there e id y old new enters =
    let here : (same_end y y && (id == id)) ≡ true = ap (λ (b : Bool). b && (id == id)) (same_end-refl y) ∙ eq-eqb id id refl in
    subst (λ (o : Option RowSeen). IsSome o)
    (sym (enters.rows id ∙ ap (λ (b : Bool). if b then Some (row_of e) else row_at old id) here)) refl

-- and the rows of all other ids are as they were
beside : (e : Endpoint) (id n : ℕ) (y : EndId) (old new : Contents) → (id == n) ≡ false → EntersIf e id (same_end y y) old new
    → row_at new n ≡ row_at old n
beside e id n y old new other enters =
    let elsewhere : (same_end y y && (id == n)) ≡ false = ap (λ (b : Bool). b && (id == n)) (same_end-refl y) ∙ other in
    enters.rows n ∙ ap (λ (b : Bool). if b then Some (row_of e) else row_at old n) elsewhere

pub enter-requires : goal.enter-requires
enter-requires g c = ap (λ (k : Contents). row_at k 0) (c.requires c.args.end)

pub reserve-requires : goal.reserve-requires
reserve-requires g c =
    let router = g.T.Endpoints.router in
    there _ 0 c.args.end (router c.args.table.now c.args.end) (router c.enter.new.self c.args.end) (c.in_ok-enter.ensures.ok c.args.end)

pub put-requires-clause-absent : goal.put-requires-clause-absent
put-requires-clause-absent g c =
    let router = g.T.Endpoints.router in
    (c.in_ok-reserve.ensures.same c.args.end).rows 1
    ∙ (beside _ 0 1 c.args.end (router c.args.table.now c.args.end) (router c.enter.new.self c.args.end) (ne_eqb 0 1 (λ e. omega (arith, e)))
    (c.in_ok-enter.ensures.ok c.args.end)
    ∙ ap (λ (k : Contents). row_at k 1) (c.requires c.args.end))

pub put-requires-clause-place : goal.put-requires-clause-place
put-requires-clause-place g c = c.in_ok-reserve.ensures.there

pub reserve_draw-requires : goal.reserve_draw-requires
reserve_draw-requires g c =
    let router = g.T.Endpoints.router in
    there _ 1 c.args.end (router c.reserve.new.self c.args.end) (router c.put.new.self c.args.end) (c.put.ensures.enters c.args.end)
