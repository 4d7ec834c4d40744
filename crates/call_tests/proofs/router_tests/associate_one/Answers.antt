use Rattle.std.proofs.Common.{◌≡◌, ℕ, ◌+◌, ◌<◌, Bool, true, false, refl, sym, ap, subst, ◌∙◌, arith}
use Rattle.std.specs.Prelude.{◌==◌, ◌&&◌, if◌then◌else◌, Option, Some, IsSome, IsTrue}
use Rattle.std.specs.Option.{option_map}
use Rattle.std.proofs.lemmas.Bool.{eq-eqb, ne_eqb}
use Rattle.mj_base.specs.declared.ids.EndId.{EndId}
use Rattle.mj_base.specs.declared.limits.TheConstants.{MAX_EVENTS}
use Rattle.handle_table.specs.Things.{same_end}
use Rattle.handle_table.proofs.ThingsLemmas.{same_end-refl}
use Rattle.bind_model.specs.Machine.{is_remote}
use Rattle.bind_model.specs.declared.endpoint.Endpoint.{Endpoint}
use Rattle.bind_model.specs.declared.limits.TheConstants.{REMOTE_IDS}
use Rattle.endpoint_router.specs.Rows.{Contents, RowSeen, endpoints_of, has_place, no_endpoints, own_id, row_at, row_of}
use Rattle.endpoint_router.specs.Turns.{CanAssociate, EntersIf, IsSame}
use Rattle.call_tests.proofs.router_tests.associate_one.Goals as goal

-- an endpoint that entered is there
there : (e : Endpoint) (id : ℕ) (y : EndId) (old new : Contents) → EntersIf e id (same_end y y) old new → IsSome (row_at new id)
there e id y old new enters =
    let here : (same_end y y && (id == id)) ≡ true = ap (λ (b : Bool). b && (id == id)) (same_end-refl y) ∙ eq-eqb id id refl in
    subst (λ (o : Option RowSeen). IsSome o)
    (sym (enters.rows id ∙ ap (λ (b : Bool). if b then Some (row_of e) else row_at old id) here)) refl

-- and the rows of all other ids are as they were
beside : (e : Endpoint) (id n : ℕ) (y : EndId) (old new : Contents) → (id == n) ≡ false → EntersIf e id (same_end y y) old new
    → row_at new n ≡ row_at old n
beside e id n y old new other enters =
    let elsewhere : (same_end y y && (id == n)) ≡ false = ap (λ (b : Bool). b && (id == n)) (same_end-refl y) ∙ other in
    enters.rows n ∙ ap (λ (b : Bool). if b then Some (row_of e) else row_at old n) elsewhere

-- an end that drew none has drawn few
few_of : (k : Contents) → k.drawn ≡ 0 → k.drawn < MAX_EVENTS
few_of k none = subst (λ (n : ℕ). n < MAX_EVENTS) (sym none) (omega arith)

above : (a b : ℕ) → 0 < a + 1 + b
above a b = omega arith

-- no id that an end makes is 0
no_main : (k : Contents) → (0 == own_id k) ≡ false
no_main k =
    let more : 0 < own_id k = above k.drawn (if is_remote (endpoints_of k 0) then REMOTE_IDS else 0) in
    ne_eqb 0 (own_id k) (λ e. omega (arith, e, more))

-- the next id that the end makes is the same where nothing changes that can be seen
own_still : (old new : Contents) → IsSame old new → own_id new ≡ own_id old
own_still old new s = λ i. s.drawn i + 1 + (if is_remote (option_map (λ (row : RowSeen). row.endpoint) (s.rows 0 i)) then REMOTE_IDS else 0)

-- behind an endpoint 0 alone, and a place for the next id, another may enter there
may_enter : (e : Endpoint) (y : EndId) (old mid new : Contents) (id : ℕ) → old ≡ no_endpoints → EntersIf e 0 (same_end y y) old mid → IsSame mid new
    → id ≡ own_id mid → IsTrue (has_place new id) → CanAssociate new
may_enter e y old mid new id is enters same own room = record {
  few = few_of new (same.drawn ∙ (enters.drawn ∙ ap (λ (k : Contents). k.drawn) is));
  absent = same.rows (own_id new)
      ∙ (beside e 0 (own_id new) y old mid (no_main new) enters ∙ ap (λ (k : Contents). row_at k (own_id new)) is);
  place = subst (λ (n : ℕ). IsTrue (has_place new n)) (own ∙ sym (own_still mid new same)) room;
}

pub enter-requires : goal.enter-requires
enter-requires g c = ap (λ (k : Contents). row_at k 0) (c.requires c.args.end)

pub next_id-id-requires : goal.next_id-id-requires
next_id-id-requires g c =
    few_of (g.T.Endpoints.router c.enter.new.self c.args.end)
    ((c.in_ok-enter.ensures.ok c.args.end).drawn ∙ ap (λ (k : Contents). k.drawn) (c.requires c.args.end))

pub reserve-requires : goal.reserve-requires
reserve-requires g c =
    let router = g.T.Endpoints.router in
    there _ 0 c.args.end (router c.args.table.now c.args.end) (router c.enter.new.self c.args.end) (c.in_ok-enter.ensures.ok c.args.end)

pub associate-requires : goal.associate-requires
associate-requires g c =
    let router = g.T.Endpoints.router in
    may_enter _ c.args.end (router c.args.table.now c.args.end) (router c.enter.new.self c.args.end) (router c.reserve.new.self c.args.end)
    c.next_id-id.result (c.requires c.args.end) (c.in_ok-enter.ensures.ok c.args.end) (c.in_ok-reserve.ensures.same c.args.end)
    c.next_id-id.ensures c.in_ok-reserve.ensures.there
