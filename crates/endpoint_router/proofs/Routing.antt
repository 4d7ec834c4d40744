-- The routers of ends, one for each: which stands for an end, and what the change of one makes of all.
use Rattle.std.proofs.Common.{◌≡◌, ℕ, Bool, true, false, List, refl, sym, ap, subst, ◌∙◌, Some, None, arith}
use Rattle.std.specs.Prelude.{if◌then◌else◌, ◌==◌, Option, cond, is_some}
use Rattle.std.specs.BTreeMap.{BTreeMap, get, Updates}
use Rattle.std.specs.Map.{lookup}
use Rattle.std.specs.Option.{option_map}
use Rattle.mj_base.specs.declared.ids.EndId.{EndId}
use Rattle.handle_table.specs.Things.{same_end}
use Rattle.handle_table.proofs.ThingsLemmas.{same_end-true}
use Rattle.bind_model.specs.declared.endpoint.Endpoint.{Endpoint}
use Rattle.endpoint_router.specs.Plain.{contents_in, has_router, router_in}
use Rattle.endpoint_router.specs.Rows.{Contents, RowSeen, no_endpoints}
use Rattle.endpoint_router.specs.Turns.{AssociatesIf, EntersIf, IsSame, PlacesStay, TurnsIf}
use Rattle.endpoint_router.proofs.Keys.{end_cmp, end_found, end_updated}

-- ## What doesn't change

pub turns_none : (f : RowSeen → RowSeen) (id : ℕ) (c : Contents) → TurnsIf f id false c c
turns_none f id c = record { rows = λ n. refl; drawn = refl }

pub enters_none : (endpoint : Endpoint) (id : ℕ) (c : Contents) → EntersIf endpoint id false c c
enters_none endpoint id c = record { rows = λ n. refl; drawn = refl }

pub associates_none : (endpoint : Endpoint) (c : Contents) → AssociatesIf endpoint false c c
associates_none endpoint c = record { rows = λ n. refl; drawn = omega arith }

pub same_none : (c : Contents) → IsSame c c
same_none c = record { rows = λ n. refl; drawn = refl }

pub stay_none : (c : Contents) → PlacesStay c c
stay_none c n h = h

-- where there are no endpoints, none turns
pub turns_nothing : (f : RowSeen → RowSeen) (id : ℕ) → TurnsIf f id true no_endpoints no_endpoints
turns_nothing f id = record { rows = λ n. go (id == n); drawn = refl }
  where
    go : (b : Bool) → ◌≡◌ {A = Option RowSeen} None (if◌then◌else◌ {A = Option RowSeen} b (option_map f None) None)
    go true = refl
    go false = refl

-- ## The router of an end

-- the one that is found
pub router_found : (m : BTreeMap EndId Contents) (routers : List (EndId × Contents)) (x : EndId) (o : Option Contents) → m.entries ≡ routers
    → o ≡ get end_cmp m x → router_in routers x ≡ contents_in o
router_found m routers x o e h = ap (λ (rs : List (EndId × Contents)). router_in rs x) (sym e) ∙ ap contents_in (end_found m x ∙ sym h)

-- there is one where one is asked for
pub no_router : (m : BTreeMap EndId Contents) (routers : List (EndId × Contents)) (x : EndId) → m.entries ≡ routers → None ≡ get end_cmp m x
    → has_router routers x ≡ true → ⊥
no_router m routers x e none there =
    let a : has_router m.entries x ≡ false = ap (λ (o : Option Contents). is_some o) (end_found m x ∙ sym none) in
    let b : has_router routers x ≡ false = rw (← e) a in cc

module _ (old new : BTreeMap EndId Contents) (end : EndId) (now : Contents) (update : Updates end_cmp old new end (Some now)) where
  -- the one that stands now
  pub now_there : router_in new.entries end ≡ now
  now_there = ap contents_in (end_found new end ∙ update.1)

  pub router_stands : has_router new.entries end ≡ true
  router_stands = ap (λ (o : Option Contents). is_some o) (end_found new end ∙ update.1)

  -- a router without endpoints that is new is as none
  pub fresh_same : now ≡ no_endpoints → has_router old.entries end ≡ false → (x : EndId) → router_in new.entries x ≡ router_in old.entries x
  fresh_same fresh absent x = ap contents_in (end_updated old new end (Some now) update x) ∙ go (same_end end x) refl
    where
      empty : (o : Option Contents) → is_some o ≡ false → no_endpoints ≡ contents_in o
      empty None h = refl
      empty (Some c) h = absurd cc

      go : (b : Bool) → same_end end x ≡ b → contents_in (cond b (Some now) (lookup (same_end x) old.entries)) ≡ router_in old.entries x
      go true e =
          fresh ∙ empty (lookup (same_end x) old.entries) (ap (λ (z : EndId). has_router old.entries z) (sym (same_end-true end x e)) ∙ absent)
      go false e = refl

  -- what holds of the router that changes, and of those that don't
  pub in_all : (R : Bool → Contents → Contents → Type 0) → ((c : Contents) → R false c c) → (before : Contents) → Some before ≡ get end_cmp old end
      → R true before now → (x : EndId) → R (same_end end x) (router_in old.entries x) (router_in new.entries x)
  in_all R same before there r x =
      subst (λ (o : Option Contents). R (same_end end x) (router_in old.entries x) (contents_in o))
      (sym (end_updated old new end (Some now) update x)) (go (same_end end x) refl)
    where
      here : before ≡ router_in old.entries end
      here = sym (ap contents_in (end_found old end ∙ sym there))

      go : (b : Bool) → same_end end x ≡ b → R b (router_in old.entries x) (contents_in (cond b (Some now) (lookup (same_end x) old.entries)))
      go true e =
          subst (λ (c : Contents). R true c now) (here ∙ ap (λ (z : EndId). router_in old.entries z) (same_end-true end x e)) r
      go false e = same (router_in old.entries x)

-- and where the end has none
pub in_none : (R : Bool → Contents → Contents → Type 0) → ((c : Contents) → R false c c) → R true no_endpoints no_endpoints
    → (m : BTreeMap EndId Contents) (end : EndId) → None ≡ get end_cmp m end
    → (x : EndId) → R (same_end end x) (router_in m.entries x) (router_in m.entries x)
in_none R same none m end absent x = go (same_end end x) refl
  where
    go : (b : Bool) → same_end end x ≡ b → R b (router_in m.entries x) (router_in m.entries x)
    go true e =
        subst (λ (c : Contents). R true c c)
        (sym (ap contents_in (end_found m end ∙ sym absent)) ∙ ap (λ (z : EndId). router_in m.entries z) (same_end-true end x e)) none
    go false e = same (router_in m.entries x)
