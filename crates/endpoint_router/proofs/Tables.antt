-- What the endpoints of one end are, by the index and the slots of all ends.
use Rattle.std.proofs.Common.{◌≡◌, ℕ, ◌+◌, ◌≤◌, Bool, true, false, List, [], ◌∷◌, refl, sym, ap, subst, ◌∙◌, Some, None, arith}
use Rattle.std.specs.Prelude.{if◌then◌else◌, ◌==◌, ◌&&◌, Option, cond, is_some, unwrap_or, IsTrue}
use Rattle.std.specs.Map.{lookup}
use Rattle.std.specs.Option.{option_map}
use Rattle.mj_base.specs.declared.ids.EndId.{EndId}
use Rattle.mj_base.specs.declared.limits.TheConstants.{MAX_EVENTS}
use Rattle.handle_table.specs.Things.{same_end}
use Rattle.handle_table.proofs.ThingsLemmas.{same_end-true}
use Rattle.bind_model.specs.Machine.{is_remote}
use Rattle.bind_model.specs.Names.{is_named}
use Rattle.bind_model.specs.declared.endpoint.Endpoint.{Endpoint}
use Rattle.bind_model.specs.declared.limits.TheConstants.{REMOTE_IDS}
use Rattle.bind_model.specs.declared.names.EndpointName.{EndpointName}
use Rattle.endpoint_router.specs.Rows.{Contents, RowSeen, can_draw, endpoints_of, has_place, has_room, next_number, own_id, row_at, row_of, seen_in}
use Rattle.endpoint_router.specs.Table.{drawn_of, places_of, router_of}
use Rattle.endpoint_router.specs.Turns.{AssociatesIf, CanAssociate, CanTurn, EntersIf, IsSame, PlacesStay, TurnsIf}
use Rattle.endpoint_router.specs.declared.row.Row.{Row}
use Rattle.endpoint_router.specs.declared.turns.Turn.{Turn}
use Rattle.endpoint_router.specs.declared.turns.Turn.TheVariants as turns
use Rattle.endpoint_router.specs.Slots.{Keys, Slots}
use Rattle.endpoint_router.specs.steps.SlotChanges.{Becomes, Enters, IsKept, MayTurn, Puts, RowsStay}
use Rattle.endpoint_router.specs.Slots.{key_in, places_in, row_there, slot_at, table_in}
use Rattle.endpoint_router.specs.steps.SlotChanges.{endpoint_by, own_by, row_by, seen_by}

-- ## Lists

-- the places of one end are those of its names
of_end : (x : EndId) (id : ℕ) (places : List (EndpointName × Option Row)) → lookup (λ k. id == k) (places_of x places) ≡ lookup (is_named x id) places
of_end x id [] = refl
of_end x id (e ∷ places) = go (same_end x e.0.end) (of_end x id places)
  where
    go : (b : Bool) → lookup (λ k. id == k) (places_of x places) ≡ lookup (is_named x id) places
        → lookup (λ k. id == k) (if b then (e.0.id, e.1) ∷ places_of x places else places_of x places)
        ≡ cond (b && (id == e.0.id)) (Some e.1) (lookup (is_named x id) places)
    go true rest = ap (λ (o : Option (Option Row)). cond (id == e.0.id) (Some e.1) o) rest
    go false rest = rest

-- and what stands under a name is found by its key
by_key : (keys : List (EndpointName × ℕ)) (slots : Slots) (test : EndpointName → Bool)
    → lookup test (places_in keys slots) ≡ option_map (λ (key : ℕ). row_there (slot_at slots key)) (lookup test keys)
by_key [] slots test = refl
by_key (e ∷ keys) slots test = go (test e.0) (by_key keys slots test)
  where
    go : (b : Bool) → lookup test (places_in keys slots) ≡ option_map (λ (key : ℕ). row_there (slot_at slots key)) (lookup test keys)
        → cond b (Some (row_there (slot_at slots e.1))) (lookup test (places_in keys slots))
        ≡ option_map (λ (key : ℕ). row_there (slot_at slots key)) (cond b (Some e.1) (lookup test keys))
    go true rest = refl
    go false rest = rest

-- ## The endpoints of one end

module _ (keys : Keys) (slots : Slots) (drawn : List (EndId × ℕ)) (x : EndId) where
  -- its router
  abbrev pub router : Contents
  router = router_of (table_in keys slots drawn) x

  stands : (id : ℕ) → lookup (λ k. id == k) router.rows ≡ option_map (λ (key : ℕ). row_there (slot_at slots key)) (key_in keys x id)
  stands id = of_end x id (places_in keys slots) ∙ by_key keys slots (is_named x id)

  pub row_is : (id : ℕ) → row_at router id ≡ seen_by keys slots x id
  row_is id = ap (λ (o : Option (Option Row)). seen_in (unwrap_or o None)) (stands id)

  pub place_is : (id : ℕ) → has_place router id ≡ is_some (key_in keys x id)
  place_is id = ap (λ (o : Option (Option Row)). is_some o) (stands id) ∙ go (key_in keys x id)
    where
      go : (o : Option ℕ) → is_some (option_map (λ (key : ℕ). row_there (slot_at slots key)) o) ≡ is_some o
      go None = refl
      go (Some key) = refl

  pub room_is : (id : ℕ) → can_draw router id ≡ has_room (row_by keys slots x id)
  room_is id = ap (λ (o : Option (Option Row)). has_room (unwrap_or o None)) (stands id)

  pub endpoint_is : (id : ℕ) → endpoints_of router id ≡ endpoint_by keys slots x id
  endpoint_is id = ap (λ (o : Option RowSeen). option_map (λ (row : RowSeen). row.endpoint) o) (row_is id)

  pub own_is : own_id router ≡ own_by keys slots drawn x
  own_is = ap (λ (o : Option Endpoint). drawn_of drawn x + 1 + (if is_remote o then REMOTE_IDS else 0)) (endpoint_is 0)

  -- where an endpoint may turn so, its row may
  pub may_turn : (id : ℕ) (turn : Turn) → CanTurn router id turn → MayTurn (row_by keys slots x id) turn
  may_turn id (turns.Attached seq) h = tt
  may_turn id turns.Closed h = tt
  may_turn id turns.PeerClosed h = tt
  may_turn id (turns.Sent method) h =
      (subst (λ (b : Bool). IsTrue b) (room_is id) h.room, subst (λ (o : Option RowSeen). next_number o ≤ MAX_EVENTS) (row_is id) h.few)
  may_turn id (turns.Answered request) h = tt

  -- where an endpoint may enter under the next id, there is a place for it
  pub place_there : CanAssociate router → is_some (key_in keys x (own_by keys slots drawn x)) ≡ true
  place_there h = sym (place_is (own_by keys slots drawn x)) ∙ (ap (λ (id : ℕ). has_place router id) (sym own_is) ∙ h.place)

-- ## How they change

module _ (keys : Keys) (old new : Slots) (drawn : List (EndId × ℕ)) (x : EndId) (id : ℕ) where
  pub turned : (f : RowSeen → RowSeen) → Becomes (option_map f) x id keys old new → (y : EndId)
      → TurnsIf f id (same_end x y) (router keys old drawn y) (router keys new drawn y)
  turned f b y = record {
    rows = λ n.
        row_is keys new drawn y n
        ∙ (b.rows y n ∙ ap (λ (o : Option RowSeen). if same_end x y && (id == n) then option_map f o else o) (sym (row_is keys old drawn y n)));
    drawn = refl;
  }

  pub put_there : (row : RowSeen) (endpoint : Endpoint) → row ≡ row_of endpoint → Puts row x id keys old new → (y : EndId)
      → EntersIf endpoint id (same_end x y) (router keys old drawn y) (router keys new drawn y)
  put_there row endpoint is b y = record {
    rows = λ n.
        row_is keys new drawn y n
        ∙ (b.rows y n
        ∙ (ap (λ (o : Option RowSeen). if same_end x y && (id == n) then Some row else o) (sym (row_is keys old drawn y n))
        ∙ ap (λ (r : RowSeen). if same_end x y && (id == n) then Some r else row_at (router keys old drawn y) n) is));
    drawn = refl;
  }

  pub seen_same : RowsStay keys old new → (y : EndId) → IsSame (router keys old drawn y) (router keys new drawn y)
  seen_same s y = record { rows = λ n. row_is keys new drawn y n ∙ (s y n ∙ sym (row_is keys old drawn y n)); drawn = refl }

  -- the places are those of the index
  pub places_as : (y : EndId) → PlacesStay (router keys old drawn y) (router keys new drawn y)
  places_as y n h = place_is keys new drawn y n ∙ (sym (place_is keys old drawn y n) ∙ h)

module _ (keys more : Keys) (old new : Slots) (drawn now : List (EndId × ℕ)) where
  -- where an endpoint enters
  pub entered : (x : EndId) (id : ℕ) (row : RowSeen) (endpoint : Endpoint) → row ≡ row_of endpoint → Enters row x id keys old more new
      → ((y : EndId) → drawn_of now y ≡ drawn_of drawn y) → (y : EndId)
      → EntersIf endpoint id (same_end x y) (router keys old drawn y) (router more new now y)
  entered x id row endpoint is b d y = record {
    rows = λ n.
        row_is more new now y n
        ∙ (b y n
        ∙ (ap (λ (o : Option RowSeen). if same_end x y && (id == n) then Some row else o) (sym (row_is keys old drawn y n))
        ∙ ap (λ (r : RowSeen). if same_end x y && (id == n) then Some r else row_at (router keys old drawn y) n) is));
    drawn = d y;
  }

  -- where neither the index nor a slot changes
  pub all_same : (more ≡ keys) × (new ≡ old) → ((y : EndId) → drawn_of now y ≡ drawn_of drawn y) → (y : EndId)
      → router more new now y ≡ router keys old drawn y
  all_same e d y = λ i. record { rows = places_of y (places_in (e.0 i) (e.1 i)); drawn = d y i }

  -- where places are made
  pub kept : IsKept keys old drawn more new now → (y : EndId) → IsSame (router keys old drawn y) (router more new now y)
  kept k y = record { rows = λ n. row_is more new now y n ∙ (k.rows y n ∙ sym (row_is keys old drawn y n)); drawn = k.drawn y }

  pub places_kept : IsKept keys old drawn more new now → (y : EndId) → PlacesStay (router keys old drawn y) (router more new now y)
  places_kept k y n h = place_is more new now y n ∙ k.stay y n (sym (place_is keys old drawn y n) ∙ h)

-- an endpoint enters under the next id that its end makes
module _ (keys : Keys) (old new : Slots) (drawn now : List (EndId × ℕ)) (x : EndId) (row : RowSeen) (endpoint : Endpoint) (is : row ≡ row_of endpoint)
    (b : Puts row x (own_by keys old drawn x) keys old new)
    (d : (y : EndId) → drawn_of now y ≡ (if same_end x y then drawn_of drawn y + 1 else drawn_of drawn y)) where
  pub associated : (y : EndId) → AssociatesIf endpoint (same_end x y) (router keys old drawn y) (router keys new now y)
  associated y = record {
    rows = λ n.
        row_is keys new now y n
        ∙ (b.rows y n
        ∙ (ap (λ (o : Option RowSeen). if same_end x y && (own_by keys old drawn x == n) then Some row else o) (sym (row_is keys old drawn y n))
        ∙ (ap (λ (r : RowSeen). if same_end x y && (own_by keys old drawn x == n) then Some r else row_at (router keys old drawn y) n) is
        ∙ own n (same_end x y) refl)));
    drawn = d y ∙ count (same_end x y);
  }
    where
      own : (n : ℕ) (c : Bool) → same_end x y ≡ c
          → (if c && (own_by keys old drawn x == n) then Some (row_of endpoint) else row_at (router keys old drawn y) n)
          ≡ (if c && (own_id (router keys old drawn y) == n) then Some (row_of endpoint) else row_at (router keys old drawn y) n)
      own n true e =
          ap (λ (k : ℕ). if k == n then Some (row_of endpoint) else row_at (router keys old drawn y) n)
          (ap (λ (z : EndId). own_by keys old drawn z) (same_end-true x y e) ∙ sym (own_is keys old drawn y))
      own n false e = refl

      count : (c : Bool) → (if c then drawn_of drawn y + 1 else drawn_of drawn y) ≡ drawn_of drawn y + (if c then 1 else 0)
      count true = refl
      count false = omega arith
