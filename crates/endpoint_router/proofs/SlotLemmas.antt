-- Places in slots: what stands under a name, and what a write, or a place more, makes of all.
use Rattle.std.proofs.Common.{◌≡◌, ℕ, ◌+◌, Bool, true, false, List, [], refl, sym, ap, subst, ◌∙◌, Some, None, inl, inr}
use Rattle.std.specs.Prelude.{if◌then◌else◌, ◌==◌, ◌&&◌, ◌||◌, Option, Result, Ok, Err, OnOk, OnErr, cond, is_some, unwrap_or, IsSome}
use Rattle.std.proofs.lemmas.Bool.{cases_eq, eq-eqb, eqb-true}
use Rattle.std.proofs.lemmas.Option.{none-some}
use Rattle.mj_base.specs.declared.ids.EndId.{EndId}
use Rattle.handle_table.specs.Things.{same_end}
use Rattle.handle_table.proofs.ThingsLemmas.{and_left, and_right, same_end-refl, same_end-true}
use Rattle.bind_model.specs.Names.{endpoint_name}
use Rattle.bind_model.specs.declared.names.EndpointName.{EndpointName}
use Rattle.slab.specs.Slab.{Slab, Updates}
use Rattle.endpoint_router.specs.Rows.{RowSeen, seen_in}
use Rattle.endpoint_router.specs.Table.{drawn_of, is_counted}
use Rattle.endpoint_router.specs.declared.slot.Placed.{Placed}
use Rattle.endpoint_router.specs.Slots.{AreCounted, AreNamed, IsIndexed, Keys, Slots}
use Rattle.endpoint_router.specs.steps.SlotChanges.{Becomes, IsKept, Places, RowsStay}
use Rattle.endpoint_router.specs.Slots.{key_in, name_there, row_there, slot_at}
use Rattle.endpoint_router.specs.steps.SlotChanges.{row_by, row_under, seen_by}

-- a slot that says a name isn't empty
pub occupied : (o : Option Placed) (name : EndpointName) → name_there o ≡ Some name → IsSome o
occupied None name h = absurd (none-some name h)
occupied (Some placed) name h = refl

-- the row of a name whose key and slot are known
pub row_here : (keys : Keys) (slots : Slots) (x : EndId) (id key : ℕ) (placed : Placed) → key_in keys x id ≡ Some key → slot_at slots key ≡ Some placed
    → row_by keys slots x id ≡ placed.row
row_here keys slots x id key placed at is = ap (row_under slots) at ∙ ap row_there is

-- more room changes no slot
pub slots_kept : (old new : Slab Placed) → new ≡ record old { capacity = new.capacity } → new.slots ≡ old.slots
slots_kept old new h = ap (λ (s : Slab Placed). s.slots) h

-- what follows where it is well, and where it isn't, follows
pub both_ways : {A B C Y E : Type 0} (r : Result Y E) → OnOk r A → OnErr r B → (A → C) → (B → C) → C
both_ways (Ok v) a b f g = f a
both_ways (Err e) a b f g = g b

pub on_ok : {A B Y E : Type 0} (r : Result Y E) → (A → B) → OnOk r A → OnOk r B
on_ok (Ok v) f h = f h
on_ok (Err e) f h = tt

pub on_err : {A B Y E : Type 0} (r : Result Y E) → (A → B) → OnErr r A → OnErr r B
on_err (Ok v) f h = tt
on_err (Err e) f h = f h

-- ## Two names

module _ (x : EndId) (id : ℕ) (y : EndId) (n : ℕ) where
  -- that are one
  pub ends_one : (same_end x y && (id == n)) ≡ true → x ≡ y
  ends_one h = same_end-true x y (and_left (same_end x y) (id == n) h)

  pub ids_one : (same_end x y && (id == n)) ≡ true → id ≡ n
  ids_one h = eqb-true id n (and_right (same_end x y) (id == n) h)

  pub name_one : (same_end x y && (id == n)) ≡ true → endpoint_name x id ≡ endpoint_name y n
  name_one h = λ i. endpoint_name (ends_one h i) (ids_one h i)

  -- have one key
  pub key_one : (keys : Keys) → (same_end x y && (id == n)) ≡ true → key_in keys y n ≡ key_in keys x id
  key_one keys h = λ i. key_in keys (sym (ends_one h) i) (sym (ids_one h) i)

  -- and where two slots say one name they are one
  pub one_name : ◌≡◌ {A = Option EndpointName} (Some (endpoint_name x id)) (Some (endpoint_name y n)) → (same_end x y && (id == n)) ≡ true
  one_name e =
      let ends : x ≡ y = ap (λ (o : Option EndpointName). (unwrap_or o (endpoint_name x id)).end) e in
      let ids : id ≡ n = ap (λ (o : Option EndpointName). (unwrap_or o (endpoint_name x id)).id) e in
      ap (λ (z : EndId). same_end x z && (id == n)) (sym ends)
      ∙ (ap (λ (k : ℕ). same_end x x && (id == k)) (sym ids) ∙ both (same_end x x) (id == id) (same_end-refl x) (eq-eqb id id refl))
    where
      both : (a b : Bool) → a ≡ true → b ≡ true → (a && b) ≡ true
      both a b f g = λ i. f i && g i

-- a name is itself
pub name_is : (x : EndId) (id : ℕ) → (same_end x x && (id == id)) ≡ true
name_is x id = one_name x id x id refl

-- ## A write

module _ (keys : Keys) (old new : Slab Placed) (x : EndId) (id key : ℕ) (before after : Placed)
    (named : AreNamed keys old.slots) (at : key_in keys x id ≡ Some key) (was : slot_at old.slots key ≡ Some before) (name : after.name ≡ before.name)
    (update : Updates old new key (Some after)) where
  -- another name has another key
  other : (y : EndId) (n k : ℕ) → key_in keys y n ≡ Some k → (same_end x y && (id == n)) ≡ false → k ≡ key → ⊥
  other y n k l h e =
      let t : (same_end x y && (id == n)) ≡ true =
      one_name x id y n (sym (named x id key at) ∙ (ap (λ (j : ℕ). name_there (slot_at old.slots j)) (sym e) ∙ named y n k l)) in
      let clash : true ≡ false = sym t ∙ h in cc

  rows_after : (f : Option RowSeen → Option RowSeen) → seen_in after.row ≡ f (seen_in before.row) → (y : EndId) (n : ℕ)
      → seen_by keys new.slots y n ≡ (if same_end x y && (id == n) then f (seen_by keys old.slots y n) else seen_by keys old.slots y n)
  rows_after f e y n = go (same_end x y && (id == n)) refl (key_in keys y n) refl
    where
      here : seen_in (row_there (slot_at new.slots key)) ≡ f (seen_in (row_there (slot_at old.slots key)))
      here =
          ap (λ (o : Option Placed). seen_in (row_there o)) update.changed
          ∙ (e ∙ ap (λ (o : Option Placed). f (seen_in (row_there o))) (sym was))

      go : (b : Bool) → (same_end x y && (id == n)) ≡ b → (o : Option ℕ) → key_in keys y n ≡ o
          → seen_in (row_under new.slots o) ≡ (if b then f (seen_in (row_under old.slots o)) else seen_in (row_under old.slots o))
      go true h o l =
          subst (λ (p : Option ℕ). seen_in (row_under new.slots p) ≡ f (seen_in (row_under old.slots p)))
          (sym at ∙ (sym (key_one x id y n keys h) ∙ l)) here
      go false h None l = refl
      go false h (Some k) l = ap (λ (p : Option Placed). seen_in (row_there p)) (update.others k (other y n k l h))

  -- each name still leads to a slot that says it
  pub named_after : AreNamed keys new.slots
  named_after y n k l = elim (cases_eq k key) [
    | inl same ↦
        ap (λ (j : ℕ). name_there (slot_at new.slots j)) same
        ∙ (ap name_there update.changed
        ∙ (ap (λ (m : EndpointName). Some m) name
        ∙ (ap name_there (sym was)
        ∙ (ap (λ (j : ℕ). name_there (slot_at old.slots j)) (sym same) ∙ named y n k l))))
    | inr differs ↦ ap name_there (update.others k differs) ∙ named y n k l
  ]

  -- what becomes of all rows where this becomes of one
  pub becomes : (f : Option RowSeen → Option RowSeen) → seen_in after.row ≡ f (seen_in before.row) → Becomes f x id keys old.slots new.slots
  becomes f e = record { rows = rows_after f e; named = named_after }

  -- none changes where the one says what it said
  pub rows_stay : seen_in after.row ≡ seen_in before.row → RowsStay keys old.slots new.slots
  rows_stay e y n = rows_after (λ (seen : Option RowSeen). seen) e y n ∙ go (same_end x y && (id == n))
    where
      go : (b : Bool) → (if b then seen_by keys old.slots y n else seen_by keys old.slots y n) ≡ seen_by keys old.slots y n
      go true = refl
      go false = refl

-- where a name has no key, nothing becomes of it
pub nothing : (f : Option RowSeen → Option RowSeen) (keys : Keys) (slots : Slots) (x : EndId) (id : ℕ) → AreNamed keys slots → key_in keys x id ≡ None
    → f None ≡ None → Becomes f x id keys slots slots
nothing f keys slots x id named none stays = record { rows = λ y n. go y n (same_end x y && (id == n)) refl; named = named }
  where
    go : (y : EndId) (n : ℕ) (b : Bool) → (same_end x y && (id == n)) ≡ b
        → seen_by keys slots y n ≡ (if b then f (seen_by keys slots y n) else seen_by keys slots y n)
    go y n true h =
        let gone : seen_by keys slots y n ≡ None = ap (λ (o : Option ℕ). seen_in (row_under slots o)) (key_one x id y n keys h ∙ none) in
        gone ∙ (sym stays ∙ ap f (sym gone))
    go y n false h = refl

-- ## A place more

module _ (keys more : Keys) (old new : Slab Placed) (x : EndId) (id key : ℕ) (named : AreNamed keys old.slots) (absent : key_in keys x id ≡ None)
    (vacant : slot_at old.slots key ≡ None)
    (grown : (y : EndId) (n : ℕ) → key_in more y n ≡ cond (same_end x y && (id == n)) (Some key) (key_in keys y n))
    (update : Updates old new key (Some (record { name = endpoint_name x id; row = None }))) where
  -- no name has the key of an empty slot
  unused : (y : EndId) (n k : ℕ) → key_in keys y n ≡ Some k → k ≡ key → ⊥
  unused y n k l e =
      none-some (endpoint_name y n) (ap name_there (sym vacant) ∙ (ap (λ (j : ℕ). name_there (slot_at old.slots j)) (sym e) ∙ named y n k l))

  rows_as_before : (y : EndId) (n : ℕ) → seen_by more new.slots y n ≡ seen_by keys old.slots y n
  rows_as_before y n =
      ap (λ (o : Option ℕ). seen_in (row_under new.slots o)) (grown y n) ∙ go (same_end x y && (id == n)) refl (key_in keys y n) refl
    where
      go : (b : Bool) → (same_end x y && (id == n)) ≡ b → (o : Option ℕ) → key_in keys y n ≡ o
          → seen_in (row_under new.slots (cond b (Some key) o)) ≡ seen_in (row_under old.slots o)
      go true h o l =
          subst (λ (p : Option ℕ). seen_in (row_under new.slots (Some key)) ≡ seen_in (row_under old.slots p))
          (sym absent ∙ (sym (key_one x id y n keys h) ∙ l))
          (ap (λ (p : Option Placed). seen_in (row_there p)) update.changed)
      go false h None l = refl
      go false h (Some k) l = ap (λ (p : Option Placed). seen_in (row_there p)) (update.others k (unused y n k l))

  places_more : (y : EndId) (n : ℕ) → is_some (key_in more y n) ≡ ((same_end x y && (id == n)) || is_some (key_in keys y n))
  places_more y n = ap (λ (o : Option ℕ). is_some o) (grown y n) ∙ go (same_end x y && (id == n))
    where
      go : (b : Bool) → is_some (cond b (Some key) (key_in keys y n)) ≡ (b || is_some (key_in keys y n))
      go true = refl
      go false = refl

  names_more : AreNamed more new.slots
  names_more y n k l = go (same_end x y && (id == n)) refl (sym (grown y n) ∙ l)
    where
      go : (b : Bool) → (same_end x y && (id == n)) ≡ b → cond b (Some key) (key_in keys y n) ≡ Some k
          → name_there (slot_at new.slots k) ≡ Some (endpoint_name y n)
      go true h e =
          let is : key ≡ k = ap (λ (o : Option ℕ). unwrap_or o key) e in
          ap (λ (j : ℕ). name_there (slot_at new.slots j)) (sym is)
          ∙ (ap name_there update.changed ∙ ap (λ (m : EndpointName). Some m) (name_one x id y n h))
      go false h e = ap name_there (update.others k (unused y n k e)) ∙ named y n k e

  counted_more : (drawn : List (EndId × ℕ)) → AreCounted keys drawn → is_counted drawn x ≡ true → AreCounted more drawn
  counted_more drawn counted there y n k l = go (same_end x y && (id == n)) refl (sym (grown y n) ∙ l)
    where
      go : (b : Bool) → (same_end x y && (id == n)) ≡ b → cond b (Some key) (key_in keys y n) ≡ Some k → is_counted drawn y ≡ true
      go true h e = ap (λ (z : EndId). is_counted drawn z) (sym (ends_one x id y n h)) ∙ there
      go false h e = counted y n k e

  pub placed : Places x id keys old.slots more new.slots
  placed = record { rows = rows_as_before; places = places_more; named = names_more; counted = counted_more }

-- a name that has a place has one
pub placed_already : (keys : Keys) (slots : Slots) (x : EndId) (id : ℕ) → AreNamed keys slots → is_some (key_in keys x id) ≡ true
    → Places x id keys slots keys slots
placed_already keys slots x id named there =
    record { rows = λ y n. refl; places = λ y n. go y n (same_end x y && (id == n)) refl; named = named; counted = λ drawn counted is. counted }
  where
    go : (y : EndId) (n : ℕ) (b : Bool) → (same_end x y && (id == n)) ≡ b → is_some (key_in keys y n) ≡ (b || is_some (key_in keys y n))
    go y n true h = ap (λ (o : Option ℕ). is_some o) (key_one x id y n keys h) ∙ there
    go y n false h = refl

-- ## What stays

-- no names are indexed well
pub none_indexed : (keys : Keys) (slots : Slots) (drawn : List (EndId × ℕ)) → keys ≡ [] → IsIndexed keys slots drawn
none_indexed keys slots drawn e =
    subst (λ (k : Keys). IsIndexed k slots drawn) (sym e)
    (record { named = λ x id key h. absurd (none-some key h); counted = λ x id key h. absurd (none-some key h) })

-- where neither the index nor a slot changes
module _ (keys more : Keys) (old new : Slots) (same : (more ≡ keys) × (new ≡ old)) where
  pub indexed_same : (drawn : List (EndId × ℕ)) → IsIndexed keys old drawn → IsIndexed more new drawn
  indexed_same drawn h =
      subst (λ (k : Keys). IsIndexed k new drawn) (sym same.0) (subst (λ (s : Slots). IsIndexed keys s drawn) (sym same.1) h)

  pub kept_same : (drawn now : List (EndId × ℕ)) → ((y : EndId) → drawn_of now y ≡ drawn_of drawn y) → IsKept keys old drawn more new now
  kept_same drawn now d =
      subst (λ (k : Keys). IsKept keys old drawn k new now) (sym same.0)
      (subst (λ (s : Slots). IsKept keys old drawn keys s now) (sym same.1) (record { rows = λ y n. refl; stay = λ y n h. h; drawn = d }))

-- an end with a place has one for how many ids it drew
pub counted_place : (keys : Keys) (drawn : List (EndId × ℕ)) (x : EndId) (id : ℕ) → AreCounted keys drawn → is_some (key_in keys x id) ≡ true
    → is_counted drawn x ≡ true
counted_place keys drawn x id counted there = go (key_in keys x id) refl there
  where
    go : (o : Option ℕ) → key_in keys x id ≡ o → is_some o ≡ true → is_counted drawn x ≡ true
    go None l h = absurd (let f : false ≡ true = h in cc)
    go (Some k) l h = counted x id k l

-- one id more of one end
pub counted_up : (drawn : List (EndId × ℕ)) (x : EndId) (own : ℕ) → own ≡ drawn_of drawn x → (y : EndId)
    → (if same_end x y then own + 1 else drawn_of drawn y) ≡ (if same_end x y then drawn_of drawn y + 1 else drawn_of drawn y)
counted_up drawn x own is y = go (same_end x y) refl
  where
    go : (b : Bool) → same_end x y ≡ b → (if b then own + 1 else drawn_of drawn y) ≡ (if b then drawn_of drawn y + 1 else drawn_of drawn y)
    go true e = ap (λ (k : ℕ). k + 1) (is ∙ ap (drawn_of drawn) (same_end-true x y e))
    go false e = refl
