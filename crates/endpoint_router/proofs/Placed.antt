-- Tables by numbers: what stands under one, and what the change of one makes of all.
use Rattle.std.proofs.Common.{◌≡◌, ℕ, Bool, true, false, List, refl, sym, ap, ◌∙◌, Some, None}
use Rattle.std.specs.Prelude.{if◌then◌else◌, ◌==◌, ◌&&◌, not, Option, unwrap_or, cond, is_some, IsSome}
use Rattle.std.specs.BTreeMap.{BTreeMap, get, Updates}
use Rattle.std.specs.Map.{lookup}
use Rattle.std.specs.Option.{option_map}
use Rattle.std.specs.Ordering.{nat_cmp}
use Rattle.std.proofs.lemmas.Bool.{eqb-true}
use Rattle.bind_model.proofs.NameOrder.{found_by, tied, updated_by}
use Rattle.endpoint_router.specs.Changes.{Stays}
use Rattle.endpoint_router.specs.Rows.{Contents, RowSeen, has_place, is_waiting, row_at, row_in, seen_in, waits_with}
use Rattle.endpoint_router.specs.declared.row.Row.{Row}

-- whether two numbers are one
abbrev pub same : ℕ → ℕ → Bool
same a b = a == b

module _ {X : Type 0} where
  pub found : (m : BTreeMap ℕ X) (k : ℕ) → lookup (same k) m.entries ≡ get nat_cmp m k
  found m k = found_by nat_cmp same tied m k

  pub updated : (old new : BTreeMap ℕ X) (k : ℕ) (w : Option X) → Updates nat_cmp old new k w → (n : ℕ)
      → lookup (same n) new.entries ≡ cond (k == n) w (lookup (same n) old.entries)
  updated old new k w u n = updated_by nat_cmp same tied old new k w u n

  -- there is a place where one is asked for
  pub no_place : (m : BTreeMap ℕ X) (entries : List (ℕ × X)) (k : ℕ) → m.entries ≡ entries → None ≡ get nat_cmp m k
      → is_some (lookup (same k) entries) ≡ true → ⊥
  no_place m entries k e none there =
      let a : is_some (lookup (same k) m.entries) ≡ false = ap (λ (o : Option X). is_some o) (found m k ∙ sym none) in
      let b : is_some (lookup (same k) entries) ≡ false = rw (← e) a in cc

-- ## Requests

module _ (old new : BTreeMap ℕ (Option ℕ)) (request : ℕ) where
  -- one that waits from now on
  pub asked_more : (method : ℕ) → Updates nat_cmp old new request (Some (Some method)) → (number asks_for : ℕ)
      → is_waiting new.entries number asks_for ≡ (if request == number then method == asks_for else is_waiting old.entries number asks_for)
  asked_more method u number asks_for =
      ap (λ (o : Option (Option ℕ)). waits_with (unwrap_or o None) asks_for) (updated old new request (Some (Some method)) u number)
      ∙ go (request == number)
    where
      go : (b : Bool) → waits_with (unwrap_or (cond b (Some (Some method)) (lookup (same number) old.entries)) None) asks_for
          ≡ (if b then method == asks_for else is_waiting old.entries number asks_for)
      go true = refl
      go false = refl

  -- one that waits no longer
  pub asked_less : Updates nat_cmp old new request None → (number method : ℕ)
      → is_waiting new.entries number method ≡ (is_waiting old.entries number method && not (request == number))
  asked_less u number method =
      ap (λ (o : Option (Option ℕ)). waits_with (unwrap_or o None) method) (updated old new request None u number)
      ∙ go (request == number) (is_waiting old.entries number method) refl
    where
      go : (b c : Bool) → is_waiting old.entries number method ≡ c
          → waits_with (unwrap_or (cond b None (lookup (same number) old.entries)) None) method ≡ (c && not b)
      go true true e = refl
      go true false e = refl
      go false true e = e
      go false false e = e

-- ## Rows

-- what contracts see of a table of rows
abbrev pub contents_of : BTreeMap ℕ (Option Row) → ℕ → Contents
contents_of rows drawn = record { rows = rows.entries; drawn = drawn }

module _ (old new : BTreeMap ℕ (Option Row)) (id drawn : ℕ) (before after : Option Row) (there : Some before ≡ get nat_cmp old id)
    (update : Updates nat_cmp old new id (Some after)) where
  pub here : row_in old.entries id ≡ before
  here = ap (λ (o : Option (Option Row)). unwrap_or o None) (found old id ∙ sym there)

  -- what becomes of the rows, where this becomes of one
  pub rows_turn : (f : Option RowSeen → Option RowSeen) → seen_in after ≡ f (seen_in before) → (n : ℕ)
      → row_at (contents_of new drawn) n ≡ (if id == n then f (row_at (contents_of old drawn) n) else row_at (contents_of old drawn) n)
  rows_turn f e n =
      ap (λ (o : Option (Option Row)). seen_in (unwrap_or o None)) (updated old new id (Some after) update n) ∙ go (id == n) refl
    where
      go : (b : Bool) → (id == n) ≡ b → seen_in (unwrap_or (cond b (Some after) (lookup (same n) old.entries)) None)
          ≡ (if b then f (row_at (contents_of old drawn) n) else row_at (contents_of old drawn) n)
      go true h = e ∙ ap (λ (o : Option Row). f (seen_in o)) (sym here ∙ ap (row_in old.entries) (eqb-true id n h))
      go false h = refl

  -- the rows say the same where what becomes of one does
  pub rows_same : seen_in after ≡ seen_in before → (n : ℕ) → row_at (contents_of new drawn) n ≡ row_at (contents_of old drawn) n
  rows_same e n = rows_turn (λ (o : Option RowSeen). o) e n ∙ go (id == n)
    where
      go : (b : Bool) → (if b then row_at (contents_of old drawn) n else row_at (contents_of old drawn) n) ≡ row_at (contents_of old drawn) n
      go true = refl
      go false = refl

  -- the places stay
  pub places_stay : Stays (contents_of old drawn) (contents_of new drawn)
  places_stay = record { places = same_place; drawn = refl }
    where
      same_place : (n : ℕ) → has_place (contents_of new drawn) n ≡ has_place (contents_of old drawn) n
      same_place n = ap (λ (o : Option (Option Row)). is_some o) (updated old new id (Some after) update n) ∙ go (id == n) refl
        where
          go : (b : Bool) → (id == n) ≡ b → is_some (cond b (Some after) (lookup (same n) old.entries)) ≡ has_place (contents_of old drawn) n
          go true h =
              ap (λ (o : Option (Option Row)). is_some o) (there ∙ sym (found old id))
              ∙ ap (λ (k : ℕ). is_some (lookup (same k) old.entries)) (eqb-true id n h)
          go false h = refl

-- where the table doesn't have an id, nothing becomes of it
pub nothing_turns : (m : BTreeMap ℕ (Option Row)) (id drawn : ℕ) (f : RowSeen → RowSeen) → None ≡ get nat_cmp m id → (n : ℕ)
    → row_at (contents_of m drawn) n ≡ (if id == n then option_map f (row_at (contents_of m drawn) n) else row_at (contents_of m drawn) n)
nothing_turns m id drawn f none n = go (id == n) refl
  where
    go : (b : Bool) → (id == n) ≡ b
        → row_at (contents_of m drawn) n ≡ (if b then option_map f (row_at (contents_of m drawn) n) else row_at (contents_of m drawn) n)
    go true h =
        let e : row_at (contents_of m drawn) n ≡ None =
        ap (row_at (contents_of m drawn)) (sym (eqb-true id n h))
        ∙ ap (λ (o : Option (Option Row)). seen_in (unwrap_or o None)) (found m id ∙ sym none) in
        rw e refl
    go false h = refl

-- what a table that is as it was keeps
pub all_stay : (contents : Contents) → Stays contents contents
all_stay contents = record { places = λ n. refl; drawn = refl }

-- what stands in the place of an id is its row
pub found_here : (m : BTreeMap ℕ (Option Row)) (contents : Contents) (id drawn : ℕ) (place : Option Row) → contents_of m drawn ≡ contents
    → Some place ≡ get nat_cmp m id → row_in contents.rows id ≡ place
found_here m contents id drawn place e there =
    ap (λ (at : Contents). row_in at.rows id) (sym e) ∙ ap (λ (o : Option (Option Row)). unwrap_or o None) (found m id ∙ sym there)

pub is_there : (place : Option Row) → IsSome (seen_in place) → IsSome place
is_there None h = absurd cc
is_there (Some row) h = refl

-- rows and places by the table alone
pub row_still : (old new : Contents) → new.rows ≡ old.rows → (n : ℕ) → row_at new n ≡ row_at old n
row_still old new e n = ap (λ (rows : List (ℕ × Option Row)). seen_in (row_in rows n)) e

pub place_still : (old new : Contents) → new.rows ≡ old.rows → (n : ℕ) → has_place new n ≡ has_place old n
place_still old new e n = ap (λ (rows : List (ℕ × Option Row)). is_some (lookup (λ k. n == k) rows)) e
