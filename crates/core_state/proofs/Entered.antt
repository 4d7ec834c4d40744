-- Endpoints that enter one after the other, and those of which each is new.
use Rattle.std.proofs.Common.{◌≡◌, ◌<◌, ◌+◌, ℕ, suc, Bool, true, false, List, [], ◌∷◌, ◌++◌, length, take, drop, get_or, refl, sym, ap, subst, ◌∙◌}
use Rattle.std.proofs.Math.Seq.{split_at}
use Rattle.std.proofs.lemmas.List.{take_more}
use Rattle.std.specs.Prelude.{if◌then◌else◌, ◌==◌, ◌&&◌, not, Option, Some, None, IsTrue}
use Rattle.std.proofs.lemmas.Bool.{eq-eqb, eqb-true}
use Rattle.mj_base.specs.declared.ids.EndId.{EndId}
use Rattle.handle_table.specs.Things.{same_end}
use Rattle.handle_table.proofs.ThingsLemmas.{and_left, and_right, not-true, or_left, or_right, same_end-refl}
use Rattle.bind_model.specs.Laws.{all_differ, has_number}
use Rattle.bind_model.specs.Machine.{Entry}
use Rattle.bind_model.specs.Tables.{ids_of_entries}
use Rattle.endpoint_router.specs.Agreement.{entered_row}
use Rattle.endpoint_router.specs.Rows.{RowSeen, has_place, row_at, row_of}
use Rattle.endpoint_router.specs.Turns.{PlacesStay}
use Rattle.endpoint_router.proofs.Stepping.{last_enters, none_enters}
use Rattle.core_state.specs.Entries.{AllEnterAt, AllEnterIf, AreNew}
use Rattle.core_state.specs.Routers.{Routers, router_at}
use Rattle.core_state.specs.Turns.{EntersAt}

-- the next one of a list whose ids differ
module _ (xs : List Entry) (e : Entry) (rest : List Entry) where
  pub among : has_number (ids_of_entries (xs ++ e ∷ rest)) e.id ≡ true
  among = go xs
    where
      go : (ys : List Entry) → has_number (ids_of_entries (ys ++ e ∷ rest)) e.id ≡ true
      go [] = or_left (e.id == e.id) (has_number (ids_of_entries rest) e.id) (eq-eqb e.id e.id refl)
      go (y ∷ ys) = or_right (y.id == e.id) (has_number (ids_of_entries (ys ++ e ∷ rest)) e.id) (go ys)

  pub not_before : all_differ (ids_of_entries (xs ++ e ∷ rest)) ≡ true → has_number (ids_of_entries xs) e.id ≡ false
  not_before = go xs
    where
      there : (ys : List Entry) → has_number (ids_of_entries (ys ++ e ∷ rest)) e.id ≡ true
      there [] = or_left (e.id == e.id) (has_number (ids_of_entries rest) e.id) (eq-eqb e.id e.id refl)
      there (y ∷ ys) = or_right (y.id == e.id) (has_number (ids_of_entries (ys ++ e ∷ rest)) e.id) (there ys)

      other : (y : Entry) (ids : List ℕ) → has_number ids e.id ≡ true → has_number ids y.id ≡ false → (y.id == e.id) ≡ false
      other y ids h g = go (y.id == e.id) refl
        where
          go : (b : Bool) → (y.id == e.id) ≡ b → b ≡ false
          go false f = refl
          go true f = absurd (let t : has_number ids y.id ≡ true = rw (eqb-true y.id e.id f) h in let c : true ≡ false = sym t ∙ g in cc)

      go : (ys : List Entry) → all_differ (ids_of_entries (ys ++ e ∷ rest)) ≡ true → has_number (ids_of_entries ys) e.id ≡ false
      go [] d = refl
      go (y ∷ ys) d =
          let none : has_number (ids_of_entries (ys ++ e ∷ rest)) y.id ≡ false =
          not-true (has_number (ids_of_entries (ys ++ e ∷ rest)) y.id)
          (and_left (not (has_number (ids_of_entries (ys ++ e ∷ rest)) y.id)) (all_differ (ids_of_entries (ys ++ e ∷ rest))) d) in
          rw (other y (ids_of_entries (ys ++ e ∷ rest)) (there ys) none)
          (go ys (and_right (not (has_number (ids_of_entries (ys ++ e ∷ rest)) y.id)) (all_differ (ids_of_entries (ys ++ e ∷ rest))) d))

-- ## Rows

-- those so far entered at an end, and its places stay
pub record EnteredSoFar (xs : List Entry) (x : EndId) (old now : Routers) : Type 0 where
  pub enters : AllEnterAt xs x old now
  pub stay : PlacesStay (router_at old x) (router_at now x)

module _ (all xs : List Entry) (e : Entry) (rest : List Entry) (x : EndId) (old now : Routers) (split : all ≡ xs ++ e ∷ rest)
    (new : AreNew (router_at old x) all) (so_far : EnteredSoFar xs x old now) where
  apart : has_number (ids_of_entries xs) e.id ≡ false
  apart = not_before xs e rest (ap (λ (es : List Entry). all_differ (ids_of_entries es)) (sym split) ∙ new.once)

  here : has_number (ids_of_entries all) e.id ≡ true
  here = ap (λ (es : List Entry). has_number (ids_of_entries es) e.id) split ∙ among xs e rest

  at_end : AllEnterIf xs true (router_at old x) (router_at now x)
  at_end = subst (λ (b : Bool). AllEnterIf xs b (router_at old x) (router_at now x)) (same_end-refl x) (so_far.enters x)

  pub next_absent : row_at (router_at now x) e.id ≡ None
  next_absent = at_end.rows e.id ∙ (none_enters xs e.id (row_at (router_at old x) e.id) apart ∙ new.absent e.id here)

  pub next_placed : IsTrue (has_place (router_at now x) e.id)
  next_placed = so_far.stay e.id (new.places e.id here)

  pub next_entered : (next : Routers) → EntersAt e.endpoint x e.id now next → PlacesStay (router_at now x) (router_at next x)
      → EnteredSoFar (xs ++ e ∷ []) x old next
  next_entered next one stay = record {
    enters = λ y. record {
      rows = λ n. go (same_end x y) n (row_at (router_at old y) n) (row_at (router_at now y) n) (row_at (router_at next y) n)
          ((one y).rows n) ((so_far.enters y).rows n);
      drawn = (one y).drawn ∙ (so_far.enters y).drawn;
    };
    stay = λ n h. stay n (so_far.stay n h);
  }
    where
      go : (b : Bool) (n : ℕ) (o p q : Option RowSeen) → q ≡ (if b && (e.id == n) then Some (row_of e.endpoint) else p)
          → p ≡ (if b then entered_row xs n o else o) → q ≡ (if b then entered_row (xs ++ e ∷ []) n o else o)
      go true n o p q f g =
          f ∙ (ap (λ (r : Option RowSeen). if e.id == n then Some (row_of e.endpoint) else r) g ∙ sym (last_enters xs e n o apart))
      go false n o p q f g = f ∙ g

-- none have entered
pub none_entered : (x : EndId) (routers : Routers) → EnteredSoFar [] x routers routers
none_entered x routers = record { enters = λ y. record { rows = λ n. go (same_end x y) (row_at (router_at routers y) n); drawn = refl }; stay = λ n h. h }
  where
    go : (b : Bool) (o : Option RowSeen) → o ≡ (if b then o else o)
    go true o = refl
    go false o = refl

-- ## By numbers

-- a list up to an item, the item, and the rest
pub split_here : (all : List Entry) (k : ℕ) (e : Entry) → k < length all → e ≡ get_or all k e → all ≡ take k all ++ e ∷ drop (suc k) all
split_here all k e lt is = split_at all k e lt ∙ ap (λ (z : Entry). take k all ++ z ∷ drop (suc k) all) (sym is)

pub longer_here : (all : List Entry) (k : ℕ) (e : Entry) → k < length all → e ≡ get_or all k e → take (k + 1) all ≡ take k all ++ e ∷ []
longer_here all k e lt is = take_more all k e lt ∙ ap (λ (z : Entry). take k all ++ z ∷ []) (sym is)
