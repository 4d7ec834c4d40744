-- Pendings that are made one after the other, of the endpoints that enter as such.
use Rattle.std.proofs.Common.{◌≡◌, ◌≤◌, ◌<◌, ◌+◌, ℕ, suc, Bool, true, false, List, [], ◌∷◌, ◌++◌, length, refl, sym, ap, ◌∙◌, arith, inl, inr, length-append}
use Rattle.std.specs.Prelude.{if◌then◌else◌, ◌||◌, ◌==◌, map, filter}
use Rattle.std.proofs.lemmas.Bool.{eq-eqb, eqb-true}
use Rattle.std.proofs.lemmas.List.Folds.{list_any-append}
use Rattle.mj_base.specs.declared.ids.EndId.{EndId}
use Rattle.handle_table.proofs.ThingsLemmas.{or_cases, or_left, or_right}
use Rattle.bind_model.specs.Laws.{has_number}
use Rattle.bind_model.specs.Machine.{Entry}
use Rattle.bind_model.specs.Pendings.{Half, is_out}
use Rattle.bind_model.specs.Replies.{has_pending, pendings_at, same_pending}
use Rattle.bind_model.specs.declared.endpoint.PendingId.{PendingId}
use Rattle.bind_model.specs.declared.names.EndpointName.{EndpointName}
use Rattle.bind_model.specs.Pendings.{has_place}
use Rattle.core_taking.specs.Founds.{is_pending, pending_ids}
use Rattle.core_taking.specs.steps.Pending.{HavePlaces, half_entered, halves_from, pending_at}

-- ## Lists that are parted

abbrev waits : Entry → Bool
waits e = is_pending e.endpoint

pub ids_parted : (xs ys : List Entry) → pending_ids (xs ++ ys) ≡ pending_ids xs ++ pending_ids ys
ids_parted [] ys = refl
ids_parted (x ∷ xs) ys = go (is_pending x.endpoint) (ids_parted xs ys)
  where
    go : (b : Bool) → pending_ids (xs ++ ys) ≡ pending_ids xs ++ pending_ids ys
        → map (λ (e : Entry). e.id) (if b then x ∷ filter waits (xs ++ ys) else filter waits (xs ++ ys))
        ≡ map (λ (e : Entry). e.id) (if b then x ∷ filter waits xs else filter waits xs) ++ pending_ids ys
    go true rest = ap (λ (ids : List ℕ). x.id ∷ ids) rest
    go false rest = rest

pub halves_parted : (y : EndId) (xs ys : List Entry) → halves_from y (xs ++ ys) ≡ halves_from y xs ++ halves_from y ys
halves_parted y [] ys = refl
halves_parted y (x ∷ xs) ys = go (is_pending x.endpoint) (halves_parted y xs ys)
  where
    go : (b : Bool) → halves_from y (xs ++ ys) ≡ halves_from y xs ++ halves_from y ys
        → map (half_entered y) (if b then x ∷ filter waits (xs ++ ys) else filter waits (xs ++ ys))
        ≡ map (half_entered y) (if b then x ∷ filter waits xs else filter waits xs) ++ halves_from y ys
    go true rest = ap (λ (hs : List Half). half_entered y x ∷ hs) rest
    go false rest = rest

-- a pending for each id
pub halves_counted : (y : EndId) (es : List Entry) → length (halves_from y es) ≡ length (pending_ids es)
halves_counted y [] = refl
halves_counted y (e ∷ es) = go (is_pending e.endpoint) (halves_counted y es)
  where
    go : (b : Bool) → length (halves_from y es) ≡ length (pending_ids es)
        → length (map (half_entered y) (if b then e ∷ filter waits es else filter waits es))
        ≡ length (map (λ (d : Entry). d.id) (if b then e ∷ filter waits es else filter waits es))
    go true rest = ap suc rest
    go false rest = rest

pub ids_few : (es : List Entry) → length (pending_ids es) ≤ length es
ids_few [] = omega arith
ids_few (e ∷ es) = go (is_pending e.endpoint) (ids_few es)
  where
    go : (b : Bool) → length (pending_ids es) ≤ length es
        → length (map (λ (d : Entry). d.id) (if b then e ∷ filter waits es else filter waits es)) ≤ length (e ∷ es)
    go true rest = omega (arith, rest)
    go false rest = omega (arith, rest)

pub named_parted : (y : EndId) (ids js : List ℕ) (p : PendingId)
    → has_pending (pendings_at y (ids ++ js)) p ≡ (has_pending (pendings_at y ids) p || has_pending (pendings_at y js) p)
named_parted y [] js p = refl
named_parted y (id ∷ ids) js p = go (same_pending (pending_at y id) p) (named_parted y ids js p)
  where
    go : (b : Bool) → has_pending (pendings_at y (ids ++ js)) p ≡ (has_pending (pendings_at y ids) p || has_pending (pendings_at y js) p)
        → (b || has_pending (pendings_at y (ids ++ js)) p) ≡ ((b || has_pending (pendings_at y ids) p) || has_pending (pendings_at y js) p)
    go true rest = refl
    go false rest = rest

-- ## Places

-- one that is pending is named by its id alone
first_named : (e : Entry) (rest : List Entry) → is_pending e.endpoint ≡ true → has_number (pending_ids (e ∷ rest)) e.id ≡ true
first_named e rest h = go (is_pending e.endpoint) h
  where
    go : (b : Bool) → b ≡ true → has_number (map (λ (d : Entry). d.id) (if b then e ∷ filter waits rest else filter waits rest)) e.id ≡ true
    go true h = or_left (e.id == e.id) (has_number (pending_ids rest) e.id) (eq-eqb e.id e.id refl)
    go false h = absurd cc

module _ (y : EndId) (xs : List Entry) (e : Entry) where
  -- the last one of a list has a place, and those before it
  pub more_placed : (now next : List (EndpointName × Bool)) → HavePlaces now y xs
      → ((p : PendingId) → has_place now p ≡ true → has_place next p ≡ true)
      → (is_pending e.endpoint ≡ true → has_place next (pending_at y e.id) ≡ true) → HavePlaces next y (xs ++ e ∷ [])
  more_placed now next places keeps there id h =
      elim (or_cases (has_number (pending_ids xs) id) (has_number (pending_ids (e ∷ [])) id)
      (sym (list_any-append (λ k. k == id) (pending_ids xs) (pending_ids (e ∷ []))) ∙ (sym (ap (λ (ids : List ℕ). has_number ids id)
      (ids_parted xs (e ∷ []))) ∙ h))) [
        | inl s ↦ keeps (pending_at y id) (places id s)
        | inr s ↦ last (is_pending e.endpoint) there s
      ]
    where
      at : (b : Bool) → (e.id == id) ≡ b → (b || false) ≡ true → has_place next (pending_at y e.id) ≡ true → has_place next (pending_at y id) ≡ true
      at true f s t = ap (λ (n : ℕ). has_place next (pending_at y n)) (sym (eqb-true e.id id f)) ∙ t
      at false f s t = absurd cc

      last : (b : Bool) → (b ≡ true → has_place next (pending_at y e.id) ≡ true)
          → has_number (map (λ (d : Entry). d.id) (if b then e ∷ [] else [])) id ≡ true → has_place next (pending_at y id) ≡ true
      last true t s = at (e.id == id) refl s (t refl)
      last false t s = absurd cc

  module _ (all rest : List Entry) (split : all ≡ xs ++ e ∷ rest) where
    -- the next one has a place
    pub next_placed : (old now : List (EndpointName × Bool)) → HavePlaces old y all
        → ((p : PendingId) → has_place old p ≡ true → has_place now p ≡ true) → is_pending e.endpoint ≡ true
        → has_place now (pending_at y e.id) ≡ true
    next_placed old now places keeps h =
        keeps (pending_at y e.id) (places e.id
        (ap (λ (es : List Entry). has_number (pending_ids es) e.id) split
        ∙ (ap (λ (ids : List ℕ). has_number ids e.id) (ids_parted xs (e ∷ rest))
        ∙ (list_any-append (λ k. k == e.id) (pending_ids xs) (pending_ids (e ∷ rest))
        ∙ or_right (has_number (pending_ids xs) e.id) (has_number (pending_ids (e ∷ rest)) e.id) (first_named e rest h)))))

    -- and there is room for it
    pub next_room : (made : List Half) (capacity : ℕ) → made ≡ halves_from y xs → length (pending_ids all) ≤ capacity → is_pending e.endpoint ≡ true
        → length made < capacity
    next_room made capacity m few h =
        let so_far : length made ≡ length (pending_ids xs) = ap (λ (hs : List Half). length hs) m ∙ halves_counted y xs in
        let whole : length (pending_ids all) ≡ length (pending_ids xs) + length (pending_ids (e ∷ rest)) =
        ap (λ (es : List Entry). length (pending_ids es)) split ∙ (ap (λ (ids : List ℕ). length ids) (ids_parted xs (e ∷ rest))
        ∙ length-append (pending_ids xs) (pending_ids (e ∷ rest))) in
        let more : 1 ≤ length (pending_ids (e ∷ rest)) = one (is_pending e.endpoint) h in
        omega (arith, so_far, whole, more, few)
      where
        one : (b : Bool) → b ≡ true → 1 ≤ length (map (λ (d : Entry). d.id) (if b then e ∷ filter waits rest else filter waits rest))
        one true h = omega arith
        one false h = absurd cc

  -- ## One more is made

  pub more_made : (made next : List Half) → made ≡ halves_from y xs → next ≡ made ++ halves_from y (e ∷ []) → next ≡ halves_from y (xs ++ e ∷ [])
  more_made made next m n = n ∙ (ap (λ (hs : List Half). hs ++ halves_from y (e ∷ [])) m ∙ sym (halves_parted y xs (e ∷ [])))

  pub more_out : (old now next : List (EndpointName × Bool))
      → ((p : PendingId) → is_out now p ≡ (has_pending (pendings_at y (pending_ids xs)) p || is_out old p))
      → ((p : PendingId) → is_out next p ≡ (has_pending (pendings_at y (pending_ids (e ∷ []))) p || is_out now p))
      → (p : PendingId) → is_out next p ≡ (has_pending (pendings_at y (pending_ids (xs ++ e ∷ []))) p || is_out old p)
  more_out old now next so_far one p =
      one p
      ∙ (ap (λ (b : Bool). has_pending (pendings_at y (pending_ids (e ∷ []))) p || b) (so_far p)
      ∙ (swap (has_pending (pendings_at y (pending_ids (e ∷ []))) p) (has_pending (pendings_at y (pending_ids xs)) p) (is_out old p)
      ∙ ap (λ (b : Bool). b || is_out old p) (sym (ap (λ (ids : List ℕ). has_pending (pendings_at y ids) p) (ids_parted xs (e ∷ []))
      ∙ named_parted y (pending_ids xs) (pending_ids (e ∷ [])) p))))
    where
      swap : (a b c : Bool) → (a || (b || c)) ≡ ((b || a) || c)
      swap true true c = refl
      swap true false c = refl
      swap false true c = refl
      swap false false c = refl
