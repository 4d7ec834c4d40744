-- A number that no request of an endpoint has yet.
use Rattle.std.proofs.Common.{◌≡◌, ◌≤◌, ℕ, zero, suc, ◌+◌, Bool, true, false, List, [], ◌∷◌, length, refl, sym, ap, ◌∙◌, arith, inl, inr}
use Rattle.std.specs.Prelude.{if◌then◌else◌, not, ◌==◌, ◌&&◌, ◌||◌, map}
use Rattle.std.specs.List.{list_any}
use Rattle.std.proofs.lemmas.Bool.{eqb-true, ne_eqb}
use Rattle.std.proofs.lemmas.List.{length-append}
use Rattle.std.proofs.lemmas.List.Folds.{list_any-append}
use Rattle.mj_base.specs.declared.ids.EndId.{EndId}
use Rattle.handle_table.specs.Things.{same_end}
use Rattle.handle_table.proofs.ThingsLemmas.{and_left, and_right, or_cases, or_left, or_right, same_end-true}
use Rattle.bind_model.specs.declared.asked.Asked.{Asked}
use Rattle.bind_model.specs.declared.asked.Asked.TheVariants.{Call, Take}
use Rattle.bind_model.specs.declared.event.Event.{Event}
use Rattle.bind_model.specs.declared.told.Told.{Told}
use Rattle.bind_model.specs.declared.told.Told.TheVariants.{Sent, Taken}
use Rattle.bind_model.specs.Laws.{AllAwaited, IsAwaited, OwnResponses, has_number, up_from}
use Rattle.bind_model.specs.Replies.{Drawn, answered, answers, drawn, draws, is_asked, is_response}

-- no request of this number was sent there, and no response to one was got
pub record IsFresh (past : List Event) (end : EndId) (id request : ℕ) : Type 0 where
  pub drawn : list_any (λ (d : Drawn). d.request == request) (drawn past end id) ≡ false
  pub answered : list_any (λ k. k == request) (answered past end id) ≡ false

-- an event draws one request at most, so there are no more than events
draws_few : (told : Told) (asked : Asked) (x : EndId) (id : ℕ) → length (draws told asked x id) ≤ 1
draws_few (Sent request bytes) (Call y n o) x id = go (same_end y x && (n == id) && not (request == 0))
  where
    go : (b : Bool) → length {A = Drawn} (if b then record { request = request; method = o.target.method } ∷ [] else []) ≤ 1
    go true = omega arith
    go false = omega arith
draws_few told asked x id = omega arith

pub drawn_few : (past : List Event) (x : EndId) (id : ℕ) → length (drawn past x id) ≤ length past
drawn_few [] x id = omega arith
drawn_few (event ∷ past) x id =
    omega (arith, drawn_few past x id, draws_few event.told event.asked x id, length-append (drawn past x id) (draws event.told event.asked x id))

-- whether a request has this number
abbrev has_drawn : List Drawn → ℕ → Bool
has_drawn ds n = list_any (λ (d : Drawn). d.request == n) ds

drawn_number : (ds : List Drawn) (n : ℕ) → has_drawn ds n ≡ has_number (map (λ (d : Drawn). d.request) ds) n
drawn_number [] n = refl
drawn_number (d ∷ ds) n = ap (λ b. (d.request == n) || b) (drawn_number ds n)

-- a number behind the last isn't among them
behind : (first count n : ℕ) → n ≡ first + count → has_number (up_from first count) n ≡ false
behind first zero n h = refl
behind first (suc count) n h = rw (ne_eqb first n (λ e. omega (arith, h, e)), behind (suc first) count n (omega (arith, h))) refl

-- a request of this number and method has this number
of_number : (ds : List Drawn) (n method : ℕ) → list_any (λ (d : Drawn). (d.request == n) && (d.method == method)) ds ≡ true → has_drawn ds n ≡ true
of_number [] n method h = h
of_number (d ∷ ds) n method h = elim (or_cases ((d.request == n) && (d.method == method))
    (list_any (λ (d : Drawn). (d.request == n) && (d.method == method)) ds) h) [
      | inl s ↦ or_left (d.request == n) (has_drawn ds n) (and_left (d.request == n) (d.method == method) s)
      | inr s ↦ or_right (d.request == n) (has_drawn ds n) (of_number ds n method s)
    ]

-- what was answered was asked before
module _ (past : List Event) (x : EndId) (id n : ℕ) where
  got_number : (y : EndId) (at request method : ℕ) (response : Bool) → (response ≡ true → is_asked past y at request method ≡ true) → (b : Bool)
      → (same_end y x && (at == id) && response) ≡ b → has_number (if b then request ∷ [] else []) n ≡ true → has_drawn (drawn past x id) n ≡ true
  got_number y at request method response awaited false e h = absurd (let f : false ≡ true = h in cc)
  got_number y at request method response awaited true e h =
      let both = and_left (same_end y x && (at == id)) response e in
      let here : y ≡ x = same_end-true y x (and_left (same_end y x) (at == id) both) in
      let same : at ≡ id = eqb-true at id (and_right (same_end y x) (at == id) both) in
      let asked = awaited (and_right (same_end y x && (at == id)) response e) in
      let number : request ≡ n = elim (or_cases (request == n) false h) [ inl s ↦ eqb-true request n s | inr s ↦ absurd (let f : false ≡ true = s in cc) ] in
      rw (← here, ← same, ← number) (of_number (drawn past y at) request method (and_left _ _ asked))

  answered_number : (told : Told) (asked : Asked) → IsAwaited past told asked → has_number (answers told asked x id) n ≡ true
      → has_drawn (drawn past x id) n ≡ true
  answered_number (Taken g) (Take y) awaited h =
      got_number y g.id g.request g.target.method (is_response g.target.side) awaited (same_end y x && (g.id == id) && is_response g.target.side) refl h
  answered_number told asked awaited h = absurd (let f : false ≡ true = h in cc)

answered_drawn : (past : List Event) → AllAwaited past → (x : EndId) (id n : ℕ) → has_number (answered past x id) n ≡ true
    → has_drawn (drawn past x id) n ≡ true
answered_drawn [] awaited x id n h = absurd (let f : false ≡ true = h in cc)
answered_drawn (event ∷ past) awaited x id n h =
    let before : has_drawn (drawn past x id) n ≡ true = elim (or_cases (has_number (answered past x id) n) (has_number (answers event.told event.asked x id) n)
    (rw (list_any-append (λ k. k == n) (answered past x id) (answers event.told event.asked x id)) at h)) [
      | inl s ↦ answered_drawn past awaited.1 x id n s
      | inr s ↦ answered_number past x id n event.told event.asked awaited.0 s
    ] in
    list_any-append (λ (d : Drawn). d.request == n) (drawn past x id) (draws event.told event.asked x id)
    ∙ or_left (has_drawn (drawn past x id) n) (has_drawn (draws event.told event.asked x id) n) before

module _ (past : List Event) (own : OwnResponses past) (x : EndId) (id : ℕ) where
  -- a number that no request has is fresh: no response has it either
  undrawn : (n : ℕ) → has_drawn (drawn past x id) n ≡ false → IsFresh past x id n
  undrawn n h = record { drawn = h; answered = go (has_number (answered past x id) n) refl }
    where
      go : (b : Bool) → has_number (answered past x id) n ≡ b → b ≡ false
      go false e = refl
      go true e = absurd (let f : true ≡ false = sym (answered_drawn past own.awaited x id n e) ∙ h in cc)

  numbered : (n : ℕ) → has_number (up_from 1 (length (drawn past x id))) n ≡ false → IsFresh past x id n
  numbered n h = undrawn n (drawn_number (drawn past x id) n ∙ (ap (λ (ns : List ℕ). has_number ns n) (own.numbers x id) ∙ h))

  -- the number of the next request is fresh
  pub next_fresh : IsFresh past x id (length (drawn past x id) + 1)
  next_fresh = numbered (length (drawn past x id) + 1) (behind 1 (length (drawn past x id)) (length (drawn past x id) + 1) (omega arith))
