-- What is told of a closing, and what it makes of a state that agrees.
use Rattle.std.proofs.Common.{◌≡◌, ◌<◌, ℕ, Bool, true, false, List, [], ◌∷◌, length, refl, sym, ap, ◌∙◌, subst}
use Rattle.std.specs.Prelude.{if◌then◌else◌, ◌||◌, ◌==◌, Option, None, Result}
use Rattle.mj_base.specs.declared.ids.EndId.{EndId}
use Rattle.mj_base.specs.declared.ids.SeqId.{SeqId}
use Rattle.handle_table.specs.Things.{has, same}
use Rattle.handle_table.specs.declared.places.Place.TheVariants as places
use Rattle.handle_table.specs.declared.thing.Thing.{Thing}
use Rattle.handle_table.specs.declared.thing.Thing.TheVariants.{End}
use Rattle.handle_table.proofs.ThingsLemmas.{same-true}
use Rattle.message_pipe.specs.Contents.{Contents, Closes, Puts}
use Rattle.message_pipe.specs.Ends as ends
use Rattle.message_pipe.specs.Ends.{spread, carried_in, end_of}
use Rattle.bind_model.specs.declared.asked.Asked.TheVariants.{Close, Take}
use Rattle.bind_model.specs.declared.asked.Closing.TheVariants as closings
use Rattle.bind_model.specs.declared.endpoint.Endpoint.{Endpoint}
use Rattle.bind_model.specs.declared.endpoint.State.TheVariants as states
use Rattle.bind_model.specs.declared.told.BadWhy.{BadWhy}
use Rattle.bind_model.specs.declared.told.Told.TheVariants.{Closed, Bad}
use Rattle.bind_model.specs.declared.told.Why.{Why}
use Rattle.bind_model.specs.declared.event.Event.{Event}
use Rattle.bind_model.specs.Wire.{Wire}
use Rattle.bind_model.specs.Machine.{out, made, is_gone, carried, goes_with, endpoint_at}
use Rattle.bind_model.specs.Replies.{answer, legal}
use Rattle.bind_model.proofs.Fresh.{kept}
use Rattle.endpoint_router.specs.Changes.{in_state}
use Rattle.core_state.specs.Routers.{Routers, found_at}
use Rattle.core_state.specs.Opens.{opened}
use Rattle.core_state.specs.Turns.{TurnsAt}
use Rattle.core_state.specs.Agreement.{Agrees}
use Rattle.core_state.proofs.Facts.{closed_is, carried_is, spread_same}
use Rattle.core_state.proofs.Closing.{closes_put, spread_first, closed_agrees}
use Rattle.core_state.proofs.Opening.{told_of_opened, closing_told}
use Rattle.core_state.proofs.Steady.{close_turns, found_is, steady}

module _ (wire : Wire) (seqs : ℕ) (past : List Event) (h : legal wire seqs past) (seq : SeqId) (within : seq.0 < seqs) (pipes : Contents)
    (endpoints : Routers) (a : Agrees wire past pipes endpoints) where
  -- what the code finds is what the events say
  pub goes_is : (xs : List Thing) → spread (carried_in pipes.ends None) pipes.made xs ≡ goes_with wire past xs
  goes_is xs =
      ap (λ n. spread (carried_in pipes.ends None) n xs) a.made
      ∙ spread_same (carried_in pipes.ends None) (carried wire past) (carried_is wire past (kept wire seqs past h) pipes endpoints a) (length (made past)) xs

  pub opened_is : (y : EndId) (id : ℕ)
      → opened seq (ends.is_closed (end_of pipes.ends y)) id (found_at endpoints y id) ≡ opened seq (is_gone past y) id (endpoint_at wire past y id)
  opened_is y id =
      ap (λ (b : Bool). opened seq b id (found_at endpoints y id)) (closed_is wire past (kept wire seqs past h) pipes endpoints a y)
      ∙ ap (λ (o : Option Endpoint). opened seq (is_gone past y) id o) (found_is a y id)

  -- ## What is told

  -- an endpoint is closed where it is open, else what is told is why it isn't
  pub endpoint_told : (y : EndId) (id : ℕ) (o : Result Endpoint Why)
      → o ≡ opened seq (ends.is_closed (end_of pipes.ends y)) id (found_at endpoints y id)
      → answer wire seqs past seq (Close (closings.Endpoint y id)) ≡ told_of_opened o (λ e. Closed (if id == 0 then goes_with wire past (End y ∷ []) else []))
  endpoint_told y id o e =
      sym (closing_told wire past seq y id (endpoint_at wire past y id))
      ∙ ap (λ (r : Result Endpoint Why). told_of_opened r (λ e. Closed (if id == 0 then goes_with wire past (End y ∷ []) else []))) (sym (e ∙ opened_is y id))

  -- ## By a handle

  module _ (x : Thing) (goes : List Thing) (e : goes ≡ spread (carried_in pipes.ends None) pipes.made (x ∷ [])) where
    first_goes : has goes x ≡ true
    first_goes = rw e (spread_first (carried_in pipes.ends None) pipes.made x [])

    pub handle_told : has (out past) x ≡ true → Closed goes ≡ answer wire seqs past seq (Close (closings.Handle x))
    handle_told o = rw o (ap Closed (e ∙ goes_is (x ∷ [])))

    abbrev handle_event : Event
    handle_event = record { seq = seq; asked = Close (closings.Handle x); told = Closed goes }

    given_goes : (z : Thing) → has goes z ≡ false → (same x z || false) ≡ false
    given_goes z f = go (same x z) refl
      where
        go : (b : Bool) → same x z ≡ b → (b || false) ≡ false
        go false g = refl
        go true g = absurd (
            let t : has goes z ≡ true = subst (λ w. has goes w ≡ true) (same-true x z g) first_goes in
            let u : false ≡ true = sym f ∙ t in
            cc
            )

    pub handle_closed : has (out past) x ≡ true → (mid new : Contents) → Puts x places.Closed pipes mid → Closes goes mid new
        → Agrees wire (handle_event ∷ past) new endpoints
    handle_closed o mid new p c =
        closed_agrees wire handle_event past (kept wire seqs past h) (kept wire seqs (handle_event ∷ past) (within, handle_told o, h)) goes
        (record { made = refl; gone = refl; given = given_goes; handed = refl; takes = λ y. refl; puts = λ y. refl; peer = λ y. refl })
        pipes new endpoints endpoints (closes_put x goes pipes mid new p c first_goes)
        (steady wire (handle_event) past
        (record { draws = λ x n. refl; answers = λ x n. refl; associates = λ x. refl; endpoints = λ x n. refl }) endpoints a.routers) a

  -- ## An end

  module _ (y : EndId) (goes : List Thing) (e : goes ≡ spread (carried_in pipes.ends None) pipes.made (End y ∷ [])) where
    abbrev end_event : Event
    end_event = record { seq = seq; asked = Close (closings.Endpoint y 0); told = Closed goes }

    pub end_told : answer wire seqs past seq (Close (closings.Endpoint y 0)) ≡ Closed (goes_with wire past (End y ∷ []))
        → Closed goes ≡ answer wire seqs past seq (Close (closings.Endpoint y 0))
    end_told t = ap Closed (e ∙ goes_is (End y ∷ [])) ∙ sym t

    pub end_closed : answer wire seqs past seq (Close (closings.Endpoint y 0)) ≡ Closed (goes_with wire past (End y ∷ []))
        → (new : Contents) (after : Routers) → TurnsAt (in_state states.Closed) y 0 endpoints after → Closes goes pipes new
        → Agrees wire (end_event ∷ past) new after
    end_closed t new after g c =
        closed_agrees wire end_event past (kept wire seqs past h) (kept wire seqs (end_event ∷ past) (within, end_told t, h)) goes
        (record { made = refl; gone = refl; given = λ z i. refl; handed = refl; takes = λ x. refl; puts = λ x. refl; peer = λ x. refl })
        pipes new endpoints after c (close_turns wire past seq endpoints after a.routers y 0 goes g) a

    -- ## An end whose oldest message is bad

    abbrev bad_event : BadWhy → Event
    bad_event why = record { seq = seq; asked = Take y; told = Bad why goes }

    pub bad_told : (why : BadWhy) → answer wire seqs past seq (Take y) ≡ Bad why (goes_with wire past (End y ∷ []))
        → Bad why goes ≡ answer wire seqs past seq (Take y)
    bad_told why t = ap (Bad why) (e ∙ goes_is (End y ∷ [])) ∙ sym t

    pub bad_closed : (why : BadWhy) → answer wire seqs past seq (Take y) ≡ Bad why (goes_with wire past (End y ∷ []))
        → (new : Contents) → Closes goes pipes new → Agrees wire (bad_event why ∷ past) new endpoints
    bad_closed why t new c =
        closed_agrees wire (bad_event why) past (kept wire seqs past h) (kept wire seqs (bad_event why ∷ past) (within, bad_told why t, h)) goes
        (record { made = refl; gone = refl; given = λ z i. refl; handed = refl; takes = λ x. refl; puts = λ x. refl; peer = λ x. refl })
        pipes new endpoints endpoints c
        (steady wire (bad_event why) past
        (record { draws = λ x n. refl; answers = λ x n. refl; associates = λ x. refl; endpoints = λ x n. refl }) endpoints a.routers) a
