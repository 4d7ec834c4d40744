-- What the closing of an endpoint is told, by whether it is open.
use Rattle.std.proofs.Common.{◌≡◌, ℕ, Bool, true, false, List, [], ◌∷◌, refl, sym, ap, ◌∙◌}
use Rattle.std.specs.Prelude.{if◌then◌else◌, ◌||◌, not, ◌==◌, Option, Some, None, Result, Ok, Err}
use Rattle.mj_base.specs.declared.ids.EndId.{EndId}
use Rattle.mj_base.specs.declared.ids.SeqId.{SeqId}
use Rattle.handle_table.specs.declared.thing.Thing.TheVariants.{End}
use Rattle.bind_model.specs.declared.endpoint.Endpoint.{Endpoint}
use Rattle.bind_model.specs.declared.endpoint.State.{State}
use Rattle.bind_model.specs.declared.endpoint.State.TheVariants as states
use Rattle.bind_model.specs.declared.told.Told.{Told}
use Rattle.bind_model.specs.declared.told.Told.TheVariants.{Closed, No}
use Rattle.bind_model.specs.declared.told.Why.{Why}
use Rattle.bind_model.specs.declared.told.Why.TheVariants.{Disconnected, Unbound, Elsewhere}
use Rattle.bind_model.specs.declared.event.Event.{Event}
use Rattle.bind_model.specs.Wire.{Wire}
use Rattle.bind_model.specs.Machine.{is_gone, is_closed, goes_with}
use Rattle.bind_model.specs.Replies.{first_of, unless, unbound, elsewhere, closed_at}
use Rattle.endpoint_router.specs.Changes.{IsBound}
use Rattle.endpoint_router.specs.Rows.{RowSeen}
use Rattle.core_state.specs.Opens.{opened, opened_in}

-- the first tests of what is done at an endpoint, and what follows them
abbrev pub told_of_opened : Result Endpoint Why → (Endpoint → Told) → Told
told_of_opened (Ok r) next = next r
told_of_opened (Err why) next = No why

abbrev pub tested : Bool → SeqId → ℕ → State → List (Option Why) → Told → Told
tested gone seq id state tests done = first_of (
    unless (not (gone || (elim state [ states.Closed ↦ true | states.Pending ↦ false | states.Bound t ↦ false ]))) Disconnected
    ∷ (elim state [ states.Pending ↦ Some (Unbound id) | states.Bound t ↦ None | states.Closed ↦ None ])
    ∷ (elim state [ states.Bound t ↦ unless (t.0 == seq.0) (Elsewhere t) | states.Pending ↦ None | states.Closed ↦ None ])
    ∷ tests) done

tested_is : (gone : Bool) (seq : SeqId) (id : ℕ) (r : Endpoint) (state : State) (tests : Endpoint → List (Option Why)) (done : Told)
    → told_of_opened (if gone then Err Disconnected else opened_in seq id r state) (λ e. first_of (tests e) done) ≡ tested gone seq id state (tests r) done
tested_is true seq id r state tests done = refl
tested_is false seq id r states.Closed tests done = refl
tested_is false seq id r states.Pending tests done = refl
tested_is false seq id r (states.Bound t) tests done = go (t.0 == seq.0)
  where
    go : (b : Bool) → told_of_opened (if b then Ok r else Err (Elsewhere t)) (λ e. first_of (tests e) done) ≡ first_of (unless b (Elsewhere t) ∷ tests r) done
    go true = refl
    go false = refl

-- the tests of an endpoint come first
pub opened_tests : (gone : Bool) (seq : SeqId) (id : ℕ) (r : Endpoint) (tests : Endpoint → List (Option Why)) (done : Told)
    → told_of_opened (opened seq gone id (Some r)) (λ e. first_of (tests e) done)
    ≡ first_of (unless (not (gone || is_closed r)) Disconnected ∷ unbound id r ∷ elsewhere seq r ∷ tests r) done
opened_tests gone seq id r tests done = tested_is gone seq id r r.state tests done

pub closing_told : (wire : Wire) (past : List Event) (seq : SeqId) (y : EndId) (id : ℕ) (o : Option Endpoint)
    → told_of_opened (opened seq (is_gone past y) id o) (λ e. Closed (if id == 0 then goes_with wire past (End y ∷ []) else []))
    ≡ closed_at wire past seq y id o
closing_told wire past seq y id None = refl
closing_told wire past seq y id (Some r) = opened_tests (is_gone past y) seq id r (λ (e : Endpoint). [])
    (Closed (if id == 0 then goes_with wire past (End y ∷ []) else []))

-- an endpoint that is open is there, is bound on the sequence, and its end is open
pub opened_there : (seq : SeqId) (gone : Bool) (id : ℕ) (o : Option Endpoint) (r : Endpoint) → opened seq gone id o ≡ Ok r → o ≡ Some r
opened_there seq gone id None r h = cc
opened_there seq true id (Some e) r h = cc
opened_there seq false id (Some e) r h = at e.state h
  where
    at : (state : State) → opened_in seq id e state ≡ Ok r → Some e ≡ Some r
    at states.Closed h = cc
    at states.Pending h = cc
    at (states.Bound t) h = go (t.0 == seq.0) h
      where
        go : (b : Bool) → (if b then Ok e else Err (Elsewhere t)) ≡ Ok r → Some e ≡ Some r
        go true h = cc
        go false h = cc

-- and is bound
pub opened_bound : (seq : SeqId) (gone : Bool) (id : ℕ) (o : Option Endpoint) (r : Endpoint) (row : RowSeen) → row.endpoint ≡ r
    → opened seq gone id o ≡ Ok r → IsBound (Some row)
opened_bound seq gone id None r row e h = absurd cc
opened_bound seq true id (Some q) r row e h = absurd cc
opened_bound seq false id (Some q) r row e h = at q.state refl h
  where
    at : (state : State) → q.state ≡ state → opened_in seq id q state ≡ Ok r → IsBound (Some row)
    at states.Closed is h = absurd cc
    at states.Pending is h = absurd cc
    at (states.Bound t) is h = go (t.0 == seq.0) h
      where
        go : (b : Bool) → (if b then Ok q else Err (Elsewhere t)) ≡ Ok r → IsBound (Some row)
        go true g =
            let same : q ≡ r = cc in
            let on : row.endpoint.state ≡ states.Bound t = ap (λ (e : Endpoint). e.state) (e ∙ sym same) ∙ is in
            rw on tt
        go false g = absurd cc
