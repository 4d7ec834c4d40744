-- What a turn makes of one router, and of those that it leaves as they were.
use Rattle.std.proofs.Common.{◌≡◌, ℕ, ◌≤◌, ◌+◌, Bool, true, false, refl, sym, ap, ◌∙◌, subst}
use Rattle.std.specs.Prelude.{◌==◌, ◌&&◌, if◌then◌else◌, Option, Some, None, is_some, IsSome, IsTrue}
use Rattle.std.specs.Option.{option_map}
use Rattle.std.proofs.lemmas.Bool.{eqb-true}
use Rattle.mj_base.specs.declared.ids.EndId.{EndId}
use Rattle.mj_base.specs.declared.limits.TheConstants.{MAX_EVENTS}
use Rattle.handle_table.specs.Things.{same_end}
use Rattle.handle_table.proofs.ThingsLemmas.{same_end-true}
use Rattle.bind_model.specs.Machine.{is_remote}
use Rattle.bind_model.specs.declared.endpoint.Endpoint.{Endpoint}
use Rattle.bind_model.specs.declared.limits.TheConstants.{REMOTE_IDS}
use Rattle.endpoint_router.specs.Changes.{IsBound}
use Rattle.endpoint_router.specs.Rows.{Contents, RowSeen, can_draw, endpoints_of, next_number, own_id, row_at}
use Rattle.endpoint_router.specs.Turns.{CanSend, IsSame, TurnsIf}
use Rattle.core_state.specs.Routers.{Routers, found_at, router_at}
use Rattle.core_state.specs.Turns.{TurnsAt}

-- a turn behind a change that nobody sees
pub turns_after : (f : RowSeen → RowSeen) (id : ℕ) (here : Bool) (old mid new : Contents) → IsSame old mid → TurnsIf f id here mid new
    → TurnsIf f id here old new
turns_after f id here old mid new s t =
    record {
      rows = λ n. t.rows n ∙ ap (λ (o : Option RowSeen). if here && (id == n) then option_map f o else o) (s.rows n);
      drawn = t.drawn ∙ s.drawn;
    }

-- a router in which nothing changed may do what it might
pub send_same : (old new : Contents) (id : ℕ) → IsSame old new → IsBound (row_at old id) → next_number (row_at old id) ≤ MAX_EVENTS
    → IsTrue (can_draw new id) → CanSend new id
send_same old new id s bound few room =
    record {
      bound = subst (λ (o : Option RowSeen). IsBound o) (sym (s.rows id)) bound;
      few = subst (λ (o : Option RowSeen). next_number o ≤ MAX_EVENTS) (sym (s.rows id)) few;
      room = room;
    }

-- where an endpoint is found there is a row
pub found_row : (c : Contents) (id : ℕ) (e : Endpoint) → endpoints_of c id ≡ Some e → IsSome (row_at c id)
found_row c id e h = go (row_at c id) h
  where
    go : (o : Option RowSeen) → option_map (λ (row : RowSeen). row.endpoint) o ≡ Some e → IsSome o
    go None f = absurd cc
    go (Some row) f = refl

pub row_found : (c : Contents) (id : ℕ) → is_some (endpoints_of c id) ≡ true → IsSome (row_at c id)
row_found c id h = go (row_at c id) h
  where
    go : (o : Option RowSeen) → is_some (option_map (λ (row : RowSeen). row.endpoint) o) ≡ true → IsSome o
    go None f = absurd cc
    go (Some row) f = refl

-- where none is found nothing turns
pub turns_missing : (f : RowSeen → RowSeen) (x : EndId) (id : ℕ) (all : Routers) → is_some (found_at all x id) ≡ false → TurnsAt f x id all all
turns_missing f x id all h = λ y. record { rows = λ n. go y n (same_end x y) (id == n) refl refl; drawn = refl }
  where
    none : (o : Option RowSeen) → is_some (option_map (λ (row : RowSeen). row.endpoint) o) ≡ false → o ≡ option_map f o
    none None e = refl
    none (Some row) e = absurd (let t : true ≡ false = e in cc)

    go : (y : EndId) (n : ℕ) (a b : Bool) → same_end x y ≡ a → (id == n) ≡ b
        → row_at (router_at all y) n ≡ (if a && b then option_map f (row_at (router_at all y) n) else row_at (router_at all y) n)
    go y n true true e k =
        none (row_at (router_at all y) n) (rw (← same_end-true x y e, ← eqb-true id n k) h)
    go y n true false e k = refl
    go y n false b e k = refl

-- and where none is found there is none
pub no_row : (c : Contents) (id : ℕ) → endpoints_of c id ≡ None → row_at c id ≡ None
no_row c id h = go (row_at c id) h
  where
    go : (o : Option RowSeen) → option_map (λ (row : RowSeen). row.endpoint) o ≡ None → o ≡ None
    go None f = refl
    go (Some row) f = absurd cc

-- the next id that the end makes is the same where nothing changes that can be seen
pub own_same : (old new : Contents) → IsSame old new → own_id new ≡ own_id old
own_same old new s = λ i. s.drawn i + 1 + (if is_remote (option_map (λ (row : RowSeen). row.endpoint) (s.rows 0 i)) then REMOTE_IDS else 0)
