-- An end that leaves the set since no take is ready there.
use Rattle.std.proofs.Common.{◌≡◌, Bool, true, false, List, refl, sym, ap, ◌∙◌}
use Rattle.std.specs.Prelude.{◌&&◌, not, is_some}
use Rattle.mj_base.specs.declared.ids.EndId.{EndId}
use Rattle.handle_table.specs.Things.{same_end}
use Rattle.handle_table.proofs.ThingsLemmas.{same_end-true}
use Rattle.core_state.specs.declared.state.State.{State}
use Rattle.bind_core.specs.EndSets.{has_end}
use Rattle.bind_core.specs.Takers.{ready_taker}
use Rattle.bind_core.specs.steps.Watching.{KeepsTaken}

kept : (a b : Bool) → a ≡ true → b ≡ false → (a && not b) ≡ true
kept false b p q = p
kept true true p q = sym q
kept true false p q = refl

-- where a take is ready is another end
other : (s : State) (y x : EndId) → is_some (ready_taker s y) ≡ false → is_some (ready_taker s x) ≡ true → same_end y x ≡ false
other s y x none some = go (same_end y x) refl
  where
    go : (b : Bool) → same_end y x ≡ b → b ≡ false
    go false e = refl
    go true e = sym some ∙ (ap (λ (z : EndId). is_some (ready_taker s z)) (sym (same_end-true y x e)) ∙ none)

-- all ends where a take is ready stay
pub unready_left : (s : State) (y : EndId) (old new : List EndId) → is_some (ready_taker s y) ≡ false
    → ((x : EndId) → has_end new x ≡ (has_end old x && not (same_end y x))) → KeepsTaken s old new
unready_left s y old new none removed x some had =
    removed x ∙ kept (has_end old x) (same_end y x) had (other s y x none some)
