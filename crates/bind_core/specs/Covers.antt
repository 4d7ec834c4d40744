-- Which ends a core watches: where a take is ready, and maybe others; and by what ends their waits it knows those that wait.
use Rattle.std.specs.Prelude.{◌≡◌, ◌||◌, true, false, List, [], ◌∷◌}
use Rattle.mj_base.specs.declared.ids.EndId.{EndId}
use Rattle.bind_model.specs.declared.event.Event.{Event}
use Rattle.bind_model.specs.Notices.{Wait, is_met, waits}
use Rattle.bind_model.specs.Ready.{is_ready}
use Rattle.bind_core.specs.EndSets.{has_end}
use Rattle.bind_core.specs.Causes.{HasCauses, Lists, newest, woken}
use Rattle.core_state.specs.Agreement.{Holds, past_of, wire_in}
use Rattle.core_state.specs.declared.state.State.{State}

-- each end where a take is ready is in the set, or is known to have had a wait that the last event may have ended
abbrev pub Covers : State → List EndId → Lists → Type 0
Covers s ends lists =
    (x : EndId) → is_ready (wire_in s) (past_of s) x ≡ true → (has_end ends x || has_end (woken lists (newest (past_of s))) x) ≡ true

-- those of these waits of an end that aren't met are known by both of their causes
abbrev pub AreListed : Lists → List Event → EndId → List Wait → Type 0
AreListed lists past x [] = Unit {0}
AreListed lists past x (w ∷ ws) = (is_met past w ≡ false → HasCauses lists x w) × AreListed lists past x ws

-- so it is with all waits of all ends
abbrev pub AllListed : Lists → List Event → Type 0
AllListed lists past = (x : EndId) → AreListed lists past x (waits past x)

-- a state that holds, a set that covers it, and all waits
pub record Stands (s : State) (ends : List EndId) (lists : Lists) : Type 0 where
  pub holds : Holds s
  pub covers : Covers s ends lists
  pub listed : AllListed lists (past_of s)
