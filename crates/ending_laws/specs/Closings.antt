-- Which endpoints were closed here, and that nothing is got at them any more.
use Rattle.std.specs.Prelude.{ℕ, ◌≡◌, ◌==◌, ◌&&◌, ◌||◌, Bool, false, not, List, [], ◌∷◌}
use Rattle.mj_base.specs.declared.ids.EndId.{EndId}
use Rattle.bind_model.specs.declared.asked.Asked.{Asked}
use Rattle.bind_model.specs.declared.asked.Asked.TheVariants.{Take, Close}
use Rattle.bind_model.specs.declared.asked.Closing.TheVariants.{Endpoint, Pending}
use Rattle.bind_model.specs.declared.event.Event.{Event}
use Rattle.bind_model.specs.declared.told.Told.{Told}
use Rattle.bind_model.specs.declared.told.Told.TheVariants.{Taken, Closed}
use Rattle.handle_table.specs.Things.{same_end}
use Rattle.bind_model.specs.Machine.{is_gone, is_local}

-- whether an event closed the endpoint of an id at x: by its end and id, or as a pending that was received
abbrev pub closes_at : List Event → Told → Asked → EndId → ℕ → Bool
closes_at past (Closed gone) (Close (Endpoint y n)) x id = same_end y x && (n == id)
closes_at past (Closed gone) (Close (Pending p)) x id = not (is_local past p) && (same_end p.end x && (p.id == id))
closes_at past told asked x id = false

-- whether any event did
abbrev pub was_closed : List Event → EndId → ℕ → Bool
was_closed [] x id = false
was_closed (event ∷ past) x id = closes_at past event.told event.asked x id || was_closed past x id

-- a take gets nothing at an end that is gone, nor at an endpoint that was closed: no request and no response
abbrev pub IsGotOpen : List Event → Told → Asked → Type 0
IsGotOpen past (Taken g) (Take y) = (is_gone past y ≡ false) × (was_closed past y g.id ≡ false)
IsGotOpen past told asked = Unit {0}

-- and no take does
abbrev pub AllGotOpen : List Event → Type 0
AllGotOpen [] = Unit {0}
AllGotOpen (event ∷ past) = IsGotOpen past event.told event.asked × AllGotOpen past
