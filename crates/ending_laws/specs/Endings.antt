-- Which replies show that an endpoint is over, and that no response is got there behind them.
use Rattle.std.specs.Prelude.{ℕ, ◌≡◌, ◌==◌, ◌&&◌, ◌||◌, Bool, true, false, List, [], ◌∷◌, is_some}
use Rattle.mj_base.specs.declared.ids.EndId.{EndId}
use Rattle.bind_model.specs.declared.asked.Asked.{Asked}
use Rattle.bind_model.specs.declared.asked.Asked.TheVariants.{Associate, Attach, Take, Close}
use Rattle.bind_model.specs.declared.asked.Closing.TheVariants.{Endpoint, Pending}
use Rattle.bind_model.specs.declared.event.Event.{Event}
use Rattle.bind_model.specs.declared.told.Noted.TheVariants as noted
use Rattle.bind_model.specs.declared.told.Told.{Told}
use Rattle.bind_model.specs.declared.told.Told.TheVariants.{Taken, Dropped, Control, Bad, Closed, No}
use Rattle.bind_model.specs.declared.told.Why.TheVariants.{Disconnected, PeerClosed}
use Rattle.handle_table.specs.Things.{same_end}
use Rattle.bind_model.specs.Machine.{endpoint_at}
use Rattle.bind_model.specs.Replies.{is_response}
use Rattle.bind_model.specs.Wire.{Wire}

-- whether a command that is told Disconnected shows that the endpoint of an id at x is closed, or its end. A call isn't among them:
-- it is told so where the other end has gone too, and then its response may lie here unread
abbrev pub needs_open : Asked → EndId → ℕ → Bool
needs_open (Take y) x id = same_end y x
needs_open (Associate y side interface) x id = same_end y x
needs_open (Attach p t) x id = same_end p.end x && (p.id == id)
needs_open (Close (Endpoint y n)) x id = same_end y x && (n == id)
needs_open asked x id = false

-- whether a reply shows that the endpoint of an id at x is over, if there is one: it is closed, its peer is, its end has gone, or the
-- end's peer has and nothing is left to take
abbrev pub shows_over : Told → Asked → EndId → ℕ → Bool
shows_over (Control (noted.Closed n)) (Take y) x id = same_end y x && (n == id)
shows_over (Dropped n gone) (Take y) x id = same_end y x && (n == id)
shows_over (Bad why gone) (Take y) x id = same_end y x
shows_over (No PeerClosed) (Take y) x id = same_end y x
shows_over (No Disconnected) asked x id = needs_open asked x id
shows_over (Closed gone) (Close (Endpoint y n)) x id = same_end y x && ((n == 0) || (n == id))
shows_over (Closed gone) (Close (Pending p)) x id = same_end p.end x && (p.id == id)
shows_over told asked x id = false

-- whether a reply showed that the endpoint of an id at x is over, while it was there
abbrev pub was_shown : Wire → List Event → EndId → ℕ → Bool
was_shown wire [] x id = false
was_shown wire (event ∷ past) x id = (is_some (endpoint_at wire past x id) && shows_over event.told event.asked x id) || was_shown wire past x id

-- a take gets no response at an endpoint that was shown to be over
abbrev pub IsInTime : Wire → List Event → Told → Asked → Type 0
IsInTime wire past (Taken g) (Take y) = is_response g.target.side ≡ true → was_shown wire past y g.id ≡ false
IsInTime wire past told asked = Unit {0}

-- and no take does
abbrev pub AllInTime : Wire → List Event → Type 0
AllInTime wire [] = Unit {0}
AllInTime wire (event ∷ past) = IsInTime wire past event.told event.asked × AllInTime wire past
