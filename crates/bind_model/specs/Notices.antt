-- Controls that ends write to each other, read off the list of events, the newest first: queries, flushes, and waits for flushes.
use Rattle.std.specs.Prelude.{ℕ, ◌+◌, ◌==◌, ◌&&◌, ◌||◌, ◌++◌, Bool, false, not, nat_lt, List, [], ◌∷◌, Option, Some, None, if◌then◌else◌}
use Rattle.mj_base.specs.declared.ids.EndId.{EndId}
use Rattle.handle_table.specs.Things.{same_end}
use Rattle.bind_model.specs.declared.asked.Asked.{Asked}
use Rattle.bind_model.specs.declared.asked.Asked.TheVariants.{Notify, Pause, Take}
use Rattle.bind_model.specs.declared.asked.Notice.TheVariants.{Query, Flush}
use Rattle.bind_model.specs.declared.endpoint.Endpoint.{Endpoint}
use Rattle.bind_model.specs.declared.told.Noted.TheVariants as noted
use Rattle.bind_model.specs.declared.told.Notified.TheVariants.{Asking, Flushing}
use Rattle.bind_model.specs.declared.told.Told.{Told}
use Rattle.bind_model.specs.declared.told.Told.TheVariants.{Notified, Pausing, Control}
use Rattle.bind_model.specs.declared.event.Event.{Event}
use Rattle.bind_model.specs.Machine.{is_gone, is_closed}

-- ## Queries

-- how often an event asked for the version at an endpoint: once or not
abbrev pub queries : Told → Asked → EndId → ℕ → ℕ
queries (Notified Asking) (Notify y (Query n)) x id = if same_end y x && (n == id) then 1 else 0
queries told asked x id = 0

-- how often the version was asked for at an endpoint
abbrev pub queried : List Event → EndId → ℕ → ℕ
queried [] x id = 0
queried (event ∷ past) x id = queried past x id + queries event.told event.asked x id

-- how often an event told the version at an endpoint: once or not
abbrev pub versions : Told → Asked → EndId → ℕ → ℕ
versions (Control (noted.Version n v)) (Take y) x id = if same_end y x && (n == id) then 1 else 0
versions told asked x id = 0

-- how often it was told there
abbrev pub versioned : List Event → EndId → ℕ → ℕ
versioned [] x id = 0
versioned (event ∷ past) x id = versioned past x id + versions event.told event.asked x id

-- whether a query pends at an endpoint: none does once it is closed, or knows that its peer is
abbrev pub query_pends : List Event → EndId → ℕ → Option Endpoint → Bool
query_pends past x id None = false
query_pends past x id (Some r) = not r.peer_closed && not (is_closed r) && nat_lt (versioned past x id) (queried past x id)

-- ## Flushes

-- the number of the flush that an event wrote from an end
abbrev pub flushes : Told → Asked → EndId → List ℕ
flushes (Notified (Flushing k)) (Notify y Flush) x = if same_end y x then k ∷ [] else []
flushes told asked x = []

-- the numbers of the flushes that an end wrote, in order: the k-th has number k, from 1
abbrev pub flushed : List Event → EndId → List ℕ
flushed [] x = []
flushed (event ∷ past) x = flushed past x ++ flushes event.told event.asked x

-- whether an event consumed the flush of this number at an end
abbrev pub meets : Told → Asked → EndId → ℕ → Bool
meets (Control (noted.Flushed n)) (Take y) x k = same_end y x && (n == k)
meets told asked x k = false

-- whether the flush of this number was consumed at an end
abbrev pub has_met : List Event → EndId → ℕ → Bool
has_met [] x k = false
has_met (event ∷ past) x k = has_met past x k || meets event.told event.asked x k

-- ## Waits

-- a wait until an end has consumed the flush of this number, or is gone
pub record Wait : Type 0 where
  pub end : EndId
  pub flush : ℕ

-- the wait that an event gave an end
abbrev pub waits_by : Told → Asked → EndId → List Wait
waits_by Pausing (Pause b a k) x = if same_end b x then record { end = a; flush = k } ∷ [] else []
waits_by told asked x = []

-- the waits of an end, in the order in which they came
abbrev pub waits : List Event → EndId → List Wait
waits [] x = []
waits (event ∷ past) x = waits past x ++ waits_by event.told event.asked x

-- whether a wait is met: its flush was consumed, or the end is gone
abbrev pub is_met : List Event → Wait → Bool
is_met past w = is_gone past w.end || has_met past w.end w.flush

-- the end that the first wait that isn't met is for
abbrev pub first_unmet : List Event → List Wait → Option EndId
first_unmet past [] = None
first_unmet past (w ∷ ws) = if is_met past w then first_unmet past ws else Some w.end
