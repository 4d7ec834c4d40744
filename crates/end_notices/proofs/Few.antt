-- No more queries wait at an end, and no more flushes were written there, than there are events.
use Rattle.std.proofs.Common.{◌≤◌, ◌<◌, ℕ, Bool, true, false, List, [], ◌∷◌, length, arith}
use Rattle.std.specs.Prelude.{if◌then◌else◌, ◌==◌, ◌&&◌}
use Rattle.std.proofs.lemmas.List.{length-append}
use Rattle.mj_base.specs.declared.ids.EndId.{EndId}
use Rattle.mj_base.specs.declared.limits.TheConstants.{MAX_EVENTS}
use Rattle.handle_table.specs.Things.{same_end}
use Rattle.bind_model.specs.Notices.{flushed, flushes, queried, queries}
use Rattle.bind_model.specs.declared.asked.Asked.{Asked}
use Rattle.bind_model.specs.declared.asked.Asked.TheVariants.{Notify}
use Rattle.bind_model.specs.declared.asked.Notice.TheVariants.{Query, Flush}
use Rattle.bind_model.specs.declared.event.Event.{Event}
use Rattle.bind_model.specs.declared.told.Notified.TheVariants.{Asking, Flushing}
use Rattle.bind_model.specs.declared.told.Told.{Told}
use Rattle.bind_model.specs.declared.told.Told.TheVariants.{Notified}
use Rattle.end_notices.specs.Agreement.{Agrees}
use Rattle.end_notices.specs.Seen.{Seen}

-- an event asks once at most, and writes one flush at most
asks_one : (told : Told) (asked : Asked) (x : EndId) (id : ℕ) → queries told asked x id ≤ 1
asks_one (Notified Asking) (Notify y (Query n)) x id = go (same_end y x && (n == id))
  where
    go : (b : Bool) → (if b then 1 else 0) ≤ 1
    go true = omega arith
    go false = omega arith
asks_one told asked x id = omega arith

writes_one : (told : Told) (asked : Asked) (x : EndId) → length (flushes told asked x) ≤ 1
writes_one (Notified (Flushing k)) (Notify y Flush) x = go (same_end y x)
  where
    go : (b : Bool) → length (if b then k ∷ [] else []) ≤ 1
    go true = omega arith
    go false = omega arith
writes_one told asked x = omega arith

queried_few : (past : List Event) (x : EndId) (id : ℕ) → queried past x id ≤ length past
queried_few [] x id = omega arith
queried_few (event ∷ past) x id = omega (arith, queried_few past x id, asks_one event.told event.asked x id)

flushed_few : (past : List Event) (x : EndId) → length (flushed past x) ≤ length past
flushed_few [] x = omega arith
flushed_few (event ∷ past) x =
    omega (arith, flushed_few past x, writes_one event.told event.asked x, length-append (flushed past x) (flushes event.told event.asked x))

-- so it is with what an end keeps
pub few_queries : (past : List Event) (x : EndId) (seen : Seen) → Agrees past x seen → length past < MAX_EVENTS → (id : ℕ)
    → seen.queries id < MAX_EVENTS
few_queries past x seen a less id = omega (arith, a.queries id, queried_few past x id, less)

pub few_flushes : (past : List Event) (x : EndId) (seen : Seen) → Agrees past x seen → length past < MAX_EVENTS → seen.flushes < MAX_EVENTS
few_flushes past x seen a less = omega (arith, a.flushes, flushed_few past x, less)
