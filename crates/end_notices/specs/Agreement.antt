-- What an end keeps of controls is what the events say of them.
use Rattle.std.specs.Prelude.{ℕ, ◌≡◌, ◌+◌, ◌&&◌, ◌++◌, Bool, false, not, nat_lt, List, length, map, Option, Some, None}
use Rattle.mj_base.specs.declared.ids.EndId.{EndId}
use Rattle.bind_model.specs.Laws.{AllMet}
use Rattle.bind_model.specs.Machine.{is_closed}
use Rattle.bind_model.specs.Notices as model
use Rattle.bind_model.specs.Notices.{first_unmet, flushed, has_met, queried, query_pends, versioned, waits}
use Rattle.bind_model.specs.Replies.{told_of}
use Rattle.bind_model.specs.declared.asked.Notice.TheVariants.{Flush}
use Rattle.bind_model.specs.declared.endpoint.Endpoint.{Endpoint}
use Rattle.bind_model.specs.declared.event.Event.{Event}
use Rattle.bind_model.specs.declared.told.Notified.TheVariants.{Flushing}
use Rattle.end_notices.specs.Seen.{Seen}
use Rattle.end_notices.specs.Table.{Lines, notices_at}
use Rattle.end_notices.specs.declared.waits.Wait.{Wait}

-- a wait as the events have it
abbrev pub wait_of : Wait → model.Wait
wait_of w = record { end = w.end; flush = w.flush }

-- what an end keeps is what the events say: each version that was told has ended a query, and of its waits those in front
-- that are met may be forgotten
pub record Agrees (past : List Event) (x : EndId) (seen : Seen) : Type 0 where
  pub queries : (id : ℕ) → seen.queries id + versioned past x id ≡ queried past x id
  pub flushes : seen.flushes ≡ length (flushed past x)
  pub met : (k : ℕ) → seen.met k ≡ has_met past x k
  pub forgotten : List model.Wait
  pub were_met : AllMet past forgotten
  pub waits : forgotten ++ map wait_of seen.waits ≡ waits past x

-- so it is with each end
abbrev pub AllAgree : List Event → Lines → Type 0
AllAgree past lines = (x : EndId) → Agrees past x (notices_at lines x)

-- whether a version is awaited at an endpoint, by how many queries wait there
abbrev pub is_awaited : ℕ → Option Endpoint → Bool
is_awaited count None = false
is_awaited count (Some r) = not r.peer_closed && not (is_closed r) && nat_lt 0 count

-- what an end's notices say
pub record Says (past : List Event) (x : EndId) (seen : Seen) : Type 0 where
  pub awaits : (id : ℕ) (o : Option Endpoint) → query_pends past x id o ≡ is_awaited (seen.queries id) o
  pub next : told_of past x Flush ≡ Flushing (seen.flushes + 1)
  pub met : (k : ℕ) → has_met past x k ≡ seen.met k
  pub paused : first_unmet past (waits past x) ≡ first_unmet past (map wait_of seen.waits)
