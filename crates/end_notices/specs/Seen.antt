-- What contracts see of what an end keeps of controls, and what becomes of it.
use Rattle.std.specs.Prelude.{ℕ, ◌+◌, ◌-◌, ◌==◌, ◌||◌, ◌++◌, Bool, true, false, List, [], ◌∷◌, drop, if◌then◌else◌}
use Rattle.std.specs.BTreeSet.{contains}
use Rattle.std.specs.Ordering.{nat_cmp}
use Rattle.bind_model.specs.declared.asked.Notice.{Notice}
use Rattle.bind_model.specs.declared.asked.Notice.TheVariants.{Query, Require, Flush}
use Rattle.end_notices.specs.Kept.{has_place, waiting}
use Rattle.end_notices.specs.declared.notices.Notices.{Notices}
use Rattle.end_notices.specs.declared.waits.Wait.{Wait}

-- how many queries wait at each endpoint, how many flushes the end wrote, which it consumed, and what it waits for
pub record Seen : Type 0 where
  pub queries : ℕ → ℕ
  pub flushes : ℕ
  pub met : ℕ → Bool
  pub waits : List Wait

-- what is seen of an end that wrote and consumed nothing of it
abbrev pub none_seen : Seen
none_seen = record { queries = λ id. 0; flushes = 0; met = λ k. false; waits = [] }

-- what is seen of what an end keeps
abbrev pub seen_of : Notices → Seen
seen_of notices = record {
  queries = λ id. waiting notices.queries id;
  flushes = notices.flushes;
  met = λ k. contains nat_cmp notices.met k;
  waits = notices.waits;
}

-- ## What becomes of it

-- one query more waits at the endpoint of an id
abbrev pub with_query : ℕ → Seen → Seen
with_query id seen = record seen { queries = λ n. if id == n then seen.queries id + 1 else seen.queries n }

-- one that waited there has its version
abbrev pub without_query : ℕ → Seen → Seen
without_query id seen = record seen { queries = λ n. if id == n then seen.queries id - 1 else seen.queries n }

-- one flush more was written
abbrev pub with_flush : Seen → Seen
with_flush seen = record seen { flushes = seen.flushes + 1 }

-- the flush of a number was consumed
abbrev pub with_met : ℕ → Seen → Seen
with_met flush seen = record seen { met = λ k. seen.met k || (flush == k) }

-- one wait more was given
abbrev pub with_wait : Wait → Seen → Seen
with_wait wait seen = record seen { waits = seen.waits ++ wait ∷ [] }

-- the first wait, which was met, is forgotten
abbrev pub without_wait : Seen → Seen
without_wait seen = record seen { waits = drop 1 seen.waits }

-- a notice was written
abbrev pub with_notice : Notice → Seen → Seen
with_notice (Query id) seen = with_query id seen
with_notice (Require id v) seen = seen
with_notice Flush seen = with_flush seen

-- there is a place for the queries at the endpoint that a notice asks of
abbrev pub has_room : Notice → Notices → Bool
has_room (Query id) notices = has_place notices.queries id
has_room (Require id v) notices = true
has_room Flush notices = true
