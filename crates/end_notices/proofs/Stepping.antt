-- What one event more makes of an end's notices.
use Rattle.std.proofs.Common.{◌≡◌, ◌<◌, ℕ, zero, suc, ◌+◌, ◌-◌, Bool, true, false, ◌||◌, ◌&&◌, List, [], ◌∷◌, ◌++◌, length, drop, refl, sym, ap, ◌∙◌, append_assoc, arith}
use Rattle.std.specs.Prelude.{if◌then◌else◌, ◌==◌, nat_lt, not, map, Option, Some, None}
use Rattle.std.specs.List.{slice_get}
use Rattle.std.proofs.lemmas.Bool.{eqb-true}
use Rattle.std.proofs.lemmas.Bool.Decides.{nat_tests}
use Rattle.std.proofs.lemmas.List.{append-nil, length-append, map-append}
use Rattle.mj_base.specs.declared.ids.EndId.{EndId}
use Rattle.bind_model.specs.Laws.{AllMet}
use Rattle.bind_model.specs.Machine.{is_closed}
use Rattle.bind_model.specs.Notices as model
use Rattle.bind_model.specs.Notices.{first_unmet, flushed, flushes, has_met, is_met, meets, queried, queries, query_pends, versioned, versions, waits, waits_by}
use Rattle.bind_model.specs.declared.endpoint.Endpoint.{Endpoint}
use Rattle.bind_model.specs.declared.event.Event.{Event}
use Rattle.bind_model.specs.declared.told.Notified.TheVariants.{Flushing}
use Rattle.bind_model.proofs.CoreFacts.{met_stays}
use Rattle.end_notices.specs.Seen.{Seen, none_seen, without_wait}
use Rattle.end_notices.specs.Agreement.{Agrees, Says, is_awaited, wait_of}
use Rattle.end_notices.specs.declared.waits.Wait.{Wait}

-- ## What they say

-- some wait where more asked than were told
awaits_is : (asked told kept : ℕ) → kept + told ≡ asked → nat_lt told asked ≡ nat_lt 0 kept
awaits_is asked told zero e = grind (arith, nat_tests, e)
awaits_is asked told (suc kept) e = grind (arith, nat_tests, e)

-- waits that are met may be left out in front
behind_met : (past : List Event) (front ws : List model.Wait) → AllMet past front → first_unmet past (front ++ ws) ≡ first_unmet past ws
behind_met past [] ws met = refl
behind_met past (w ∷ front) ws met = rw met.0 (behind_met past front ws met.1)

pub says : (past : List Event) (x : EndId) (seen : Seen) → Agrees past x seen → Says past x seen
says past x seen a = record {
  awaits = awaits;
  next = ap (λ (n : ℕ). Flushing (n + 1)) (sym a.flushes);
  met = λ k. sym (a.met k);
  paused = ap (first_unmet past) (sym a.waits) ∙ behind_met past a.forgotten (map wait_of seen.waits) a.were_met;
}
  where
    awaits : (id : ℕ) (o : Option Endpoint) → query_pends past x id o ≡ is_awaited (seen.queries id) o
    awaits id None = refl
    awaits id (Some r) =
        ap (λ (b : Bool). not r.peer_closed && not (is_closed r) && b)
        (awaits_is (queried past x id) (versioned past x id) (seen.queries id) (a.queries id))

-- ## What they become

-- none agree with no events
pub begins : (x : EndId) → Agrees [] x none_seen
begins x = record { queries = λ id. refl; flushes = refl; met = λ k. refl; forgotten = []; were_met = tt; waits = refl }

-- what an event is at an end that neither asks nor tells a version there, writes and consumes no flush, and gives no wait
pub record IsQuiet (event : Event) (x : EndId) : Type 0 where
  pub asks : (id : ℕ) → queries event.told event.asked x id ≡ 0
  pub tells : (id : ℕ) → versions event.told event.asked x id ≡ 0
  pub writes : flushes event.told event.asked x ≡ []
  pub consumes : (k : ℕ) → meets event.told event.asked x k ≡ false
  pub waits : waits_by event.told event.asked x ≡ []

-- what was met stays so
still_met : (event : Event) (past : List Event) (ws : List model.Wait) → AllMet past ws → AllMet (event ∷ past) ws
still_met event past [] met = tt
still_met event past (w ∷ ws) met = (met_stays past event w met.0, still_met event past ws met.1)

or_none : (b : Bool) → (b || false) ≡ b
or_none true = refl
or_none false = refl

module _ (event : Event) (past : List Event) (x : EndId) (old new : Seen) (a : Agrees past x old) where
  same_queries : ((id : ℕ) → queries event.told event.asked x id ≡ 0) → ((id : ℕ) → versions event.told event.asked x id ≡ 0)
      → ((id : ℕ) → new.queries id ≡ old.queries id)
      → (id : ℕ) → new.queries id + versioned (event ∷ past) x id ≡ queried (event ∷ past) x id
  same_queries none untold same id = omega (arith, a.queries id, none id, untold id, same id)

  same_flushes : flushes event.told event.asked x ≡ [] → new.flushes ≡ old.flushes → new.flushes ≡ length (flushed (event ∷ past) x)
  same_flushes none same =
      same ∙ a.flushes
      ∙ sym (ap (λ (ks : List ℕ). length (flushed past x ++ ks)) none ∙ ap (λ (ks : List ℕ). length ks) (append-nil (flushed past x)))

  same_met : ((k : ℕ) → meets event.told event.asked x k ≡ false) → ((k : ℕ) → new.met k ≡ old.met k)
      → (k : ℕ) → new.met k ≡ has_met (event ∷ past) x k
  same_met none same k = same k ∙ a.met k ∙ sym (ap (λ (b : Bool). has_met past x k || b) (none k) ∙ or_none (has_met past x k))

  same_waits : waits_by event.told event.asked x ≡ [] → new.waits ≡ old.waits → a.forgotten ++ map wait_of new.waits ≡ waits (event ∷ past) x
  same_waits none same =
      ap (λ (ws : List Wait). a.forgotten ++ map wait_of ws) same ∙ a.waits ∙ sym (ap (λ ws. waits past x ++ ws) none ∙ append-nil (waits past x))

  met_yet : AllMet (event ∷ past) a.forgotten
  met_yet = still_met event past a.forgotten a.were_met

  -- a query that was written waits
  pub asked : (id : ℕ) → ((n : ℕ) → queries event.told event.asked x n ≡ (if id == n then 1 else 0))
      → ((n : ℕ) → versions event.told event.asked x n ≡ 0) → flushes event.told event.asked x ≡ []
      → ((k : ℕ) → meets event.told event.asked x k ≡ false) → waits_by event.told event.asked x ≡ []
      → ((n : ℕ) → new.queries n ≡ (if id == n then old.queries id + 1 else old.queries n))
      → new.flushes ≡ old.flushes → ((k : ℕ) → new.met k ≡ old.met k) → new.waits ≡ old.waits
      → Agrees (event ∷ past) x new
  asked id one untold writes consumes gives now same met ws = record {
    queries = λ n. go n (id == n) refl;
    flushes = same_flushes writes same;
    met = same_met consumes met;
    forgotten = a.forgotten;
    were_met = met_yet;
    waits = same_waits gives ws;
  }
    where
      go : (n : ℕ) (b : Bool) → (id == n) ≡ b → new.queries n + versioned (event ∷ past) x n ≡ queried (event ∷ past) x n
      go n true e =
          let is : id ≡ n = eqb-true id n e in
          let at : new.queries n ≡ old.queries id + 1 = rw e at (now n) in
          let more : queries event.told event.asked x n ≡ 1 = rw e at (one n) in
          let here : old.queries id ≡ old.queries n = ap (λ (m : ℕ). old.queries m) is in
          omega (arith, at, more, here, a.queries n, untold n)
      go n false e =
          let at : new.queries n ≡ old.queries n = rw e at (now n) in
          let more : queries event.told event.asked x n ≡ 0 = rw e at (one n) in
          omega (arith, at, more, a.queries n, untold n)

  -- a version that was told ends one
  pub answered : (id : ℕ) → 0 < old.queries id → ((n : ℕ) → queries event.told event.asked x n ≡ 0)
      → ((n : ℕ) → versions event.told event.asked x n ≡ (if id == n then 1 else 0)) → flushes event.told event.asked x ≡ []
      → ((k : ℕ) → meets event.told event.asked x k ≡ false) → waits_by event.told event.asked x ≡ []
      → ((n : ℕ) → new.queries n ≡ (if id == n then old.queries id - 1 else old.queries n))
      → new.flushes ≡ old.flushes → ((k : ℕ) → new.met k ≡ old.met k) → new.waits ≡ old.waits
      → Agrees (event ∷ past) x new
  answered id some none one writes consumes gives now same met ws = record {
    queries = λ n. go n (id == n) refl;
    flushes = same_flushes writes same;
    met = same_met consumes met;
    forgotten = a.forgotten;
    were_met = met_yet;
    waits = same_waits gives ws;
  }
    where
      go : (n : ℕ) (b : Bool) → (id == n) ≡ b → new.queries n + versioned (event ∷ past) x n ≡ queried (event ∷ past) x n
      go n true e =
          let is : id ≡ n = eqb-true id n e in
          let at : new.queries n ≡ old.queries id - 1 = rw e at (now n) in
          let more : versions event.told event.asked x n ≡ 1 = rw e at (one n) in
          let here : old.queries id ≡ old.queries n = ap (λ (m : ℕ). old.queries m) is in
          omega (arith, at, more, here, some, a.queries n, none n)
      go n false e =
          let at : new.queries n ≡ old.queries n = rw e at (now n) in
          let more : versions event.told event.asked x n ≡ 0 = rw e at (one n) in
          omega (arith, at, more, a.queries n, none n)

  -- a flush that was written
  pub wrote_flush : (number : ℕ) → ((n : ℕ) → queries event.told event.asked x n ≡ 0) → ((n : ℕ) → versions event.told event.asked x n ≡ 0)
      → flushes event.told event.asked x ≡ number ∷ [] → ((k : ℕ) → meets event.told event.asked x k ≡ false) → waits_by event.told event.asked x ≡ []
      → ((n : ℕ) → new.queries n ≡ old.queries n) → new.flushes ≡ old.flushes + 1
      → ((k : ℕ) → new.met k ≡ old.met k) → new.waits ≡ old.waits
      → Agrees (event ∷ past) x new
  wrote_flush number none untold writes consumes gives same more met ws =
      let all = length-append (flushed past x) (flushes event.told event.asked x) in
      let one = ap (λ (ks : List ℕ). length ks) writes in
      record {
        queries = same_queries none untold same;
        flushes = omega (arith, more, a.flushes, all, one);
        met = same_met consumes met;
        forgotten = a.forgotten;
        were_met = met_yet;
        waits = same_waits gives ws;
      }

  -- a flush that was consumed
  pub consumed : (number : ℕ) → ((n : ℕ) → queries event.told event.asked x n ≡ 0) → ((n : ℕ) → versions event.told event.asked x n ≡ 0)
      → flushes event.told event.asked x ≡ [] → ((k : ℕ) → meets event.told event.asked x k ≡ (number == k)) → waits_by event.told event.asked x ≡ []
      → ((n : ℕ) → new.queries n ≡ old.queries n) → new.flushes ≡ old.flushes
      → ((k : ℕ) → new.met k ≡ (old.met k || (number == k))) → new.waits ≡ old.waits
      → Agrees (event ∷ past) x new
  consumed number none untold writes consumes gives same counted met ws = record {
    queries = same_queries none untold same;
    flushes = same_flushes writes counted;
    met = λ k.
        met k ∙ (ap (λ (b : Bool). b || (number == k)) (a.met k) ∙ ap (λ (b : Bool). has_met past x k || b) (sym (consumes k)));
    forgotten = a.forgotten;
    were_met = met_yet;
    waits = same_waits gives ws;
  }

  -- a wait that was given
  pub waited : (wait : Wait) → ((n : ℕ) → queries event.told event.asked x n ≡ 0) → ((n : ℕ) → versions event.told event.asked x n ≡ 0)
      → flushes event.told event.asked x ≡ [] → ((k : ℕ) → meets event.told event.asked x k ≡ false)
      → waits_by event.told event.asked x ≡ wait_of wait ∷ []
      → ((n : ℕ) → new.queries n ≡ old.queries n) → new.flushes ≡ old.flushes
      → ((k : ℕ) → new.met k ≡ old.met k) → new.waits ≡ old.waits ++ wait ∷ []
      → Agrees (event ∷ past) x new
  waited wait none untold writes consumes gives same counted met ws = record {
    queries = same_queries none untold same;
    flushes = same_flushes writes counted;
    met = same_met consumes met;
    forgotten = a.forgotten;
    were_met = met_yet;
    waits = ap (λ (all : List Wait). a.forgotten ++ map wait_of all) ws
        ∙ (ap (λ all. a.forgotten ++ all) (map-append wait_of old.waits (wait ∷ []))
        ∙ (sym (append_assoc a.forgotten (map wait_of old.waits) (wait_of wait ∷ []))
        ∙ (ap (λ all. all ++ wait_of wait ∷ []) a.waits ∙ sym (ap (λ all. waits past x ++ all) gives))));
  }

-- nothing of it where the event is quiet at the end
pub quiet : (event : Event) (past : List Event) (x : EndId) (seen : Seen) → Agrees past x seen → IsQuiet event x → Agrees (event ∷ past) x seen
quiet event past x seen a q = record {
  queries = same_queries event past x seen seen a q.asks q.tells (λ id. refl);
  flushes = same_flushes event past x seen seen a q.writes refl;
  met = same_met event past x seen seen a q.consumes (λ k. refl);
  forgotten = a.forgotten;
  were_met = met_yet event past x seen seen a;
  waits = same_waits event past x seen seen a q.waits refl;
}

-- ## What may be forgotten

-- the first wait, once it is met
pub forgot : (past : List Event) (x : EndId) (seen : Seen) → Agrees past x seen → (wait : Wait) → slice_get seen.waits 0 ≡ Some wait
    → is_met past (wait_of wait) ≡ true → Agrees past x (without_wait seen)
forgot past x seen a wait first met = record {
  queries = a.queries;
  flushes = a.flushes;
  met = a.met;
  forgotten = a.forgotten ++ wait_of wait ∷ [];
  were_met = both a.forgotten a.were_met;
  waits = go seen.waits first ∙ a.waits;
}
  where
    both : (front : List model.Wait) → AllMet past front → AllMet past (front ++ wait_of wait ∷ [])
    both [] all = (met, tt)
    both (w ∷ front) all = (all.0, both front all.1)

    go : (ws : List Wait) → slice_get ws 0 ≡ Some wait → (a.forgotten ++ wait_of wait ∷ []) ++ map wait_of (drop 1 ws) ≡ a.forgotten ++ map wait_of ws
    go [] e = absurd cc
    go (w ∷ ws) e =
        let same : w ≡ wait = cc in
        append_assoc a.forgotten (wait_of wait ∷ []) (map wait_of ws) ∙ ap (λ (z : Wait). a.forgotten ++ wait_of z ∷ map wait_of ws) (sym same)
