-- What a core rests on: it watches ends whatever they wait for, and forgets waits that are met.
use Rattle.std.proofs.Common.{◌≡◌, Bool, true, false, List, [], ◌∷◌, inl, inr}
use Rattle.std.specs.Prelude.{Option, Some, None, not, is_some}
use Rattle.mj_base.specs.declared.ids.EndId.{EndId}
use Rattle.mj_base.specs.declared.ids.SeqId.{SeqId}
use Rattle.handle_table.specs.declared.thing.Thing.TheVariants.{End}
use Rattle.handle_table.proofs.ThingsLemmas.{has-front, or_left, or_right, or_cases}
use Rattle.bind_model.specs.declared.told.Told.{Told}
use Rattle.bind_model.specs.declared.told.Why.TheVariants.{NoName, Disconnected}
use Rattle.bind_model.specs.declared.event.Event.{Event}
use Rattle.bind_model.specs.Machine.{gone, gone_by, is_gone, endpoint_at, unread}
use Rattle.bind_model.specs.Notices.{Wait, waits, has_met, meets, is_met, first_unmet}
use Rattle.bind_model.specs.Ready.{is_settled, settles, settles_unpaused, is_ready, is_takeable, taker}
use Rattle.bind_model.specs.Replies.{first_of, unless, pause_of, took_front}
use Rattle.bind_model.specs.Wire.{Wire}

-- ## Ends that are ready

settled_open : (a b : Bool) (w : Option EndId) (done : Told) → is_settled (first_of (unless a NoName ∷ unless b Disconnected ∷ pause_of w ∷ []) done) ≡ true
    → is_settled (first_of (unless a NoName ∷ unless b Disconnected ∷ []) done) ≡ true
settled_open true true None done h = h
settled_open true true (Some x) done h = absurd cc
settled_open true false w done h = absurd cc
settled_open false b w done h = absurd cc

-- whatever is ready is takeable: a set of ends that has all takeable ones has all that are ready
pub ready_takeable : (wire : Wire) (past : List Event) (y : EndId) → is_ready wire past y ≡ true → is_takeable wire past y ≡ true
ready_takeable wire past y h = go (taker wire past y) h
  where
    go : (o : Option SeqId) → settles wire past y o ≡ true → settles_unpaused wire past y o ≡ true
    go None h = h
    go (Some seq) h = settled_open (is_some (endpoint_at wire past y 0)) (not (is_gone past y)) (first_unmet past (waits past y))
        (took_front wire past seq y (unread wire past y)) h

-- and what is takeable and not paused is ready
open_settled : (a b : Bool) (done : Told) → is_settled (first_of (unless a NoName ∷ unless b Disconnected ∷ []) done) ≡ true
    → is_settled (first_of (unless a NoName ∷ unless b Disconnected ∷ None ∷ []) done) ≡ true
open_settled true true done h = h
open_settled true false done h = absurd cc
open_settled false b done h = absurd cc

pub takeable_ready : (wire : Wire) (past : List Event) (y : EndId) → first_unmet past (waits past y) ≡ None → is_takeable wire past y ≡ true
    → is_ready wire past y ≡ true
takeable_ready wire past y none h = go (taker wire past y) h
  where
    go : (o : Option SeqId) → settles_unpaused wire past y o ≡ true → settles wire past y o ≡ true
    go None h = h
    go (Some seq) h = rw none (open_settled (is_some (endpoint_at wire past y 0)) (not (is_gone past y)) (took_front wire past seq y (unread wire past y)) h)

-- ## Waits

-- a wait that is met stays so
pub met_stays : (past : List Event) (event : Event) (w : Wait) → is_met past w ≡ true → is_met (event ∷ past) w ≡ true
met_stays past event w h = elim (or_cases (is_gone past w.end) (has_met past w.end w.flush) h) [
  | inl g ↦ or_left (is_gone (event ∷ past) w.end) (has_met (event ∷ past) w.end w.flush) (has-front (gone past) (gone_by event.told) (End w.end) g)
  | inr m ↦ or_right (is_gone (event ∷ past) w.end) (has_met (event ∷ past) w.end w.flush)
      (or_left (has_met past w.end w.flush) (meets event.told event.asked w.end w.flush) m)
]
