-- The weight of what an event writes.
use Rattle.std.proofs.Common.{◌≡◌, ◌≤◌, ℕ, zero, suc, Bool, true, false, List, [], ◌∷◌, length, refl, sym, subst, arith}
use Rattle.std.specs.Prelude.{◌==◌, ◌&&◌, ◌||◌, not, map, filter, if◌then◌else◌, Some}
use Rattle.mj_base.specs.declared.ids.EndId.{EndId}
use Rattle.handle_table.specs.Things.{has, same_end}
use Rattle.handle_table.specs.declared.thing.Thing.{Thing}
use Rattle.handle_table.proofs.ThingsLemmas.{same-refl}
use Rattle.message_pipe.specs.Ends.{spread}
use Rattle.message_pipe.specs.declared.message.Message.{Message}
use Rattle.bind_model.specs.declared.asked.Asked.TheVariants.{Close, Take}
use Rattle.bind_model.specs.declared.asked.Closing.{Closing}
use Rattle.bind_model.specs.declared.asked.Closing.TheVariants as closings
use Rattle.bind_model.specs.declared.event.Event.{Event}
use Rattle.control_bytes.specs.declared.control.Control.TheVariants as says
use Rattle.bind_model.specs.declared.told.Noted.TheVariants as noted
use Rattle.bind_model.specs.declared.told.Got.{Got}
use Rattle.bind_model.specs.declared.told.Told.{Told}
use Rattle.bind_model.specs.declared.told.Told.TheVariants.{Taken, Dropped, Control, Closed}
use Rattle.bind_model.specs.Machine.{Endpoints, closed_ids, content_at, emits, endpoint_at, enters, enters_from, front_of, ids_in, is_gone, is_local, is_peer_closed, lands, named_in, peer, unread, written}
use Rattle.bind_model.specs.Wire.{Wire}
use Rattle.bind_model.proofs.Controls.{closed_few, controls_of}
use Rattle.event_counts.proofs.Loads.{load}
use Rattle.event_counts.proofs.Waiting.{AtOne, some_end}

-- what is spread from things has the first of them
pub spread_first : (c : Thing → List Thing) (n : ℕ) (x : Thing) (xs : List Thing) → has (spread c n (x ∷ xs)) x ≡ true
spread_first c zero x xs = rw (same-refl x) refl
spread_first c (suc n) x xs = rw (same-refl x) refl

filter_few : (f : ℕ → Bool) (ids : List ℕ) → length (filter f ids) ≤ length ids
filter_few f [] = omega arith
filter_few f (id ∷ ids) = go (f id) (filter_few f ids)
  where
    go : (b : Bool) → length (filter f ids) ≤ length ids → length (if b then id ∷ filter f ids else filter f ids) ≤ suc (length ids)
    go true rest = omega (arith, rest)
    go false rest = omega (arith, rest)

-- ids that a take at y enters as closed: no more than its message carries
pub entered_few : (wire : Wire) (past : List Event) (y : EndId) (m : Message) (rest : List Message) → unread wire past y ≡ m ∷ rest → (told : Told)
    → length (closed_ids (enters wire past y (written wire past y) (endpoint_at wire past y) told)) ≤ length (ids_in wire m)
entered_few wire past y m rest front told =
    subst (λ (ms : List Message). length (closed_ids (enters_from wire (endpoint_at wire past y) told (front_of ms))) ≤ length (ids_in wire m))
    (sym front) (go told)
  where
    go : (told : Told) → length (closed_ids (enters_from wire (endpoint_at wire past y) told (Some m))) ≤ length (ids_in wire m)
    go (Taken g) = closed_few (endpoint_at wire past y) (named_in (content_at wire (endpoint_at wire past y g.id) m)) (ids_in wire m)
    go told = closed_few (endpoint_at wire past y) [] (ids_in wire m)

module _ (w : Message → ℕ) (wire : Wire) (past : List Event) where
  -- so many controls weigh so much at most
  abbrev pub Weigh : ℕ → ℕ → Type 0
  Weigh n k = (ids : List ℕ) → length ids ≤ n → load w (controls_of wire ids) ≤ k

  -- a message lands at one end
  pub lands_few : (y : EndId) (bytes : List ℕ) (handles : List Thing) (x : EndId)
      → load w (lands past y bytes handles x)
      ≤ (if same_end (peer past y) x then w (record { bytes = bytes; handles = handles; emitted = false }) else 0)
  lands_few y bytes handles x = go (same_end (peer past y) x)
    where
      go : (b : Bool) → load w (if b then record { bytes = bytes; handles = handles; emitted = false } ∷ [] else [])
          ≤ (if b then w (record { bytes = bytes; handles = handles; emitted = false }) else 0)
      go true = omega arith
      go false = omega arith

  -- and controls do
  emits_few : (y : EndId) (endpoints : Endpoints) (n k : ℕ) → Weigh n k → (ids : List ℕ) → length ids ≤ n → (x : EndId)
      → load w (emits wire past y endpoints says.Closed ids x) ≤ (if same_end (peer past y) x then k else 0)
  emits_few y endpoints n k few ids le x = go (same_end (peer past y) x) (not (is_gone past x))
    where
      left : List ℕ
      left = filter (λ id. not (is_peer_closed (endpoints id))) ids

      all : load w (controls_of wire left) ≤ k
      all = few left (omega (arith, le, filter_few (λ id. not (is_peer_closed (endpoints id))) ids))

      go : (a b : Bool) → load w (if (a && b) then controls_of wire left else []) ≤ (if a then k else 0)
      go true true = all
      go true false = omega arith
      go false b = omega arith

  unless_few : (b : Bool) (ms : List Message) (n : ℕ) → load w ms ≤ n → load w (if b then [] else ms) ≤ n
  unless_few true ms n few = omega arith
  unless_few false ms n few = few

  -- a take that got a message
  pub got_writes : (y : EndId) (m : Message) (rest : List Message) → unread wire past y ≡ m ∷ rest → (k : ℕ) → Weigh (length (ids_in wire m)) k → (g : Got)
      → AtOne w wire past (Taken g) (Take y) k
  got_writes y m rest front k few g = record {
    end = peer past y;
    few = emits_few y (endpoint_at wire past y) (length (ids_in wire m)) k few
        (closed_ids (enters wire past y (written wire past y) (endpoint_at wire past y) (Taken g)))
        (entered_few wire past y m rest front (Taken g));
  }

  -- or dropped one
  pub dropped_writes : (y : EndId) (m : Message) (rest : List Message) → unread wire past y ≡ m ∷ rest → (k : ℕ) → Weigh (length (ids_in wire m)) k
      → (id : ℕ) (goes : List Thing) → AtOne w wire past (Dropped id goes) (Take y) k
  dropped_writes y m rest front k few id goes = record {
    end = peer past y;
    few = emits_few y (endpoint_at wire past y) (length (ids_in wire m)) k few
        (closed_ids (enters wire past y (written wire past y) (endpoint_at wire past y) (Dropped id goes)))
        (entered_few wire past y m rest front (Dropped id goes));
  }

  -- a version that is told weighs so much at most
  abbrev pub VersionWeighs : ℕ → Type 0
  VersionWeighs k = (id v : ℕ) → w (record { bytes = wire.control (says.Version id v); handles = []; emitted = true }) ≤ k

  version_few : (y : EndId) (k : ℕ) → VersionWeighs k → (id v : ℕ) (x : EndId)
      → load w (emits wire past y (endpoint_at wire past y) (λ n. says.Version n v) (id ∷ []) x) ≤ (if same_end (peer past y) x then k else 0)
  version_few y k few id v x = go (same_end (peer past y) x) (not (is_gone past x)) (not (is_peer_closed (endpoint_at wire past y id)))
    where
      go : (a b c : Bool) → load w (if (a && b) then map (λ n. record { bytes = wire.control (says.Version n v); handles = []; emitted = true })
          (if c then id ∷ [] else []) else []) ≤ (if a then k else 0)
      go true true true = omega (arith, few id v)
      go true true false = omega arith
      go true false c = omega arith
      go false b c = omega arith

  pub heard_writes : (y : EndId) (k : ℕ) → VersionWeighs k → (id v : ℕ) → AtOne w wire past (Control (noted.Queried id (Some v))) (Take y) k
  heard_writes y k few id v = record { end = peer past y; few = version_few y k few id v }

  -- what is closed brings one control at most
  pub closed_writes : (k : ℕ) → Weigh 1 k → (thing : Closing) (goes : List Thing) → AtOne w wire past (Closed goes) (Close thing) k
  closed_writes k few (closings.Handle x) goes = record { end = some_end; few = λ x. omega arith }
  closed_writes k few (closings.Responder r) goes = record { end = some_end; few = λ x. omega arith }
  closed_writes k few (closings.Endpoint y id) goes = record {
    end = peer past y;
    few = λ x.
        unless_few (id == 0) (emits wire past y (endpoint_at wire past y) says.Closed (id ∷ []) x) (if same_end (peer past y) x then k else 0)
        (emits_few y (endpoint_at wire past y) 1 k few (id ∷ []) (omega arith) x);
  }
  closed_writes k few (closings.Pending p) goes = record {
    end = peer past p.end;
    few = λ x.
        unless_few (is_gone past p.end || is_local past p) (emits wire past p.end (endpoint_at wire past p.end) says.Closed (p.id ∷ []) x)
        (if same_end (peer past p.end) x then k else 0)
        (emits_few p.end (endpoint_at wire past p.end) 1 k few (p.id ∷ []) (omega arith) x);
  }
