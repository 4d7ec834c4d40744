-- Events of a past and those before them, and how a message came to an end.
use Rattle.std.proofs.Common.{◌≡◌, ◌≤◌, ℕ, zero, suc, ◌+◌, Bool, true, false, List, [], ◌∷◌, ◌++◌, length, drop, refl, sym, ap, ◌∙◌, arith, ◌⊎◌, inl, inr}
use Rattle.std.specs.Prelude.{Some, None, if◌then◌else◌, not, ◌&&◌, ◌||◌, ◌==◌, map, filter}
use Rattle.mj_base.specs.declared.ids.EndId.{EndId}
use Rattle.handle_table.specs.Things.{same_end, has}
use Rattle.handle_table.specs.declared.thing.Thing.{Thing}
use Rattle.handle_table.specs.declared.thing.Thing.TheVariants.{End}
use Rattle.handle_table.proofs.ThingsLemmas.{has-front, not_right}
use Rattle.message_pipe.specs.declared.message.Message.{Message}
use Rattle.bind_model.specs.Machine.{consumed, made, made_by, peer, is_gone, is_local, is_peer_closed, taken, written, puts, lands, emits, emits_for, control_of, endpoint_at, enters, closed_ids, unread, Endpoints}
use Rattle.bind_model.specs.Replies.{legal}
use Rattle.bind_model.specs.Wire.{Wire}
use Rattle.bind_model.specs.declared.asked.Asked.{Asked}
use Rattle.bind_model.specs.declared.asked.Asked.TheVariants.{Answer, Call, Close, Raw, Take, Notify}
use Rattle.bind_model.specs.declared.asked.Closing.TheVariants as closings
use Rattle.bind_model.specs.declared.asked.Notice.{Notice}
use Rattle.bind_model.specs.declared.asked.Outgoing.{Outgoing}
use Rattle.bind_model.specs.declared.endpoint.ResponderId.{ResponderId}
use Rattle.bind_model.specs.declared.event.Event.{Event}
use Rattle.control_bytes.specs.declared.control.Control.{Control}
use Rattle.control_bytes.specs.declared.control.Control.TheVariants as says
use Rattle.bind_model.specs.declared.told.Noted.{Noted}
use Rattle.bind_model.specs.declared.told.Noted.TheVariants as noted
use Rattle.bind_model.specs.declared.told.Notified.{Notified}
use Rattle.bind_model.specs.declared.told.Told.{Told}
use Rattle.bind_model.specs.declared.told.Told.TheVariants.{Closed, Control as Heard, Dropped, Notified as Informed, Sent, Taken, Wrote}
use Rattle.bind_model.proofs.Fresh.{kept}
use Rattle.reply_laws.specs.Own.{Earlier, latest, before, was_raw, writes_raw}
use Rattle.bind_model.proofs.PeerLemmas.{told_peer, not_again}

-- ## Pasts

-- a past goes on from another
pub data Since (old : List Event) : List Event → Type 0 where
  same : Since old old
  later : {event : Event} {past : List Event} → Since old past → Since old (event ∷ past)

pub since_tail : {event : Event} {old past : List Event} → Since (event ∷ old) past → Since old past
since_tail same = later same
since_tail (later s) = later (since_tail s)

pub since_legal : (wire : Wire) (seqs : ℕ) {old past : List Event} → Since old past → legal wire seqs past → legal wire seqs old
since_legal wire seqs same h = h
since_legal wire seqs (later s) h = since_legal wire seqs s h.2

pub since_few : {old past : List Event} → Since old past → length old ≤ length past
since_few same = omega arith
since_few (later s) = let few = since_few s in omega (arith, few)

pub since_unraw : {old past : List Event} → Since old past → (x : EndId) → was_raw past x ≡ false → was_raw old x ≡ false
since_unraw same x h = h
since_unraw (later {event = event} {past = past} s) x h = since_unraw s x (not_right (writes_raw event.told x) (was_raw past x) h)

-- an end that was made keeps its peer
pub since_peer : (wire : Wire) (seqs : ℕ) {old past : List Event} → Since old past → legal wire seqs past → (x : EndId) → has (made old) (End x) ≡ true
    → (peer past x ≡ peer old x) × (has (made past) (End x) ≡ true)
since_peer wire seqs same h x known = (refl, known)
since_peer wire seqs (later {event = event} {past = past} s) h x known =
    let r = since_peer wire seqs s h.2 x known in (
      told_peer event.told x (peer past x)
          (not_again (made past) (made_by event.told) (End x) (kept wire seqs (event ∷ past) h).distinct r.1) ∙ r.0,
      has-front (made past) (made_by event.told) (End x) r.1,
    )

pub map_earlier : {P Q : List Event → Told → Asked → Type 0} {past : List Event} → Earlier P past
    → ((event : Event) (old : List Event) → Since (event ∷ old) past → P old event.told event.asked → Q old event.told event.asked) → Earlier Q past
map_earlier (latest {event = event} {past = past} p) f = latest (f event past same p)
map_earlier (before e) f = before (map_earlier e (λ event old s p. f event old (later s) p))

-- ## Messages of a list

-- a message stands in a list behind so many others
abbrev pub IsAt : Message → ℕ → List Message → Type 0
IsAt m n [] = ⊥
IsAt m zero (w ∷ ws) = m ≡ w
IsAt m (suc n) (w ∷ ws) = IsAt m n ws

-- it stands so in what lies behind so many messages more
abbrev pub IsBehind : Message → ℕ → ℕ → List Message → Type 0
IsBehind m n count ms = (k : ℕ) × (n ≡ count + k) × IsAt m k ms

at_append : (m : Message) (n : ℕ) (xs ys : List Message) → IsAt m n (xs ++ ys) → IsAt m n xs ⊎ IsBehind m n (length xs) ys
at_append m n [] ys i = inr (n, omega arith, i)
at_append m zero (x ∷ xs) ys i = inl i
at_append m (suc n) (x ∷ xs) ys i = elim (at_append m n xs ys i) [
  | inl a ↦ inl a
  | inr b ↦ inr (b.0, omega (arith, b.1), b.2)
]

at_drop : (n : ℕ) (ms rest : List Message) (m : Message) → drop n ms ≡ m ∷ rest → IsAt m n ms
at_drop zero [] rest m e = absurd cc
at_drop zero (w ∷ ws) rest m e = let s : m ≡ w = cc in s
at_drop (suc n) [] rest m e = absurd cc
at_drop (suc n) (w ∷ ws) rest m e = at_drop n ws rest m e

-- the oldest unread message was written behind as many as were consumed
pub front_at : (wire : Wire) (past : List Event) (y : EndId) (m : Message) (rest : List Message) → is_gone past y ≡ false → unread wire past y ≡ m ∷ rest
    → IsAt m (consumed past y) (written wire past y)
front_at wire past y m rest here e =
    at_drop (length (taken past y)) (written wire past y) rest m
    (ap (λ (b : Bool). if b then [] else drop (length (taken past y)) (written wire past y)) (sym here) ∙ e)

-- an event puts the message of this number at x
abbrev pub Puts : Wire → EndId → Message → ℕ → List Event → Told → Asked → Type 0
Puts wire x m n old told asked = IsBehind m n (length (written wire old x)) (puts wire old (written wire old) (endpoint_at wire old) told asked x)

-- what was written was put there by an event
pub put_by : (wire : Wire) (past : List Event) (x : EndId) (m : Message) (n : ℕ) → IsAt m n (written wire past x) → Earlier (Puts wire x m n) past
put_by wire [] x m n i = absurd i
put_by wire (event ∷ past) x m n i = elim
    (at_append m n (written wire past x) (puts wire past (written wire past) (endpoint_at wire past) event.told event.asked x) i) [
      | inl w ↦ before (put_by wire past x m n w)
      | inr p ↦ latest p
    ]

-- ## Who put it

-- whether a control is a flush
abbrev pub is_flush : Control → Bool
is_flush (says.Flush k) = true
is_flush c = false

-- how the message of this number came to x with an event
pub data Came (wire : Wire) (old : List Event) (x : EndId) (m : Message) (n : ℕ) : Told → Asked → Type 0 where
  by_call : {request : ℕ} {bytes : List ℕ} {y : EndId} {id : ℕ} {s : Outgoing} → same_end (peer old y) x ≡ true
      → m ≡ record { bytes = bytes; handles = s.handles; emitted = false } → length (written wire old x) ≡ n
      → Came wire old x m n (Sent request bytes) (Call y id s)
  by_answer : {request : ℕ} {bytes : List ℕ} {r : ResponderId} {s : Outgoing} → same_end (peer old r.end) x ≡ true
      → m ≡ record { bytes = bytes; handles = s.handles; emitted = false } → length (written wire old x) ≡ n
      → Came wire old x m n (Sent request bytes) (Answer r s)
  by_raw : {z : EndId} {w : Thing} {bytes : List ℕ} {handles : List Thing} → same_end (peer old z) x ≡ true
      → Came wire old x m n (Wrote z) (Raw w bytes handles)
  by_notice : {told : Notified} {y : EndId} {notice : Notice} → same_end (peer old y) x ≡ true → m.bytes ≡ wire.control (control_of notice told)
      → length (written wire old x) ≡ n → Came wire old x m n (Informed told) (Notify y notice)
  -- the machine writes no flush
  by_control : {told : Told} {asked : Asked} (c : Control) → m.bytes ≡ wire.control c → is_flush c ≡ false → Came wire old x m n told asked

module _ (wire : Wire) (old : List Event) (x : EndId) (m : Message) where
  in_lands : (y : EndId) (bytes : List ℕ) (handles : List Thing) (k : ℕ) → IsAt m k (lands old y bytes handles x)
      → (same_end (peer old y) x ≡ true) × (m ≡ record { bytes = bytes; handles = handles; emitted = false }) × (k ≡ 0)
  in_lands y bytes handles k i = go (same_end (peer old y) x) k i
    where
      go : (b : Bool) (k : ℕ) → IsAt m k (if b then record { bytes = bytes; handles = handles; emitted = false } ∷ [] else [])
          → (b ≡ true) × (m ≡ record { bytes = bytes; handles = handles; emitted = false }) × (k ≡ 0)
      go true zero e = (refl, e, refl)
      go true (suc k) i = absurd i
      go false k i = absurd i

  abbrev Emitted : Type 0
  Emitted = (c : Control) × (m.bytes ≡ wire.control c) × (is_flush c ≡ false)

  in_controls : (control : ℕ → Control) → ((id : ℕ) → is_flush (control id) ≡ false) → (ids : List ℕ) (k : ℕ)
      → IsAt m k (map (λ id. record { bytes = wire.control (control id); handles = []; emitted = true }) ids) → Emitted
  in_controls control none [] k i = absurd i
  in_controls control none (id ∷ ids) zero e = (control id, ap (λ (n : Message). n.bytes) e, none id)
  in_controls control none (id ∷ ids) (suc k) i = in_controls control none ids k i

  in_emits : (y : EndId) (endpoints : Endpoints) (control : ℕ → Control) → ((id : ℕ) → is_flush (control id) ≡ false) → (ids : List ℕ) (k : ℕ)
      → IsAt m k (emits wire old y endpoints control ids x) → Emitted
  in_emits y endpoints control none ids k i = go (same_end (peer old y) x && not (is_gone old x)) i
    where
      left : List ℕ
      left = filter (λ id. not (is_peer_closed (endpoints id))) ids

      go : (b : Bool) → IsAt m k (if b then map (λ id. record { bytes = wire.control (control id); handles = []; emitted = true }) left else [])
          → Emitted
      go true i = in_controls control none left k i
      go false i = absurd i

  in_version : (y : EndId) (endpoints : Endpoints) (c : Noted) (k : ℕ) → IsAt m k (emits_for wire old y endpoints c x) → Emitted
  in_version y endpoints (noted.Queried id (Some v)) k i = in_emits y endpoints (λ n. says.Version n v) (λ n. refl) (id ∷ []) k i
  in_version y endpoints (noted.Queried id None) k i = absurd i
  in_version y endpoints (noted.Closed id) k i = absurd i
  in_version y endpoints (noted.Version id v) k i = absurd i
  in_version y endpoints (noted.Required id v) k i = absurd i
  in_version y endpoints (noted.Flushed n) k i = absurd i

  in_rest : (b : Bool) (ms : List Message) (k : ℕ) → IsAt m k (if b then [] else ms) → IsAt m k ms
  in_rest true ms k i = absurd i
  in_rest false ms k i = i

  first_of : (n k : ℕ) → n ≡ length (written wire old x) + k → k ≡ 0 → length (written wire old x) ≡ n
  first_of n k e z = omega (arith, e, z)

  pub came : (n : ℕ) (told : Told) (asked : Asked) → Puts wire x m n old told asked → Came wire old x m n told asked
  came n (Sent request bytes) (Call y id s) p = let l = in_lands y bytes s.handles p.0 p.2 in by_call l.0 l.1 (first_of n p.0 p.1 l.2)
  came n (Sent request bytes) (Answer r s) p = let l = in_lands r.end bytes s.handles p.0 p.2 in by_answer l.0 l.1 (first_of n p.0 p.1 l.2)
  came n (Wrote z) (Raw w bytes handles) p = let l = in_lands z bytes handles p.0 p.2 in by_raw l.0
  came n (Taken g) (Take y) p =
      let c = in_emits y (endpoint_at wire old y) says.Closed (λ i. refl)
      (closed_ids (enters wire old y (written wire old y) (endpoint_at wire old y) (Taken g))) p.0 p.2 in
      by_control c.0 c.1 c.2
  came n (Dropped id goes) (Take y) p =
      let c = in_emits y (endpoint_at wire old y) says.Closed (λ i. refl)
      (closed_ids (enters wire old y (written wire old y) (endpoint_at wire old y) (Dropped id goes))) p.0 p.2 in
      by_control c.0 c.1 c.2
  came n (Closed goes) (Close (closings.Endpoint y id)) p =
      let c = in_emits y (endpoint_at wire old y) says.Closed (λ i. refl) (id ∷ []) p.0 (in_rest (id == 0) _ p.0 p.2) in by_control c.0 c.1 c.2
  came n (Closed goes) (Close (closings.Pending q)) p =
      let c = in_emits q.end (endpoint_at wire old q.end) says.Closed (λ i. refl) (q.id ∷ []) p.0 (in_rest (is_gone old q.end || is_local old q) _ p.0 p.2) in
      by_control c.0 c.1 c.2
  came n (Heard c) (Take y) p = let d = in_version y (endpoint_at wire old y) c p.0 p.2 in by_control d.0 d.1 d.2
  came n (Informed told) (Notify y notice) p =
      let l = in_lands y (wire.control (control_of notice told)) [] p.0 p.2 in
      by_notice l.0 (ap (λ (w : Message). w.bytes) l.1) (first_of n p.0 p.1 l.2)
  came n told asked p = absurd p.2
