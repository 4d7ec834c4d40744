-- Every legal history keeps what Kept says.
use Rattle.std.proofs.Common.{◌≡◌, ◌≤◌, ℕ, Bool, true, false, List, [], ◌∷◌, ◌++◌, length, refl, subst, arith, ◌⊎◌, inl, inr}
use Rattle.std.specs.Prelude.{Option, Some, None, if◌then◌else◌, not, ◌&&◌, ◌||◌, ◌==◌, map, filter}
use Rattle.std.specs.Option.{option_map}
use Rattle.std.proofs.lemmas.List.{append-nil, length-append}
use Rattle.std.proofs.lemmas.List.Folds.{list_any-append}
use Rattle.mj_base.specs.declared.ids.EndId.{EndId}
use Rattle.mj_base.specs.declared.ids.SeqId.{SeqId}
use Rattle.handle_table.specs.declared.thing.Thing.{Thing}
use Rattle.handle_table.specs.declared.thing.Thing.TheVariants.{End, Token}
use Rattle.bind_model.specs.declared.endpoint.State.TheVariants as states
use Rattle.bind_model.specs.declared.asked.Closing.TheVariants as closings
use Rattle.message_pipe.specs.declared.message.Message.{Message}
use Rattle.bind_model.specs.declared.endpoint.PendingId.{PendingId}
use Rattle.bind_model.specs.declared.endpoint.Endpoint.{Endpoint}
use Rattle.bind_model.specs.declared.asked.Asked.{Asked}
use Rattle.bind_model.specs.declared.asked.Asked.TheVariants.{Call, Answer, Raw, Take, Close, Notify}
use Rattle.control_bytes.specs.declared.control.Control.{Control as ControlType}
use Rattle.control_bytes.specs.declared.control.Control.TheVariants as says
use Rattle.bind_model.specs.declared.told.Noted.{Noted}
use Rattle.bind_model.specs.declared.told.Noted.TheVariants as noted
use Rattle.bind_model.specs.declared.told.Told.{Told}
use Rattle.bind_model.specs.declared.told.Told.TheVariants.{Sent, Wrote, Taken, Dropped, Control, Closed, Notified as Informed}
use Rattle.bind_model.specs.declared.event.Event.{Event}
use Rattle.handle_table.specs.Things.{same_end, has}
use Rattle.bind_model.specs.Wire.{Wire, Named}
use Rattle.bind_model.specs.Machine.{made, made_by, peer, peer_by, is_gone, bounds, bound_by, taken, takes, written, endpoint_at, changes, puts, emits, emits_for, marks, control_of, enters, entry_in, only_at, closed_ids, is_local, is_peer_closed, with_state, with_peer_closed, Entry}
use Rattle.bind_model.specs.Replies.{from_id, tokens, has_pending, same_pending, pendings_out, pendings_given, pendings_handed, pendings_at, picked}
use Rattle.handle_table.proofs.ThingsLemmas.{same_end-true, same_end-refl, has-front, has-back, has-cases, has-not_front, or_left, or_right, or_cases, and_left}
use Rattle.bind_model.proofs.Kept.{Kept, bound_made}
use Rattle.bind_model.proofs.Moving.{few_read, row_made, made_one}
use Rattle.bind_model.proofs.Outcomes.{Outcome, Fronts, joins, mints, binds, associates, attaches, calls, answers, writes, gets, drops, controls, spoils, closes, closes_pending, closes_responder, closes_end, closes_endpoint, notifies, pauses, pipes, flows, skips, refuses}

from_map : (f : Endpoint → Endpoint) (o : Option Endpoint) (r : Endpoint) → option_map f o ≡ Some r → (r0 : Endpoint) × (o ≡ Some r0)
from_map f None r h = absurd cc
from_map f (Some r0) r h = (r0, refl)

only_cases : (y : EndId) (n : ℕ) (x : EndId) (id : ℕ) (now before : Option Endpoint) (r : Endpoint) → only_at y n x id now before ≡ Some r
    → ((same_end y x ≡ true) × (now ≡ Some r)) ⊎ (before ≡ Some r)
only_cases y n x id now before r h = go (same_end y x && (n == id)) refl h
  where
    go : (b : Bool) → (same_end y x && (n == id)) ≡ b → (if b then now else before) ≡ Some r → ((same_end y x ≡ true) × (now ≡ Some r)) ⊎ (before ≡ Some r)
    go true e h = inl (and_left (same_end y x) (n == id) e, h)
    go false e h = inr h

module _ (wire : Wire) (seqs : ℕ) (past : List Event) (seq : SeqId) (k : Kept wire past) where
  -- ## Whatever has an endpoint was bound

  as_before : (more : List Thing) (x : EndId) (id : ℕ) (r : Endpoint) → endpoint_at wire past x id ≡ Some r → has (bounds past ++ more) (End x) ≡ true
  as_before more x id r h = has-front (bounds past) more (End x) (k.endpoints x id r h)

  same_as : (more : List Thing) (y x : EndId) → same_end y x ≡ true → has (bounds past) (End y) ≡ true → has (bounds past ++ more) (End x) ≡ true
  same_as more y x e b = rw (← same_end-true y x e) (has-front (bounds past) more (End y) b)

  taken_at : (y x : EndId) (entries : List Entry) (id : ℕ) (r : Endpoint) (b : Bool) → same_end y x ≡ b → has (bounds past) (End y) ≡ true
      → (if b then entry_in entries id (endpoint_at wire past x id) else endpoint_at wire past x id) ≡ Some r → has (bounds past ++ []) (End x) ≡ true
  taken_at y x entries id r true e bound h = same_as [] y x e bound
  taken_at y x entries id r false e bound h = as_before [] x id r h

  changed : (f : Endpoint → Endpoint) (y : EndId) (n : ℕ) (x : EndId) (id : ℕ) (r : Endpoint)
      → only_at y n x id (option_map f (endpoint_at wire past x id)) (endpoint_at wire past x id) ≡ Some r → has (bounds past ++ []) (End x) ≡ true
  changed f y n x id r h = elim (only_cases y n x id (option_map f (endpoint_at wire past x id)) (endpoint_at wire past x id) r h) [
    | inl s ↦ let o = from_map f (endpoint_at wire past x id) r s.1 in as_before [] x id o.0 o.1
    | inr s ↦ as_before [] x id r s
  ]

  marked_at : (y x : EndId) (c : Noted) (id : ℕ) (r : Endpoint) → marks y c x id (endpoint_at wire past x id) ≡ Some r → has (bounds past ++ []) (End x) ≡ true
  marked_at y x (noted.Closed n) id r h = changed with_peer_closed y n x id r h
  marked_at y x (noted.Queried n v) id r h = as_before [] x id r h
  marked_at y x (noted.Version n v) id r h = as_before [] x id r h
  marked_at y x (noted.Required n v) id r h = as_before [] x id r h
  marked_at y x (noted.Flushed n) id r h = as_before [] x id r h

  pub rows_step : {asked : Asked} {told : Told} → Outcome wire seqs past seq asked told → (x : EndId) (id : ℕ) (r : Endpoint)
      → changes wire past (written wire past) (endpoint_at wire past) seq told asked x id ≡ Some r → has (bounds past ++ bound_by told) (End x) ≡ true
  rows_step (joins t j p q) x id r h = as_before [] x id r h
  rows_step mints x id r h = as_before [] x id r h
  rows_step (binds {x = z} {side = side} {interface = interface} o) x id r h = elim
      (only_cases z 0 x id (Some (record { side = side; interface = interface; state = states.Bound seq; peer_closed = false }))
      (endpoint_at wire past x id) r h) [
        | inl s ↦ has-back (bounds past) (End z ∷ []) (End x) (or_left (same_end z x) false s.0)
        | inr s ↦ as_before (End z ∷ []) x id r s
      ]
  rows_step (associates {y = y} {side = side} {interface = interface} {p = p} main e g q) x id r h = elim
      (only_cases p.end p.id x id (Some (record { side = side; interface = interface; state = states.Bound seq; peer_closed = false }))
      (endpoint_at wire past x id) r h) [
        | inl s ↦ same_as [] p.end x s.0 (rw q (k.endpoints y 0 main e))
        | inr s ↦ as_before [] x id r s
      ]
  rows_step (attaches {p = p} {t = t} {n = n} o g l e) x id r h = changed (with_state (states.Bound t)) p.end p.id x id r h
  rows_step (calls r0 o ps mk e w b) x id r h = as_before [] x id r h
  rows_step (answers r0 o rs ps e w b) x id r h = as_before [] x id r h
  rows_step (writes o w) x id r h = as_before [] x id r h
  rows_step (gets {y = y} m hd r0 c f {g = g} e) x id r h = taken_at y x (enters wire past y (written wire past y) (endpoint_at wire past y) (Taken g)) id r
      (same_end y x) refl (k.endpoints y 0 f.front.main f.front.bound) h
  rows_step (drops {y = y} {id = n} {goes = goes} m f e d) x id r h = taken_at y x
      (enters wire past y (written wire past y) (endpoint_at wire past y) (Dropped n goes)) id r (same_end y x) refl (k.endpoints y 0 f.main f.bound) h
  rows_step (controls {y = y} {c = c} m f e d) x id r h = marked_at y x c id r h
  rows_step (spoils m f e) x id r h = as_before [] x id r h
  rows_step (closes o e) x id r h = as_before [] x id r h
  rows_step (closes_pending {p = p} o e) x id r h = elim
      (only_cases p.end p.id x id (if is_local past p then option_map with_peer_closed (endpoint_at wire past x id) else option_map (with_state states.Closed)
      (endpoint_at wire past x id)) (endpoint_at wire past x id) r h) [
        | inl s ↦ half (is_local past p) s.1
        | inr s ↦ as_before [] x id r s
      ]
    where
      half : (b : Bool) → (if b then option_map with_peer_closed (endpoint_at wire past x id) else option_map (with_state states.Closed)
          (endpoint_at wire past x id)) ≡ Some r → has (bounds past ++ []) (End x) ≡ true
      half true h = let o = from_map with_peer_closed (endpoint_at wire past x id) r h in as_before [] x id o.0 o.1
      half false h = let o = from_map (with_state states.Closed) (endpoint_at wire past x id) r h in as_before [] x id o.0 o.1
  rows_step (closes_responder e) x id r h = as_before [] x id r h
  rows_step (closes_end {y = y} {id = n} r0 i o e) x id r h = changed (with_state states.Closed) y n x id r h
  rows_step (closes_endpoint {y = y} {id = n} r0 i o e) x id r h = changed (with_state states.Closed) y n x id r h
  rows_step (notifies n_r n_o n_e n_w n_s n_f n_p) x id r h = as_before [] x id r h
  rows_step (pauses n_b n_a n_e n_f n_g n_s) x id r h = as_before [] x id r h
  rows_step (pipes n_z n_p n_q) x id r h = as_before [] x id r h
  rows_step (flows n_d n_o n_e n_f) x id r h = as_before [] x id r h
  rows_step skips x id r h = as_before [] x id r h
  rows_step refuses x id r h = as_before [] x id r h

  -- ## Pendings are of bound ends

  less_pendings : (p : PendingId) (taken ps : List PendingId) → has_pending (filter (λ q. not (has_pending taken q)) ps) p ≡ true → has_pending ps p ≡ true
  less_pendings p taken [] h = h
  less_pendings p taken (q ∷ ps) h = go (has_pending taken q) h (less_pendings p taken ps)
    where
      go : (b : Bool) → has_pending (if not b then q ∷ filter (λ q. not (has_pending taken q)) ps else filter (λ q. not (has_pending taken q)) ps) p ≡ true
          → (has_pending (filter (λ q. not (has_pending taken q)) ps) p ≡ true → has_pending ps p ≡ true) → has_pending (q ∷ ps) p ≡ true
      go true h rest = or_right (same_pending q p) (has_pending ps p) (rest h)
      go false h rest = elim (or_cases (same_pending q p) (has_pending (filter (λ q. not (has_pending taken q)) ps) p) h) [
        | inl s ↦ or_left (same_pending q p) (has_pending ps p) s
        | inr s ↦ or_right (same_pending q p) (has_pending ps p) (rest s)
      ]

  pendings_end : (y : EndId) (ids : List ℕ) (p : PendingId) → has_pending (pendings_at y ids) p ≡ true → y ≡ p.end
  pendings_end y [] p h = absurd cc
  pendings_end y (id ∷ ids) p h = elim (or_cases (same_pending (record { end = y; id = id }) p) (has_pending (pendings_at y ids) p) h) [
    | inl s ↦ same_end-true y p.end (and_left (same_end y p.end) (id == p.id) s)
    | inr s ↦ pendings_end y ids p s
  ]

  pendings_more : (more : List Thing) (gives hands : List PendingId) (p : PendingId) → (has_pending hands p ≡ true → has (bounds past) (End p.end) ≡ true)
      → has_pending (filter (λ q. not (has_pending gives q)) (pendings_out past) ++ hands) p ≡ true → has (bounds past ++ more) (End p.end) ≡ true
  pendings_more more gives hands p new h = elim (or_cases (has_pending (filter (λ q. not (has_pending gives q)) (pendings_out past)) p) (has_pending hands p)
      (rw list_any-append at h)) [
        | inl s ↦ has-front (bounds past) more (End p.end) (k.pendings p (less_pendings p gives (pendings_out past) s))
        | inr s ↦ has-front (bounds past) more (End p.end) (new s)
      ]

  pub pendings_step : {asked : Asked} {told : Told} → Outcome wire seqs past seq asked told → (p : PendingId)
      → has_pending (filter (λ q. not (has_pending (pendings_given told asked) q)) (pendings_out past) ++ pendings_handed told) p ≡ true
      → has (bounds past ++ bound_by told) (End p.end) ≡ true
  pendings_step (joins t j a b) p h = pendings_more [] [] [] p (λ s. absurd cc) h
  pendings_step mints p h = pendings_more [] [] [] p (λ s. absurd cc) h
  pendings_step (binds {x = z} o) p h = pendings_more (End z ∷ []) [] [] p (λ s. absurd cc) h
  pendings_step (associates {y = y} {p = q} main e g i) p h = pendings_more [] [] (q ∷ []) p (λ s. elim (or_cases (same_pending q p) false s) [
    | inl u ↦ rw (← same_end-true q.end p.end (and_left (same_end q.end p.end) (q.id == p.id) u), i) (k.endpoints y 0 main e)
    | inr u ↦ absurd cc
  ]) h
  pendings_step (attaches {p = q} o g l e) p h = pendings_more [] (q ∷ []) [] p (λ s. absurd cc) h
  pendings_step (calls {s = s} r0 o ps mk e w b) p h = pendings_more [] s.pendings [] p (λ s. absurd cc) h
  pendings_step (answers {s = s} r0 o rs ps e w b) p h = pendings_more [] s.pendings [] p (λ s. absurd cc) h
  pendings_step (writes o w) p h = pendings_more [] [] [] p (λ s. absurd cc) h
  pendings_step (gets {y = y} m hd r0 c f {g = g} e) p h = pendings_more [] [] (pendings_handed (Taken g)) p (λ s.
      let s' : has_pending (pendings_at y (picked (map (λ (n : Named). n.index) c.ids) 0 hd.ids)) p
      ≡ true = subst (λ t. has_pending (pendings_handed t) p ≡ true) e s in
      rw (← pendings_end y (picked (map (λ (n : Named). n.index) c.ids) 0 hd.ids) p s') (k.endpoints y 0 f.front.main f.front.bound)) h
  pendings_step (drops m f e d) p h = pendings_more [] [] [] p (λ s. absurd cc) h
  pendings_step (controls m f e d) p h = pendings_more [] [] [] p (λ s. absurd cc) h
  pendings_step (spoils m f e) p h = pendings_more [] [] [] p (λ s. absurd cc) h
  pendings_step (closes o e) p h = pendings_more [] [] [] p (λ s. absurd cc) h
  pendings_step (closes_pending {p = q} o e) p h = pendings_more [] (q ∷ []) [] p (λ s. absurd cc) h
  pendings_step (closes_responder e) p h = pendings_more [] [] [] p (λ s. absurd cc) h
  pendings_step (closes_end r0 i o e) p h = pendings_more [] [] [] p (λ s. absurd cc) h
  pendings_step (closes_endpoint r0 i o e) p h = pendings_more [] [] [] p (λ s. absurd cc) h
  pendings_step (notifies n_r n_o n_e n_w n_s n_f n_p) p h = pendings_more [] [] [] p (λ s. absurd cc) h
  pendings_step (pauses n_b n_a n_e n_f n_g n_s) p h = pendings_more [] [] [] p (λ s. absurd cc) h
  pendings_step (pipes n_z n_p n_q) p h = pendings_more [] [] [] p (λ s. absurd cc) h
  pendings_step (flows n_d n_o n_e n_f) p h = pendings_more [] [] [] p (λ s. absurd cc) h
  pendings_step skips p h = pendings_more [] [] [] p (λ s. absurd cc) h
  pendings_step refuses p h = pendings_more [] [] [] p (λ s. absurd cc) h

  -- ## Peers, and mail of made ends alone

  peer_same : (x : EndId) → has (made past ++ []) (End x) ≡ true → has (made past ++ []) (End (peer past x)) ≡ true
  peer_same x h = rw append-nil (k.peers x (rw append-nil at h))

  peer_now : (x a b : EndId) (at_a at_b : Bool) → same_end a x ≡ at_a → same_end b x ≡ at_b → has (made past ++ End a ∷ End b ∷ []) (End x) ≡ true
      → has (made past ++ End a ∷ End b ∷ []) (End (if at_a then b else (if at_b then a else peer past x))) ≡ true
  peer_now x a b true at_b e f h = has-back (made past) (End a ∷ End b ∷ []) (End b)
      (or_right (same_end a b) (same_end b b || false) (or_left (same_end b b) false (same_end-refl b)))
  peer_now x a b false true e f h = has-back (made past) (End a ∷ End b ∷ []) (End a) (or_left (same_end a a) (same_end b a || false) (same_end-refl a))
  peer_now x a b false false e f h = elim (has-cases (made past) (End a ∷ End b ∷ []) (End x) h) [
    | inl s ↦ has-front (made past) (End a ∷ End b ∷ []) (End (peer past x)) (k.peers x s)
    | inr s ↦ absurd (let none : false ≡ true = rw (e, f) at s in cc)
  ]

  pub peers_step : {asked : Asked} {told : Told} → Outcome wire seqs past seq asked told → (x : EndId) → has (made past ++ made_by told) (End x) ≡ true
      → has (made past ++ made_by told) (End (peer_by told x (peer past x))) ≡ true
  peers_step (joins {a = a} {b = b} t j p q) x h = peer_now x a b (same_end a x) (same_end b x) refl refl h
  peers_step mints x h = elim (has-cases (made past) (Token (record { seq = seq.0; serial = tokens past seq.0 }) ∷ []) (End x) h) [
    | inl s ↦ has-front (made past) (Token (record { seq = seq.0; serial = tokens past seq.0 }) ∷ []) (End (peer past x)) (k.peers x s)
    | inr s ↦ absurd cc
  ]
  peers_step (pipes {p = a} {q = b} z p q) x h = elim (has-cases (made past) (Token a ∷ Token b ∷ []) (End x) h) [
    | inl s ↦ has-front (made past) (Token a ∷ Token b ∷ []) (End (peer past x)) (k.peers x s)
    | inr s ↦ absurd cc
  ]
  peers_step (binds o) x h = peer_same x h
  peers_step (associates main e g q) x h = peer_same x h
  peers_step (attaches o g l e) x h = peer_same x h
  peers_step (calls r o ps mk e w b) x h = peer_same x h
  peers_step (answers r o rs ps e w b) x h = peer_same x h
  peers_step (writes o w) x h = peer_same x h
  peers_step (gets m hd r c f e) x h = peer_same x h
  peers_step (drops m f e d) x h = peer_same x h
  peers_step (controls m f e d) x h = peer_same x h
  peers_step (spoils m f e) x h = peer_same x h
  peers_step (closes o e) x h = peer_same x h
  peers_step (closes_pending o e) x h = peer_same x h
  peers_step (closes_responder e) x h = peer_same x h
  peers_step (closes_end r i o e) x h = peer_same x h
  peers_step (closes_endpoint r i o e) x h = peer_same x h
  peers_step (notifies n_r n_o n_e n_w n_s n_f n_p) x h = peer_same x h
  peers_step (pauses n_b n_a n_e n_f n_g n_s) x h = peer_same x h
  peers_step (flows n_d n_o n_e n_f) x h = peer_same x h
  peers_step skips x h = peer_same x h
  peers_step refuses x h = peer_same x h

  mail_same : (x : EndId) → has (made past ++ []) (End x) ≡ false → written wire past x ++ [] ≡ []
  mail_same x h = rw append-nil (k.mail x (rw append-nil at h))

  mail_more : (x q : EndId) (ps : List Message) (here : Bool) → same_end (peer past q) x ≡ here → has (made past) (End q) ≡ true
      → has (made past ++ []) (End x) ≡ false → written wire past x ++ (if here then ps else []) ≡ []
  mail_more x q ps true e known h = absurd (
      let there : has (made past) (End x) ≡ true = rw (← same_end-true (peer past q) x e) (k.peers q known) in
      let none : has (made past) (End x) ≡ false = rw append-nil at h in cc)
  mail_more x q ps false e known h = mail_same x h

  mail_emits : (x q : EndId) (control : ℕ → ControlType) (ids : List ℕ) → has (made past) (End q) ≡ true → has (made past ++ []) (End x) ≡ false
      → written wire past x ++ emits wire past q (endpoint_at wire past q) control ids x ≡ []
  mail_emits x q control ids known h = go (same_end (peer past q) x) refl
    where
      cs : List Message
      cs = map (λ id. record { bytes = wire.control (control id); handles = []; emitted = true })
          (filter (λ id. not (is_peer_closed (endpoint_at wire past q id))) ids)

      go : (b : Bool) → same_end (peer past q) x ≡ b → written wire past x ++ (if b && not (is_gone past x) then cs else []) ≡ []
      go true e = absurd (
          let there : has (made past) (End x) ≡ true = rw (← same_end-true (peer past q) x e) (k.peers q known) in
          let none : has (made past) (End x) ≡ false = rw append-nil at h in cc)
      go false e = mail_same x h

  mail_if : (x q : EndId) (ids : List ℕ) (b : Bool) → has (made past) (End q) ≡ true → has (made past ++ []) (End x) ≡ false
      → written wire past x ++ (if b then [] else emits wire past q (endpoint_at wire past q) says.Closed ids x) ≡ []
  mail_if x q ids true known h = mail_same x h
  mail_if x q ids false known h = mail_emits x q says.Closed ids known h

  mail_heard : (x q : EndId) (c : Noted) → has (made past) (End q) ≡ true → has (made past ++ []) (End x) ≡ false
      → written wire past x ++ emits_for wire past q (endpoint_at wire past q) c x ≡ []
  mail_heard x q (noted.Queried id (Some v)) known h = mail_emits x q (λ n. says.Version n v) (id ∷ []) known h
  mail_heard x q (noted.Queried id None) known h = mail_same x h
  mail_heard x q (noted.Closed id) known h = mail_same x h
  mail_heard x q (noted.Version id v) known h = mail_same x h
  mail_heard x q (noted.Required id v) known h = mail_same x h
  mail_heard x q (noted.Flushed n) known h = mail_same x h

  pub mail_step : {asked : Asked} {told : Told} → Outcome wire seqs past seq asked told → (x : EndId) → has (made past ++ made_by told) (End x) ≡ false
      → written wire past x ++ puts wire past (written wire past) (endpoint_at wire past) told asked x ≡ []
  mail_step (joins {a = a} {b = b} t j p q) x h = rw append-nil (k.mail x (has-not_front (made past) (End a ∷ End b ∷ []) (End x) h))
  mail_step mints x h = rw append-nil (k.mail x (has-not_front (made past) (Token (record { seq = seq.0; serial = tokens past seq.0 }) ∷ []) (End x) h))
  mail_step (binds o) x h = mail_same x h
  mail_step (associates main e g q) x h = mail_same x h
  mail_step (attaches o g l e) x h = mail_same x h
  mail_step (calls {y = y} {id = id} {s = s} {bytes = bytes} r o ps mk e w b) x h = mail_more x y
      (record { bytes = bytes; handles = s.handles; emitted = false } ∷ []) (same_end (peer past y) x) refl (row_made wire seqs past seq k y id r o.here) h
  mail_step (answers {q = q} {s = s} {bytes = bytes} r o rs ps e w b) x h = mail_more x q.end
      (record { bytes = bytes; handles = s.handles; emitted = false } ∷ []) (same_end (peer past q.end) x) refl
      (row_made wire seqs past seq k q.end q.id r o.here) h
  mail_step (writes {x = z} {bytes = bytes} {handles = handles} o w) x h = mail_more x z (record { bytes = bytes; handles = handles; emitted = false } ∷ [])
      (same_end (peer past z) x) refl (made_one wire seqs past seq k z o) h
  mail_step (gets {y = y} m hd r c f {g = g} e) x h = mail_emits x y says.Closed
      (closed_ids (enters wire past y (written wire past y) (endpoint_at wire past y) (Taken g)))
      (row_made wire seqs past seq k y 0 f.front.main f.front.bound) h
  mail_step (drops {y = y} {id = n} {goes = goes} m f e d) x h = mail_emits x y says.Closed
      (closed_ids (enters wire past y (written wire past y) (endpoint_at wire past y) (Dropped n goes))) (row_made wire seqs past seq k y 0 f.main f.bound) h
  mail_step (controls {y = y} {c = c} m f e d) x h = mail_heard x y c (row_made wire seqs past seq k y 0 f.main f.bound) h
  mail_step (notifies {y = y} {notice = notice} {told = told} r o e w s f p) x h = mail_more x y
      (record { bytes = wire.control (control_of notice told); handles = []; emitted = false } ∷ []) (same_end (peer past y) x) refl
      (row_made wire seqs past seq k y (from_id notice) r o.here) h
  mail_step (pipes {p = a} {q = b} z p q) x h = rw append-nil (k.mail x (has-not_front (made past) (Token a ∷ Token b ∷ []) (End x) h))
  mail_step (spoils m f e) x h = mail_same x h
  mail_step (closes o e) x h = mail_same x h
  mail_step (closes_pending {p = p} o e) x h = mail_if x p.end (p.id ∷ []) (is_gone past p.end || is_local past p)
      (bound_made wire past k (End p.end) (k.pendings p o)) h
  mail_step (closes_responder e) x h = mail_same x h
  mail_step (closes_end {y = y} {id = n} r i o e) x h = mail_if x y (n ∷ []) (n == 0) (row_made wire seqs past seq k y n r o.here) h
  mail_step (closes_endpoint {y = y} {id = n} r i o e) x h = mail_if x y (n ∷ []) (n == 0) (row_made wire seqs past seq k y n r o.here) h
  mail_step (pauses n_b n_a n_e n_f n_g n_s) x h = mail_same x h
  mail_step (flows n_d n_o n_e n_f) x h = mail_same x h
  mail_step skips x h = mail_same x h
  mail_step refuses x h = mail_same x h

  -- ## No more is consumed than was written

  counted_same : (x : EndId) (ps : List Message) → length (taken past x ++ []) ≤ length (written wire past x ++ ps)
  counted_same x ps = rw (append-nil (taken past x)) (omega (arith, k.counted x, length-append (written wire past x) ps))

  counted_read : (y : EndId) (m : Message) (f : Fronts wire past y m) (told : Told) (x : EndId) (ps : List Message)
      → length (taken past x ++ (if same_end y x then told ∷ [] else [])) ≤ length (written wire past x ++ ps)
  counted_read y m f told x ps = omega (arith, few_read wire seqs past seq k y m f told x, length-append (written wire past x) ps)

  pub counted_step : {asked : Asked} {told : Told} → Outcome wire seqs past seq asked told → (x : EndId)
      → length (taken past x ++ takes told asked x) ≤ length (written wire past x ++ puts wire past (written wire past) (endpoint_at wire past) told asked x)
  counted_step (joins t j p q) x = counted_same x []
  counted_step mints x = counted_same x []
  counted_step (binds o) x = counted_same x []
  counted_step (associates main e g q) x = counted_same x []
  counted_step (attaches o g l e) x = counted_same x []
  counted_step (calls {y = y} {id = id} {s = s} {request = request} {bytes = bytes} r o ps mk e w b) x = counted_same x
      (puts wire past (written wire past) (endpoint_at wire past) (Sent request bytes) (Call y id s) x)
  counted_step (answers {q = q} {s = s} {request = request} {bytes = bytes} r o rs ps e w b) x = counted_same x
      (puts wire past (written wire past) (endpoint_at wire past) (Sent request bytes) (Answer q s) x)
  counted_step (writes {x = z} {bytes = bytes} {handles = handles} o w) x = counted_same x
      (puts wire past (written wire past) (endpoint_at wire past) (Wrote z) (Raw (End z) bytes handles) x)
  counted_step (gets {y = y} m hd r c f {g = g} e) x = counted_read y m f.front (Taken g) x
      (puts wire past (written wire past) (endpoint_at wire past) (Taken g) (Take y) x)
  counted_step (drops {y = y} {id = n} {goes = goes} m f e d) x = counted_read y m f (Dropped n goes) x
      (puts wire past (written wire past) (endpoint_at wire past) (Dropped n goes) (Take y) x)
  counted_step (controls {y = y} {c = c} m f e d) x = counted_read y m f (Control c) x (emits_for wire past y (endpoint_at wire past y) c x)
  counted_step (notifies {y = y} {notice = notice} {told = told} r o e w s f p) x = counted_same x
      (puts wire past (written wire past) (endpoint_at wire past) (Informed told) (Notify y notice) x)
  counted_step (spoils m f e) x = counted_same x []
  counted_step (closes o e) x = counted_same x []
  counted_step (closes_pending {p = p} {goes = goes} o e) x = counted_same x
      (puts wire past (written wire past) (endpoint_at wire past) (Closed goes) (Close (closings.Pending p)) x)
  counted_step (closes_responder e) x = counted_same x []
  counted_step (closes_end {y = y} {id = n} {goes = goes} r i o e) x = counted_same x
      (puts wire past (written wire past) (endpoint_at wire past) (Closed goes) (Close (closings.Endpoint y n)) x)
  counted_step (closes_endpoint {y = y} {id = n} {goes = goes} r i o e) x = counted_same x
      (puts wire past (written wire past) (endpoint_at wire past) (Closed goes) (Close (closings.Endpoint y n)) x)
  counted_step (pauses n_b n_a n_e n_f n_g n_s) x = counted_same x []
  counted_step (pipes n_z n_p n_q) x = counted_same x []
  counted_step (flows n_d n_o n_e n_f) x = counted_same x []
  counted_step skips x = counted_same x []
  counted_step refuses x = counted_same x []
