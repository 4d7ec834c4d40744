-- A reply that shows that an endpoint is over tells the truth.
use Rattle.std.proofs.Common.{◌≡◌, ◌≤◌, ℕ, zero, suc, Bool, true, false, List, [], ◌∷◌, ◌++◌, length, refl, sym, ap, ◌∙◌, subst, ◌⊎◌, inl, inr}
use Rattle.std.specs.Prelude.{Option, Some, None, Result, Ok, Err, if◌then◌else◌, not, ◌&&◌, ◌||◌, ◌==◌, is_some, nat_lt}
use Rattle.std.specs.Option.{option_map}
use Rattle.std.proofs.lemmas.Bool.{eqb-true, true≢false}
use Rattle.mj_base.specs.declared.fault.Fault.{Fault}
use Rattle.mj_base.specs.declared.fault.FaultKind.TheVariants.{IllegalHandle}
use Rattle.mj_base.specs.declared.ids.EndId.{EndId}
use Rattle.mj_base.specs.declared.ids.SeqId.{SeqId}
use Rattle.mj_base.specs.declared.limits.TheConstants.{MAX_EVENTS}
use Rattle.handle_table.specs.declared.thing.Thing.{Thing}
use Rattle.handle_table.specs.declared.thing.Thing.TheVariants.{End}
use Rattle.handle_table.specs.Things.{same, same_end, has}
use Rattle.handle_table.proofs.ThingsLemmas.{same_end-true, same-refl, has-back, or_cases, or_left, or_right, and_left, and_right}
use Rattle.message_pipe.specs.declared.message.Message.{Message}
use Rattle.bind_model.specs.declared.asked.Asked.{Asked}
use Rattle.bind_model.specs.declared.asked.Asked.TheVariants.{Associate, Attach, Take, Close}
use Rattle.bind_model.specs.declared.asked.Closing.TheVariants as closings
use Rattle.bind_model.specs.declared.endpoint.Endpoint.{Endpoint}
use Rattle.bind_model.specs.declared.endpoint.State.{State}
use Rattle.bind_model.specs.declared.endpoint.State.TheVariants as states
use Rattle.bind_model.specs.declared.event.Event.{Event}
use Rattle.control_bytes.specs.declared.control.Control.{Control as ControlType}
use Rattle.control_bytes.specs.declared.control.Control.TheVariants as says
use Rattle.bind_model.specs.declared.told.Noted.TheVariants as noted
use Rattle.bind_model.specs.Notices.{waits, first_unmet}
use Rattle.bind_model.specs.declared.told.BadWhy.TheVariants as bads
use Rattle.bind_model.specs.declared.told.Told.{Told}
use Rattle.bind_model.specs.declared.told.Told.TheVariants.{Associated, Attached, Control, Closed, No}
use Rattle.bind_model.specs.declared.told.Why.{Why}
use Rattle.bind_model.specs.declared.told.Why.TheVariants as whys
use Rattle.bind_model.specs.Machine.{made, gone, is_gone, peer, endpoint_at, unread, is_local, is_closed, with_state, with_peer_closed, spread, carried, goes_with}
use Rattle.bind_model.specs.Replies.{legal, answer, first_of, unless, unbound, elsewhere, half_closed, has_pending, pendings_out, next_id, got_known, judged, at_state, at_endpoint, heard, pause_of, controlled, headed, took_front, took, closed_at, bad}
use Rattle.bind_model.specs.Wire.{Wire, Header, Content}
use Rattle.bind_model.proofs.Fresh.{kept}
use Rattle.bind_model.proofs.Kept.{Kept, bound_made}
use Rattle.bind_model.proofs.Outcomes.{Outcome, outcome, drops, controls, spoils, closes_pending, closes_end, closes_endpoint, refuses}
use Rattle.ending_laws.specs.Endings.{needs_open, shows_over}
use Rattle.ending_laws.proofs.Over.{IsAlone, IsOver, lost, shut, alone, over_on}
use Rattle.ending_laws.proofs.Standing.{is_shut}

-- ## What goes with an end

first_there : (carries : Thing → List Thing) (n : ℕ) (z : Thing) → has (spread carries n (z ∷ [])) z ≡ true
first_there carries zero z = or_left (same z z) false (same-refl z)
first_there carries (suc n) z = or_left (same z z) (has (spread carries n ([] ++ carries z)) z) (same-refl z)

-- ## A take that finds a message says nothing of what has gone

abbrev Speaks : Told → Type 0
Speaks (No whys.PeerClosed) = ⊥
Speaks (No whys.Disconnected) = ⊥
Speaks told = Unit {0}

-- it isn't told that the peer has gone and nothing is left
abbrev Unended : Told → Type 0
Unended (No whys.PeerClosed) = ⊥
Unended told = Unit {0}

-- it isn't told that something is disconnected
abbrev Connected : Told → Type 0
Connected (No whys.Disconnected) = ⊥
Connected told = Unit {0}

connected : (told : Told) → Speaks told → Connected told
connected (No whys.Disconnected) s = s
connected (No why) s = tt
connected told s = tt

module _ (wire : Wire) (past : List Event) (seq : SeqId) (y : EndId) (m : Message) where
  known_speaks : (hd : Header) (c : Content) (o : Option ℕ) → Speaks (got_known wire past y m hd c o)
  known_speaks hd c (Some id) = tt
  known_speaks hd c None = tt

  asked_speaks : (hd : Header) (c : Content) (b : Bool) (o : Option ℕ)
      → Speaks (if b then bad wire past y (bads.Unasked c.request) else got_known wire past y m hd c o)
  asked_speaks hd c true o = tt
  asked_speaks hd c false o = known_speaks hd c o

  judged_speaks : (hd : Header) (r : Endpoint) (o : Result Content Fault) → Speaks (judged wire past y m hd r o)
  judged_speaks hd r (Err fault) = tt
  judged_speaks hd r (Ok c) = asked_speaks hd c _ _

  seq_speaks : (hd : Header) (r : Endpoint) (t : SeqId) (b : Bool) (o : Result Content Fault)
      → Speaks (if b then judged wire past y m hd r o else No (whys.Elsewhere t))
  seq_speaks hd r t true o = judged_speaks hd r o
  seq_speaks hd r t false o = tt

  state_speaks : (hd : Header) (r : Endpoint) (state : State) → Speaks (at_state wire past seq y m hd r state)
  state_speaks hd r states.Closed = tt
  state_speaks hd r states.Pending = tt
  state_speaks hd r (states.Bound t) = seq_speaks hd r t _ _

  endpoint_speaks : (hd : Header) (o : Option Endpoint) → Speaks (at_endpoint wire past seq y m hd o)
  endpoint_speaks hd None = tt
  endpoint_speaks hd (Some r) = state_speaks hd r r.state

  version_speaks : (id v : ℕ) (b : Bool) → Speaks (if b then Control (noted.Version id v) else bad wire past y (bads.Unasked 0))
  version_speaks id v true = tt
  version_speaks id v false = tt

  require_speaks : (id v : ℕ) (b : Bool) → Speaks (if b then bad wire past y (bads.TooOld v) else Control (noted.Required id v))
  require_speaks id v true = tt
  require_speaks id v false = tt

  heard_speaks : (c : ControlType) → Speaks (heard wire past y c)
  heard_speaks (says.Closed id) = tt
  heard_speaks (says.Query id) = tt
  heard_speaks (says.Version id v) = version_speaks id v _
  heard_speaks (says.Require id v) = require_speaks id v _
  heard_speaks (says.Flush k) = tt

  empty_speaks : (c : ControlType) (b : Bool)
      → Speaks (if b then heard wire past y c else bad wire past y (bads.Message (record { kind = IllegalHandle; at = 0 })))
  empty_speaks c true = heard_speaks c
  empty_speaks c false = tt

  control_speaks : (o : Result ControlType Fault) → Speaks (controlled wire past y m o)
  control_speaks (Err fault) = tt
  control_speaks (Ok c) = empty_speaks c _

  id_speaks : (hd : Header) (b : Bool) → Speaks (if b then controlled wire past y m (wire.says m.bytes) else at_endpoint wire past seq y m hd
      (endpoint_at wire past y hd.id))
  id_speaks hd true = control_speaks _
  id_speaks hd false = endpoint_speaks hd _

  head_speaks : (o : Result Header Fault) → Speaks (headed wire past seq y m o)
  head_speaks (Err fault) = tt
  head_speaks (Ok hd) = id_speaks hd _

-- ## Refusals

-- a command is told Disconnected by its second test alone
first_gone : (a g : Bool) (rest : List (Option Why)) (done : Told) → Connected (first_of rest done)
    → No whys.Disconnected ≡ first_of (unless a whys.NoName ∷ unless (not g) whys.Disconnected ∷ rest) done → g ≡ true
first_gone true true rest done c h = refl
first_gone true false rest done c h = absurd (subst Connected (sym h) c)
first_gone false g rest done c h = absurd (subst Connected (sym h) tt)

module _ (wire : Wire) (seqs : ℕ) (past : List Event) (seq : SeqId) (k : Kept wire past) where
  -- a take that is told so found nothing, and the peer gone
  took_none : (y : EndId) (ms : List Message) → No whys.PeerClosed ≡ took_front wire past seq y ms → (ms ≡ []) × (is_gone past (peer past y) ≡ true)
  took_none y [] e = (refl, go (is_gone past (peer past y)) refl e)
    where
      go : (b : Bool) → is_gone past (peer past y) ≡ b → No whys.PeerClosed ≡ (if b then No whys.PeerClosed else No whys.Empty)
          → is_gone past (peer past y) ≡ true
      go true g e = g
      go false g e = absurd (subst Speaks (sym e) tt)
  took_none y (m ∷ ms) e = absurd (subst Speaks (sym e) (head_speaks wire past seq y m (wire.header m.bytes)))

  took_alone : (y : EndId) (id : ℕ) (r : Endpoint) → endpoint_at wire past y id ≡ Some r → No whys.PeerClosed ≡ took wire past seq y → IsAlone wire past y
  took_alone y id r there e =
      let found = took_none y (unread wire past y) (go (is_some (endpoint_at wire past y 0)) (not (is_gone past y)) (first_unmet past (waits past y)) e) in
      record { known = bound_made wire past k (End y) (k.endpoints y id r there); peer_gone = found.1; none = found.0 }
    where
      go : (a b : Bool) (w : Option EndId) → No whys.PeerClosed ≡ first_of (unless a whys.NoName ∷ unless b whys.Disconnected ∷ pause_of w ∷ [])
          (took_front wire past seq y (unread wire past y))
          → No whys.PeerClosed ≡ took_front wire past seq y (unread wire past y)
      go true true None e = e
      go true true (Some z) e = absurd (subst Unended (sym e) tt)
      go true false w e = absurd (subst Unended (sym e) tt)
      go false b w e = absurd (subst Unended (sym e) tt)

  paused_connected : (w : Option EndId) (done : Told) → Connected done → Connected (first_of (pause_of w ∷ []) done)
  paused_connected None done h = h
  paused_connected (Some z) done h = tt

  front_connected : (y : EndId) (ms : List Message) → Connected (took_front wire past seq y ms)
  front_connected y [] = go (is_gone past (peer past y))
    where
      go : (b : Bool) → Connected (if b then No whys.PeerClosed else No whys.Empty)
      go true = tt
      go false = tt
  front_connected y (m ∷ ms) = connected (headed wire past seq y m (wire.header m.bytes)) (head_speaks wire past seq y m (wire.header m.bytes))

  local_connected : (b : Bool) (n m : ℕ) → Connected (first_of (unless b (whys.WrongPipe n) ∷ []) (Attached m))
  local_connected true n m = tt
  local_connected false n m = tt

  open_connected : (n : ℕ) (r : Endpoint) (goes : List Thing) → Connected (first_of (unbound n r ∷ elsewhere seq r ∷ []) (Closed goes))
  open_connected n r goes = by r.state
    where
      here : (t : SeqId) (b : Bool) → Connected (first_of (unless b (whys.Elsewhere t) ∷ []) (Closed goes))
      here t true = tt
      here t false = tt

      by : (state : State) → Connected (first_of (unbound n (with_state state r) ∷ elsewhere seq (with_state state r) ∷ []) (Closed goes))
      by states.Pending = tt
      by states.Closed = tt
      by (states.Bound t) = here t (t.0 == seq.0)

  -- an end or an endpoint that is closed
  either_over : (x : EndId) (id : ℕ) (r : Endpoint) → endpoint_at wire past x id ≡ Some r → (is_gone past x || is_closed r) ≡ true → IsOver wire past x id
  either_over x id r there e = elim (or_cases (is_gone past x) (is_closed r) e) [
    | inl g ↦ lost g
    | inr c ↦ shut r there (or_left (is_closed r) r.peer_closed c)
  ]

  gone_over : (y x : EndId) (id : ℕ) → same_end y x ≡ true → is_gone past y ≡ true → IsOver wire past x id
  gone_over y x id e g = lost (subst (λ z. is_gone past z ≡ true) (same_end-true y x e) g)

  attach_over : (y x : EndId) (n id : ℕ) (r : Endpoint) → endpoint_at wire past x id ≡ Some r → (same_end y x && (n == id)) ≡ true
      → (is_gone past y || half_closed (endpoint_at wire past y n)) ≡ true → IsOver wire past x id
  attach_over y x n id r there e t =
      let end : y ≡ x = same_end-true y x (and_left (same_end y x) (n == id) e) in
      let number : n ≡ id = eqb-true n id (and_right (same_end y x) (n == id) e) in
      let here : (is_gone past x || half_closed (endpoint_at wire past x id)) ≡ true =
      subst (λ z. (is_gone past z || half_closed (endpoint_at wire past z id)) ≡ true) end
      (subst (λ k. (is_gone past y || half_closed (endpoint_at wire past y k)) ≡ true) number t) in
      either_over x id r there (ap (λ o. is_gone past x || half_closed o) (sym there) ∙ here)

  close_over : (y x : EndId) (n id : ℕ) (r : Endpoint) → endpoint_at wire past x id ≡ Some r → (same_end y x && (n == id)) ≡ true
      → No whys.Disconnected ≡ closed_at wire past seq y n (endpoint_at wire past y n) → IsOver wire past x id
  close_over y x n id r there e h =
      let end : y ≡ x = same_end-true y x (and_left (same_end y x) (n == id) e) in
      let number : n ≡ id = eqb-true n id (and_right (same_end y x) (n == id) e) in
      let here : No whys.Disconnected ≡ closed_at wire past seq x id (endpoint_at wire past x id) =
      subst (λ z. No whys.Disconnected ≡ closed_at wire past seq z id (endpoint_at wire past z id)) end
      (subst (λ k. No whys.Disconnected ≡ closed_at wire past seq y k (endpoint_at wire past y k)) number h) in
      let known : No whys.Disconnected ≡ closed_at wire past seq x id (Some r) =
      subst (λ o. No whys.Disconnected ≡ closed_at wire past seq x id o) there here in
      either_over x id r there
      (first_gone true (is_gone past x || is_closed r) (unbound id r ∷ elsewhere seq r ∷ []) (Closed (if id == 0 then goes_with wire past (End x ∷ []) else []))
      (open_connected id r (if id == 0 then goes_with wire past (End x ∷ []) else [])) known)

  closed_over : (asked : Asked) → No whys.Disconnected ≡ answer wire seqs past seq asked → (x : EndId) (id : ℕ) (r : Endpoint)
      → endpoint_at wire past x id ≡ Some r → needs_open asked x id ≡ true → IsOver wire past x id
  closed_over (Take y) h x id r there e = gone_over y x id e
      (first_gone (is_some (endpoint_at wire past y 0)) (is_gone past y) (pause_of (first_unmet past (waits past y)) ∷ [])
      (took_front wire past seq y (unread wire past y))
      (paused_connected (first_unmet past (waits past y)) (took_front wire past seq y (unread wire past y)) (front_connected y (unread wire past y))) h)
  closed_over (Associate y side interface) h x id r there e = gone_over y x id e
      (first_gone (is_some (endpoint_at wire past y 0) && nat_lt interface wire.interfaces) (is_gone past y) []
      (Associated (record { end = y; id = next_id wire past y })) tt h)
  closed_over (Attach p t) h x id r there e = attach_over p.end x p.id id r there e
      (first_gone (has_pending (pendings_out past) p && nat_lt t.0 seqs) (is_gone past p.end || half_closed (endpoint_at wire past p.end p.id))
      (unless (not (is_local past p)) (whys.WrongPipe p.id) ∷ []) (Attached p.id) (local_connected (not (is_local past p)) p.id p.id) h)
  closed_over (Close (closings.Endpoint y n)) h x id r there e = close_over y x n id r there e h
  closed_over asked h x id r there e = absurd (true≢false (sym e))

  refused_over : (why : Why) (asked : Asked) → No why ≡ answer wire seqs past seq asked → (x : EndId) (id : ℕ) (r : Endpoint)
      → endpoint_at wire past x id ≡ Some r → shows_over (No why) asked x id ≡ true → IsOver wire past x id
  refused_over whys.PeerClosed (Take y) h x id r there e =
      let is : y ≡ x = same_end-true y x e in
      alone (subst (IsAlone wire past) is (took_alone y id r (subst (λ z. endpoint_at wire past z id ≡ Some r) (sym is) there) h))
  refused_over whys.Disconnected asked h x id r there e = closed_over asked h x id r there e
  refused_over why asked h x id r there e = absurd (true≢false (sym e))

  -- ## Each reply that shows it

  pub at_end : (y x : EndId) (goes : List Thing) → same_end y x ≡ true → goes ≡ goes_with wire past (End y ∷ []) → has (gone past ++ goes) (End x) ≡ true
  at_end y x goes e is =
      has-back (gone past) goes (End x) (subst (λ z. has goes (End z) ≡ true) (same_end-true y x e)
      (subst (λ things. has things (End y) ≡ true) (sym is) (first_there (carried wire past) (length (made past)) (End y))))

  abbrev Then : Asked → Told → List Event
  Then asked told = record { seq = seq; asked = asked; told = told } ∷ past

  changed_shut : (f : Endpoint → Endpoint) (b : Bool) (o : Option Endpoint) (r : Endpoint) → b ≡ true → o ≡ Some r
      → (if b then option_map f o else o) ≡ Some (f r)
  changed_shut f b o r at there = ap (λ c. if c then option_map f o else o) at ∙ ap (option_map f) there

  -- the half of a pending that is closed
  half_shut : (local at : Bool) (o : Option Endpoint) (r : Endpoint) → at ≡ true → o ≡ Some r
      → (q : Endpoint)
      × ((if at then (if local then option_map with_peer_closed o else option_map (with_state states.Closed) o) else o) ≡ Some q) × (is_shut q ≡ true)
  half_shut true at o r e there = (with_peer_closed r, changed_shut with_peer_closed at o r e there, or_right (is_closed r) true refl)
  half_shut false at o r e there = (with_state states.Closed r, changed_shut (with_state states.Closed) at o r e there, refl)

  shown_over : {asked : Asked} {told : Told} → Outcome wire seqs past seq asked told → told ≡ answer wire seqs past seq asked
      → (x : EndId) (id : ℕ) (r : Endpoint)
      → endpoint_at wire past x id ≡ Some r → shows_over told asked x id ≡ true → IsOver wire past x id ⊎ IsOver wire (Then asked told) x id
  shown_over (controls {y = y} {c = noted.Closed n} m f e d) h x id r there s =
      let now = changed_shut with_peer_closed (same_end y x && (n == id)) (endpoint_at wire past x id) r s there in
      inr (shut (with_peer_closed r) now (or_right (is_closed r) true refl))
  shown_over (drops {y = y} {id = n} m f e d) h x id r there s =
      let end : y ≡ x = same_end-true y x (and_left (same_end y x) (n == id) s) in
      let number : n ≡ id = eqb-true n id (and_right (same_end y x) (n == id) s) in
      let here : endpoint_at wire past y d.h.id ≡ Some r = subst (λ z. endpoint_at wire past z d.h.id ≡ Some r) (sym end)
      (subst (λ k. endpoint_at wire past x k ≡ Some r) (sym number ∙ d.is) there) in
      inl (shut r there (or_left (is_closed r) r.peer_closed (d.closed r here)))
  shown_over (spoils {y = y} {goes = goes} m f e) h x id r there s = inr (lost (at_end y x goes s e))
  shown_over (closes_pending {p = p} o e) h x id r there s =
      let half = half_shut (is_local past p) (same_end p.end x && (p.id == id)) (endpoint_at wire past x id) r s there in
      inr (shut half.0 half.1 half.2)
  shown_over (closes_end {y = y} {id = n} {goes = goes} q i o e) h x id r there s =
      inr (lost (at_end y x goes (and_left (same_end y x) ((n == 0) || (n == id)) s) e))
  shown_over (closes_endpoint {y = y} {id = n} q i o e) h x id r there s =
      let at : (same_end y x && (n == id)) ≡ true = rw i at s in
      let now = changed_shut (with_state states.Closed) (same_end y x && (n == id)) (endpoint_at wire past x id) r at there in
      inr (shut (with_state states.Closed r) now refl)
  shown_over (refuses {asked = asked} {why = why}) h x id r there s = inl (refused_over why asked h x id r there s)
  shown_over o h x id r there s = absurd (true≢false (sym s))

-- behind a reply that shows it, an endpoint that was there is over
pub shown : (wire : Wire) (seqs : ℕ) (event : Event) (past : List Event) → legal wire seqs (event ∷ past) → length (event ∷ past) ≤ MAX_EVENTS
    → (x : EndId) (id : ℕ) (r : Endpoint) → endpoint_at wire past x id ≡ Some r → shows_over event.told event.asked x id ≡ true
    → IsOver wire (event ∷ past) x id
shown wire seqs event past h few x id r there s = settle
    (shown_over wire seqs past event.seq (kept wire seqs past h.2) (outcome wire seqs past event.seq event.asked event.told h.1) h.1 x id r there s)
  where
    settle : IsOver wire past x id ⊎ IsOver wire (event ∷ past) x id → IsOver wire (event ∷ past) x id
    settle (inl over) = over_on wire seqs event past h few x id over
    settle (inr over) = over
