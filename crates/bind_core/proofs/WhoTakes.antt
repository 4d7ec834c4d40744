-- Who takes at an end by what the state keeps is who takes there by the events.
use Rattle.control_bytes.specs.declared.control.Control.{Control}
use Rattle.control_bytes.specs.declared.control.Control.TheVariants as says
use Rattle.bind_model.specs.Replies.{heard, is_older, version_of}
use Rattle.bind_model.specs.Notices.{query_pends}
use Rattle.std.proofs.Common.{◌≡◌, ℕ, Bool, true, false, List, [], ◌∷◌, length, refl, sym, ap, ◌∙◌}
use Rattle.std.specs.Prelude.{◌==◌, ◌&&◌, ◌||◌, not, if◌then◌else◌, Option, Some, None, Result, Ok, Err, is_some, option_and_then}
use Rattle.std.proofs.lemmas.Bool.{eq-eqb}
use Rattle.mj_base.specs.declared.fault.Fault.{Fault}
use Rattle.mj_base.specs.declared.header.Header.{Header as Read}
use Rattle.mj_base.specs.declared.ids.EndId.{EndId}
use Rattle.mj_base.specs.declared.ids.SeqId.{SeqId}
use Rattle.mj_base.specs.Bytes.{number32}
use Rattle.mj_schema.specs.declared.schema.Schema.{Schema}
use Rattle.message_header.specs.Said.{header_said}
use Rattle.message_header.proofs.Fine.{fine_passes}
use Rattle.message_pipe.specs.Ends.{end_of, is_closed, unread_at}
use Rattle.message_pipe.specs.Mail.{front_of}
use Rattle.message_pipe.specs.declared.message.Message.{Message}
use Rattle.wire_model.specs.HeaderMarks.{CONTROL_ID, header_marks}
use Rattle.wire_model.specs.Stands.{IsFine}
use Rattle.bind_model.specs.declared.endpoint.Endpoint.{Endpoint}
use Rattle.bind_model.specs.declared.endpoint.State.{State as EndpointState}
use Rattle.bind_model.specs.declared.endpoint.State.TheVariants as states
use Rattle.bind_model.specs.declared.event.Event.{Event}
use Rattle.bind_model.specs.Notices.{first_unmet, waits}
use Rattle.bind_model.specs.declared.told.Told.{Told}
use Rattle.bind_model.specs.declared.told.Told.TheVariants.{No}
use Rattle.bind_model.specs.declared.told.Why.TheVariants.{NoName, Disconnected, Empty, PeerClosed, Paused}
use Rattle.bind_model.specs.Machine.{endpoint_at, first_strange, is_gone, peer, unread}
use Rattle.bind_model.specs.Ready.{is_ready, is_settled, is_takeable, meant, on_of, or_else, settles, settles_unpaused, taker}
use Rattle.bind_model.specs.Replies.{at_endpoint, at_state, bad, controlled, first_of, got_known, headed, is_asked, is_none, is_response, judged, took_open}
use Rattle.bind_model.specs.Replies.{took_front, unless}
use Rattle.bind_model.specs.Wire.{Content, Header, Wire}
use Rattle.bind_model.specs.WireOf.{header_in, wire_of}
use Rattle.bind_model.specs.declared.told.BadWhy.TheVariants as bads
use Rattle.bind_model.proofs.CoreFacts.{ready_takeable, takeable_ready}
use Rattle.bind_model.proofs.Fresh.{kept}
use Rattle.core_state.specs.Routers.{found_at}
use Rattle.core_state.specs.Agreement.{Holds, past_of, schema_of, wire_in}
use Rattle.bind_core.specs.Takers.{id_in, id_meant, ready_taker, taker_at, taker_for, taker_front, taker_in, taker_meant, taker_of, taker_open}
use Rattle.bind_core.specs.Takers.{unless_paused}
use Rattle.bind_core.specs.steps.UnreadTakers.{taker_opened, taker_unread}
use Rattle.core_state.specs.declared.state.State.{State}
use Rattle.core_state.proofs.Facts.{closed_is, unread_is}
use Rattle.core_state.proofs.Steady.{found_is}

-- a header that reads, and is no control's
pub id_read : (bytes : List ℕ) (header : Read) → IsFine (header_marks bytes) → header ≡ header_said bytes → (header.interface_id == CONTROL_ID) ≡ false
    → Some header.interface_id ≡ id_meant bytes
id_read bytes header fine e h =
    let n : header.interface_id ≡ number32 bytes 8 = ap (λ (r : Read). r.interface_id) e in
    rw (fine_passes (header_marks bytes) fine, ← n, h) refl

pub meant_is : (schema : Schema) (m : Message) → id_meant m.bytes ≡ meant (wire_of schema) m
unfolding wire_of
meant_is schema m = go (header_in m.bytes)
  where
    go : (r : Result Header Fault) → id_in r ≡ (elim r [ Ok h ↦ (if h.id == CONTROL_ID then None else Some h.id) | Err fault ↦ None ])
    go (Ok h) = refl
    go (Err fault) = refl

-- ## Where all that decides is the same, so is who takes

module _ (f g : Message → Option ℕ) (a b : ℕ → Option Endpoint) (same : (m : Message) → f m ≡ g m) (alike : (id : ℕ) → a id ≡ b id) where
  same_meant : (main : Option SeqId) (o : Option ℕ) → taker_meant f a main o ≡ taker_meant g b main o
  same_meant main None = refl
  same_meant main (Some id) = ap (λ (o : Option Endpoint). taker_for main o) (alike id)

  same_front : (main : Option SeqId) (o : Option Message) → taker_front f a main o ≡ taker_front g b main o
  same_front main None = refl
  same_front main (Some m) = ap (λ (o : Option ℕ). taker_meant f a main o) (same m) ∙ same_meant main (g m)

  same_open : (c : Bool) (front : Option Message) (o : Option Endpoint) → taker_open f a c front o ≡ taker_open g b c front o
  same_open c front None = refl
  same_open true front (Some main) = refl
  same_open false front (Some main) = same_front (on_of (Some main)) front

  pub same_taker : (c d : Bool) (m n : Option Message) → c ≡ d → m ≡ n → taker_at f a c m ≡ taker_at g b d n
  same_taker c d m n e h =
      ap (λ (o : Option Endpoint). taker_open f a c m o) (alike 0)
      ∙ (same_open c m (b 0) ∙ (ap (λ (x : Bool). taker_open g b x m (b 0)) e ∙ ap (λ (x : Option Message). taker_open g b d x (b 0)) h))

-- nobody takes at a closed end
pub taker_closed : (f : Message → Option ℕ) (a : ℕ → Option Endpoint) (front : Option Message) → taker_at f a true front ≡ None
taker_closed f a front = go (a 0)
  where
    go : (o : Option Endpoint) → taker_open f a true front o ≡ None
    go None = refl
    go (Some main) = refl

-- nor where nothing is unread
pub nothing_takes : (s : State) (x : EndId) → front_of (unread_at s.pipes.ends x) ≡ None → None ≡ taker_of s x
nothing_takes s x h =
    sym (ap (taker_at (λ (m : Message). id_meant m.bytes) (found_at s.endpoints x) (is_closed (end_of s.pipes.ends x))) h
    ∙ go (is_closed (end_of s.pipes.ends x)) (found_at s.endpoints x 0))
  where
    go : (c : Bool) (o : Option Endpoint) → taker_open (λ (m : Message). id_meant m.bytes) (found_at s.endpoints x) c None o ≡ None
    go c None = refl
    go true (Some main) = refl
    go false (Some main) = refl

-- where the oldest message is known
pub unread_takes : (s : State) (x : EndId) (m : Message) → front_of (unread_at s.pipes.ends x) ≡ Some m → taker_unread s x m.bytes ≡ taker_of s x
unread_takes s x m h =
    go (found_at s.endpoints x 0)
    ∙ ap (taker_at (λ (n : Message). id_meant n.bytes) (found_at s.endpoints x) (is_closed (end_of s.pipes.ends x))) (sym h)
  where
    go : (o : Option Endpoint)
        → taker_opened (λ (n : Message). id_meant n.bytes) (found_at s.endpoints x) (is_closed (end_of s.pipes.ends x)) (id_meant m.bytes) o
        ≡ taker_open (λ (n : Message). id_meant n.bytes) (found_at s.endpoints x) (is_closed (end_of s.pipes.ends x)) (Some m) o
    go None = refl
    go (Some main) = refl

-- ## By the events

abbrev taken_if : Bool → Option SeqId → Option SeqId
taken_if b o = if b then o else None

-- whether who takes is told that something was consumed, or that it is bad
abbrev settles_told : (SeqId → Told) → Option SeqId → Bool
settles_told f None = false
settles_told f (Some t) = is_settled (f t)

settled_if : (b : Bool) (p q : Told) → is_settled p ≡ true → is_settled q ≡ true → is_settled (if b then p else q) ≡ true
settled_if true p q e f = e
settled_if false p q e f = f

all_settled : (f : SeqId → Told) (main : Option SeqId) → ((t : SeqId) → is_settled (f t) ≡ true) → main ≡ taken_if (settles_told f main) main
all_settled f None e = refl
all_settled f (Some t) e = rw (e t) refl

none_settled : (f : SeqId → Told) (main : Option SeqId) → ((t : SeqId) → is_settled (f t) ≡ false) → None ≡ taken_if (settles_told f main) main
none_settled f None e = refl
none_settled f (Some t) e = rw (e t) refl

module _ (wire : Wire) (past : List Event) (y : EndId) where
  heard_settled : (c : Control) → is_settled (heard wire past y c) ≡ true
  heard_settled (says.Closed id) = refl
  heard_settled (says.Query id) = refl
  heard_settled (says.Version id v) = settled_if (query_pends past y id (endpoint_at wire past y id)) _ _ refl refl
  heard_settled (says.Require id v) = settled_if (is_older (version_of wire (endpoint_at wire past y id)) v) _ _ refl refl
  heard_settled (says.Flush k) = refl

  control_settled : (m : Message) (c : Result Control Fault) → is_settled (controlled wire past y m c) ≡ true
  control_settled m (Err fault) = refl
  control_settled m (Ok c) = settled_if (is_none m.handles) _ _ (heard_settled c) refl

  known_settled : (m : Message) (h : Header) (c : Content) (o : Option ℕ) → is_settled (got_known wire past y m h c o) ≡ true
  known_settled m h c None = refl
  known_settled m h c (Some id) = refl

  judged_settled : (m : Message) (h : Header) (r : Endpoint) (c : Result Content Fault) → is_settled (judged wire past y m h r c) ≡ true
  judged_settled m h r (Err fault) = refl
  judged_settled m h r (Ok c) =
      settled_if (is_response c.target.side && (r.peer_closed || not (is_asked past y h.id c.request c.target.method)))
      (bad wire past y (bads.Unasked c.request)) (got_known wire past y m h c (first_strange (endpoint_at wire past y) [] h.ids))
      refl (known_settled m h c (first_strange (endpoint_at wire past y) [] h.ids))

  abbrev on_state : EndpointState → Option SeqId
  on_state s = elim s [ states.Bound t ↦ Some t | states.Pending ↦ None | states.Closed ↦ None ]

  by_state : (m : Message) (h : Header) (r : Endpoint) (main : Option SeqId) (s : EndpointState)
      → taker_in main s ≡ taken_if (settles_told (λ t. at_state wire past t y m h r s) (or_else (on_state s) main)) (or_else (on_state s) main)
  by_state m h r main states.Closed = all_settled (λ t. at_state wire past t y m h r states.Closed) main (λ t. refl)
  by_state m h r main states.Pending = none_settled (λ t. at_state wire past t y m h r states.Pending) main (λ t. refl)
  by_state m h r main (states.Bound t) =
      rw (eq-eqb t.0 t.0 refl, judged_settled m h r (wire.stands r.side r.interface m.bytes (length m.handles))) refl

  by_endpoint : (m : Message) (h : Header) (main : Option SeqId) (o : Option Endpoint)
      → taker_for main o ≡ taken_if (settles_told (λ t. at_endpoint wire past t y m h o) (or_else (on_of o) main)) (or_else (on_of o) main)
  by_endpoint m h main None = all_settled (λ t. at_endpoint wire past t y m h None) main (λ t. refl)
  by_endpoint m h main (Some r) = by_state m h r main r.state

  -- the endpoint of an id is bound there
  abbrev on_meant : Option ℕ → Option SeqId
  on_meant o = option_and_then (λ id. on_of (endpoint_at wire past y id)) o

  abbrev told_if : Message → Header → Bool → SeqId → Told
  told_if m h b t =
      if b then controlled wire past y m (wire.says m.bytes) else at_endpoint wire past t y m h (endpoint_at wire past y h.id)

  by_control : (m : Message) (h : Header) (main : Option SeqId) (b : Bool)
      → taker_meant (λ n. meant wire n) (endpoint_at wire past y) main (if b then None else Some h.id)
      ≡ taken_if (settles_told (told_if m h b) (or_else (on_meant (if b then None else Some h.id)) main))
      (or_else (on_meant (if b then None else Some h.id)) main)
  by_control m h main true = all_settled (told_if m h true) main (λ t. control_settled m (wire.says m.bytes))
  by_control m h main false = by_endpoint m h main (endpoint_at wire past y h.id)

  -- the endpoint that a header says, as the definition of who takes reads it
  abbrev id_of : Result Header Fault → Option ℕ
  id_of r = elim r [ Ok h ↦ (if h.id == CONTROL_ID then None else Some h.id) | Err fault ↦ None ]

  by_header : (m : Message) (main : Option SeqId) (r : Result Header Fault)
      → taker_meant (λ n. meant wire n) (endpoint_at wire past y) main (id_of r)
      ≡ taken_if (settles_told (λ t. headed wire past t y m r) (or_else (on_meant (id_of r)) main)) (or_else (on_meant (id_of r)) main)
  by_header m main (Err fault) = all_settled (λ t. headed wire past t y m (Err fault)) main (λ t. refl)
  by_header m main (Ok h) = by_control m h main (h.id == CONTROL_ID)

  -- who would take where this lies unread
  abbrev taker_with : Option SeqId → List Message → Option SeqId
  taker_with main ms = or_else (on_meant (option_and_then (λ m. meant wire m) (front_of ms))) main

  by_front : (main : Option SeqId) (ms : List Message)
      → taker_front (λ n. meant wire n) (endpoint_at wire past y) main (front_of ms)
      ≡ taken_if (settles_told (λ t. took_front wire past t y ms) (taker_with main ms)) (taker_with main ms)
  by_front main [] = none_settled (λ t. took_front wire past t y []) main (λ t. go (is_gone past (peer past y)))
    where
      go : (b : Bool) → is_settled (if b then No PeerClosed else No Empty) ≡ false
      go true = refl
      go false = refl
  by_front main (m ∷ ms) = by_header m main (wire.header m.bytes)

  -- a take there, where endpoint 0 is this and the end is closed or not
  abbrev told_at : Option Endpoint → Bool → SeqId → Told
  told_at o g t = first_of (unless (is_some o) NoName ∷ unless (not g) Disconnected ∷ []) (took_front wire past t y (unread wire past y))

  by_open : (g : Bool) (o : Option Endpoint)
      → taker_open (λ n. meant wire n) (endpoint_at wire past y) g (front_of (unread wire past y)) o
      ≡ taken_if (settles_told (told_at o g) (taker_with (on_of o) (unread wire past y))) (taker_with (on_of o) (unread wire past y))
  by_open g None = none_settled (told_at None g) (taker_with None (unread wire past y)) (λ t. refl)
  by_open true (Some r) = none_settled (told_at (Some r) true) (taker_with (on_of (Some r)) (unread wire past y)) (λ t. refl)
  by_open false (Some r) = by_front (on_of (Some r)) (unread wire past y)

  settles_is : (o : Option SeqId) → settles_told (told_at (endpoint_at wire past y 0) (is_gone past y)) o ≡ settles_unpaused wire past y o
  settles_is None = refl
  settles_is (Some t) = refl

  -- who takes at the end, where somebody would, whatever it waits for
  pub taker_is : taker_at (λ n. meant wire n) (endpoint_at wire past y) (is_gone past y) (front_of (unread wire past y))
      ≡ (if is_takeable wire past y then taker wire past y else None)
  taker_is = by_open (is_gone past y) (endpoint_at wire past y 0) ∙ ap (λ (b : Bool). taken_if b (taker wire past y)) (settles_is (taker wire past y))

  pub some_taker : is_some (taker_at (λ n. meant wire n) (endpoint_at wire past y) (is_gone past y) (front_of (unread wire past y)))
      ≡ is_takeable wire past y
  some_taker = ap (λ (o : Option SeqId). is_some o) taker_is ∙ go (taker wire past y)
    where
      when : (b : Bool) (t : SeqId) → is_some (taken_if b (Some t)) ≡ b
      when true t = refl
      when false t = refl

      go : (o : Option SeqId) → is_some (taken_if (settles_unpaused wire past y o) o) ≡ settles_unpaused wire past y o
      go None = refl
      go (Some t) = when (is_settled (took_open wire past t y)) t

  -- nothing is ready at an end that waits
  paused_unready : (w : EndId) → first_unmet past (waits past y) ≡ Some w → is_ready wire past y ≡ false
  paused_unready w e = go (taker wire past y)
    where
      refused : (a b : Bool) (done : Told)
          → is_settled (first_of (unless a NoName ∷ unless b Disconnected ∷ Some (Paused w) ∷ []) done) ≡ false
      refused true true done = refl
      refused true false done = refl
      refused false b done = refl

      go : (o : Option SeqId) → settles wire past y o ≡ false
      go None = refl
      go (Some t) =
          rw e (refused (is_some (endpoint_at wire past y 0)) (not (is_gone past y)) (took_front wire past t y (unread wire past y)))

  -- so what is ready waits for none
  pub ready_free : is_ready wire past y ≡ true → first_unmet past (waits past y) ≡ None
  ready_free h = go (first_unmet past (waits past y)) refl
    where
      go : (o : Option EndId) → first_unmet past (waits past y) ≡ o → o ≡ None
      go None e = refl
      go (Some w) e = absurd (let n : is_ready wire past y ≡ false = paused_unready w e in cc)

  -- at one that doesn't a take is ready where somebody would take
  free_ready : first_unmet past (waits past y) ≡ None → is_takeable wire past y ≡ is_ready wire past y
  free_ready e = go (is_takeable wire past y) (is_ready wire past y) (takeable_ready wire past y e) (ready_takeable wire past y)
    where
      go : (a b : Bool) → (a ≡ true → b ≡ true) → (b ≡ true → a ≡ true) → a ≡ b
      go true b f g = sym (f refl)
      go false true f g = g refl
      go false false f g = refl

  -- who takes at the end, where a take there is ready
  pub ready_is : unless_paused (first_unmet past (waits past y)) (if is_takeable wire past y then taker wire past y else None)
      ≡ (if is_ready wire past y then taker wire past y else None)
  ready_is = go (first_unmet past (waits past y)) refl
    where
      go : (o : Option EndId) → first_unmet past (waits past y) ≡ o
          → unless_paused o (if is_takeable wire past y then taker wire past y else None) ≡ (if is_ready wire past y then taker wire past y else None)
      go None e = ap (λ (b : Bool). if b then taker wire past y else None) (free_ready e)
      go (Some w) e = sym (ap (λ (b : Bool). if b then taker wire past y else None) (paused_unready w e))

-- ## By the state

module _ (s : State) (h : Holds s) (y : EndId) where
  pub taker_of_is : taker_of s y ≡ taker_at (λ n. meant (wire_in s) n) (endpoint_at (wire_in s) (past_of s) y) (is_gone (past_of s) y)
      (front_of (unread (wire_in s) (past_of s) y))
  taker_of_is =
      let k = kept (wire_in s) s.seqs (past_of s) h.legal in
      same_taker (λ m. id_meant m.bytes) (λ m. meant (wire_in s) m) (found_at s.endpoints y) (endpoint_at (wire_in s) (past_of s) y) (meant_is (schema_of s))
      (λ id. found_is h.agrees y id) (is_closed (end_of s.pipes.ends y)) (is_gone (past_of s) y) (front_of (unread_at s.pipes.ends y))
      (front_of (unread (wire_in s) (past_of s) y))
      (closed_is (wire_in s) (past_of s) k s.pipes s.endpoints h.agrees y)
      (ap (λ (ms : List Message). front_of ms) (unread_is (wire_in s) (past_of s) k s.pipes s.endpoints h.agrees y))

  -- who takes there, where a take is ready
  pub ready_taker_is : ready_taker s y ≡ (if is_ready (wire_in s) (past_of s) y then taker (wire_in s) (past_of s) y else None)
  ready_taker_is =
      ap (λ (o : Option SeqId). unless_paused (first_unmet (past_of s) (waits (past_of s) y)) o)
      (taker_of_is ∙ taker_is (wire_in s) (past_of s) y)
      ∙ ready_is (wire_in s) (past_of s) y
