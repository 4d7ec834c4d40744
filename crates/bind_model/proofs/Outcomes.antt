-- Each reply is one of the cases.
use Rattle.std.proofs.Common.{sym, ◌≡◌, ℕ, Bool, true, false, List, [], ◌∷◌, length, refl, ap, ◌∙◌, inl, inr}
use Rattle.std.specs.Prelude.{Option, Some, None, Result, Ok, Err, if◌then◌else◌, not, ◌&&◌, ◌||◌, ◌==◌, nat_le, nat_lt, is_some}
use Rattle.std.specs.List.{list_any, list_all}
use Rattle.std.proofs.lemmas.Bool.{eqb-true}
use Rattle.mj_base.specs.declared.ids.EndId.{EndId}
use Rattle.mj_base.specs.declared.ids.SeqId.{SeqId}
use Rattle.handle_table.specs.declared.thing.Thing.{Thing}
use Rattle.handle_table.specs.declared.thing.Thing.TheVariants.{End, Token}
use Rattle.wire_encoder.specs.declared.endpoint.EndpointSide.{EndpointSide}
use Rattle.wire_model.specs.declared.target.MessageSide.TheVariants.{Response}
use Rattle.mj_base.specs.declared.fault.Fault.{Fault}
use Rattle.message_pipe.specs.declared.message.Message.{Message}
use Rattle.bind_model.specs.declared.endpoint.ResponderId.{ResponderId}
use Rattle.bind_model.specs.declared.endpoint.Endpoint.{Endpoint}
use Rattle.bind_model.specs.declared.asked.Outgoing.{Outgoing}
use Rattle.bind_model.specs.declared.endpoint.State.{State}
use Rattle.bind_model.specs.declared.endpoint.State.TheVariants as states
use Rattle.bind_model.specs.declared.asked.Closing.{Closing}
use Rattle.bind_model.specs.declared.asked.Closing.TheVariants as closings
use Rattle.bind_model.specs.declared.asked.Asked.{Asked}
use Rattle.bind_model.specs.declared.asked.Asked.TheVariants.{Pipe, Join, Mint, Bind, Associate, Attach, Call, Answer, Raw, Take, Close, Notify, Pause, Data}
use Rattle.bind_model.specs.declared.asked.Asked.TheVariants.{Flow as Move, Skip}
use Rattle.bind_model.specs.declared.asked.Notice.{Notice}
use Rattle.control_bytes.specs.declared.control.Control.{Control as ControlType}
use Rattle.control_bytes.specs.declared.control.Control.TheVariants as says
use Rattle.bind_model.specs.declared.told.Noted.TheVariants as noted
use Rattle.bind_model.specs.declared.told.BadWhy.TheVariants as bads
use Rattle.bind_model.specs.declared.told.Why.TheVariants.{NoName, Disconnected, Elsewhere, WrongSide, WrongMethod, WrongPipe, SelfSend, TooLong}
use Rattle.bind_model.specs.declared.told.Why.TheVariants.{TooManyHandles, Full, Empty, PeerClosed, SelfPause, BadSize}
use Rattle.bind_model.specs.declared.told.Told.{Told}
use Rattle.bind_model.specs.declared.told.Told.TheVariants.{Associated, Attached, Sent, Wrote, Control, Closed, Notified as Informed, Pausing, No}
use Rattle.bind_model.specs.declared.event.Event.{Event}
use Rattle.handle_table.specs.Things.{has, is_distinct, same_end}
use Rattle.bind_model.specs.Notices.{query_pends, waits, first_unmet}
use Rattle.wire_model.specs.HeaderMarks.{CONTROL_ID}
use Rattle.mj_base.specs.declared.fault.FaultKind.TheVariants.{IllegalHandle}
use Rattle.bind_model.specs.declared.limits.TheConstants.{MAX_RAW_BYTES, MAX_RAW_HANDLES}
use Rattle.bind_model.specs.Wire.{Wire, Header, Content}
use Rattle.bind_model.specs.Machine.{peer, is_gone, out, is_local, endpoint_at, unread, is_closed, first_strange, goes_with}
use Rattle.bind_model.specs.Replies.{is_response, is_asked, has_pending, pendings_out, same_responder, responders_out, unless, all_out, all_pending, unbound}
use Rattle.bind_model.specs.Replies.{elsewhere, is_receiver, wrong_tokens, wrong_pipe, cannot_write, is_full, same_target, joined, bound_as, next_id}
use Rattle.bind_model.specs.Replies.{request_of, ids_of, called, answered_with, wrote_at, bad, got_known, judged, at_state, at_endpoint, is_none, heard}
use Rattle.bind_model.specs.Replies.{version_of, is_older, controlled, headed, took_front, pause_of, paused, took, closed_at, closed, half_closed, from_id}
use Rattle.bind_model.specs.Replies.{is_flush, told_of, notified, pausing, data_made, is_right_size, moved_by, answer}
use Rattle.bind_model.proofs.MoveOutcomes.{of_move}
pub use Rattle.bind_model.proofs.Cases.{Passes, Refused, first_cases, held, is_true, left_true, right_true, left_false, right_false, there, Writes, Fronts}
pub use Rattle.bind_model.proofs.Cases.{Open, Gets, AsksJoin, Flows, Outcome, joins, mints, binds, associates, attaches, calls, answers, writes, gets, drops}
pub use Rattle.bind_model.proofs.Cases.{controls, spoils, closes, closes_pending, closes_responder, closes_end, closes_endpoint, notifies, pauses, pipes, flows}
pub use Rattle.bind_model.proofs.Cases.{skips, refuses}

module _ (wire : Wire) (seqs : ℕ) (past : List Event) (seq : SeqId) where
  no : {asked : Asked} {told : Told} → Refused told → Outcome wire seqs past seq asked told
  no r = rw r.1 refuses

  writes_at : (y : EndId) (peer_closed : Bool) (handles : List Thing) → all_out past handles ≡ true → Passes (cannot_write wire past y peer_closed handles)
      → Writes wire past y handles
  writes_at y peer_closed handles own p = record {
    own = own;
    apart = is_true (has handles (End (peer past y))) (held (not (has handles (End (peer past y)))) SelfSend p.0);
    still = p.1.0;
    open_there = left_false (is_gone past (peer past y)) peer_closed
        (is_true (is_gone past (peer past y) || peer_closed) (held (not (is_gone past (peer past y) || peer_closed)) Disconnected p.1.1.0));
    room = is_true (is_full wire past (peer past y)) (held (not (is_full wire past (peer past y))) Full p.1.1.1.0);
  }

  unmarked_at : (y : EndId) (peer_closed : Bool) (handles : List Thing) → Passes (cannot_write wire past y peer_closed handles) → peer_closed ≡ false
  unmarked_at y peer_closed handles p = right_false (is_gone past (peer past y)) peer_closed
      (is_true (is_gone past (peer past y) || peer_closed) (held (not (is_gone past (peer past y) || peer_closed)) Disconnected p.1.1.0))

  open_at : (y : EndId) (id : ℕ) (r : Endpoint) → endpoint_at wire past y id ≡ Some r → unless (not (is_gone past y || is_closed r)) Disconnected ≡ None
      → Open wire past seq y id r
  open_at y id r e p =
      let f : (is_gone past y || is_closed r) ≡ false = is_true (is_gone past y || is_closed r) (held (not (is_gone past y || is_closed r)) Disconnected p) in
      record { here = e; open_here = left_false (is_gone past y) (is_closed r) f; not_shut = right_false (is_gone past y) (is_closed r) f }

  of_call : (y : EndId) (id : ℕ) (s : Outgoing) (told : Told) (o : Option Endpoint) → endpoint_at wire past y id ≡ o → told ≡ called wire past seq y id s o
      → Outcome wire seqs past seq (Call y id s) told
  of_call y id s told None e h = rw h refuses
  of_call y id s told (Some r) e h = elim (first_cases (
      unless (all_out past s.handles && all_pending past s.pendings) NoName
      ∷ unless (not (is_gone past y || is_closed r)) Disconnected
      ∷ unbound id r
      ∷ elsewhere seq r
      ∷ unless (not (is_receiver r.side)) WrongSide
      ∷ unless ((s.target.interface == r.interface) && not (is_response s.target.side)) WrongMethod
      ∷ wrong_tokens wire past s
      ∷ wrong_pipe past y s.pendings
      ∷ cannot_write wire past y r.peer_closed s.handles)
      (Sent (request_of wire past y id s.target) (wire.sealed s.target s.parameters
      (record { id = id; request = request_of wire past y id s.target; ids = ids_of s.pendings; moment = s.moment }))) told h) [
        | inl r0 ↦ no r0
        | inr p ↦
            let own : (all_out past s.handles && all_pending past s.pendings)
            ≡ true = held (all_out past s.handles && all_pending past s.pendings) NoName p.0.0 in
            let w = p.0.1.1.1.1.1.1.1.1 in
            rw p.1 (calls r (open_at y id r e p.0.1.0) (right_true (all_out past s.handles) (all_pending past s.pendings) own)
            (unmarked_at y r.peer_closed s.handles w) refl
            (writes_at y r.peer_closed s.handles (left_true (all_out past s.handles) (all_pending past s.pendings) own) w) refl)
      ]

  of_answer : (q : ResponderId) (s : Outgoing) (told : Told) (o : Option Endpoint) → endpoint_at wire past q.end q.id ≡ o
      → told ≡ answered_with wire past seq q s o → Outcome wire seqs past seq (Answer q s) told
  of_answer q s told None e h = rw h refuses
  of_answer q s told (Some r) e h = elim (first_cases (
      unless (list_any (λ p. same_responder p q) (responders_out wire past) && all_out past s.handles && all_pending past s.pendings) NoName
      ∷ unless (not (is_gone past q.end || is_closed r)) Disconnected
      ∷ elsewhere seq r
      ∷ unless (same_target s.target (record { interface = q.interface; method = q.method; side = Response })) WrongMethod
      ∷ wrong_tokens wire past s
      ∷ wrong_pipe past q.end s.pendings
      ∷ cannot_write wire past q.end r.peer_closed s.handles)
      (Sent q.request (wire.sealed s.target s.parameters (record { id = q.id; request = q.request; ids = ids_of s.pendings; moment = s.moment }))) told h) [
        | inl r0 ↦ no r0
        | inr p ↦
            let all : (list_any (λ p. same_responder p q) (responders_out wire past) && all_out past s.handles && all_pending past s.pendings)
            ≡ true = held (list_any (λ p. same_responder p q)
            (responders_out wire past) && all_out past s.handles && all_pending past s.pendings) NoName p.0.0 in
            let front : (list_any (λ p. same_responder p q) (responders_out wire past) && all_out past s.handles)
            ≡ true = left_true (list_any (λ p. same_responder p q) (responders_out wire past) && all_out past s.handles)
            (all_pending past s.pendings) all in
            let w = p.0.1.1.1.1.1.1 in
            rw p.1 (answers r (open_at q.end q.id r e p.0.1.0)
            (left_true (list_any (λ p. same_responder p q) (responders_out wire past)) (all_out past s.handles) front)
            (right_true (list_any (λ p. same_responder p q) (responders_out wire past) && all_out past s.handles) (all_pending past s.pendings) all) refl
            (writes_at q.end r.peer_closed s.handles
            (right_true (list_any (λ p. same_responder p q) (responders_out wire past)) (all_out past s.handles) front) w) refl)
      ]

  of_raw : (x : Thing) (bytes : List ℕ) (handles : List Thing) (told : Told) → all_out past (x ∷ handles) ≡ true → told ≡ wrote_at wire past x bytes handles
      → Outcome wire seqs past seq (Raw x bytes handles) told
  of_raw (Token t) bytes handles told own h = rw h refuses
  of_raw (End x) bytes handles told own h = elim (first_cases (
      unless (nat_le (length bytes) MAX_RAW_BYTES) TooLong
      ∷ unless (nat_le (length handles) MAX_RAW_HANDLES) TooManyHandles
      ∷ cannot_write wire past x false handles)
      (Wrote x) told h) [
        | inl r ↦ no r
        | inr p ↦ rw p.1 (writes (out_first x handles own) (writes_at x false handles (out_rest x handles own) p.0.1.1))
      ]
    where
      out_first : (x : EndId) (handles : List Thing) → all_out past (End x ∷ handles) ≡ true → has (out past) (End x) ≡ true
      out_first x handles own = left_true (has (out past) (End x)) (list_all (λ y. has (out past) y) handles)
          (left_true (has (out past) (End x) && list_all (λ y. has (out past) y) handles) (is_distinct (End x ∷ handles)) own)

      out_rest : (x : EndId) (handles : List Thing) → all_out past (End x ∷ handles) ≡ true → all_out past handles ≡ true
      out_rest x handles own =
          let a : list_all (λ y. has (out past) y) handles
          ≡ true = right_true (has (out past) (End x)) (list_all (λ y. has (out past) y) handles)
          (left_true (has (out past) (End x) && list_all (λ y. has (out past) y) handles) (is_distinct (End x ∷ handles)) own) in
          let d : is_distinct handles ≡ true = right_true (not (has handles (End x))) (is_distinct handles)
          (right_true (has (out past) (End x) && list_all (λ y. has (out past) y) handles) (is_distinct (End x ∷ handles)) own) in
          rw (a, d) refl

  -- ## Takes

  module _ (y : EndId) (m : Message) (front : Fronts wire past y m) where
    of_known : (h : Header) (r : Endpoint) (c : Content) (told : Told) → wire.header m.bytes ≡ Ok h → (h.id == CONTROL_ID) ≡ false
        → endpoint_at wire past y h.id ≡ Some r → r.state ≡ states.Bound seq → wire.stands r.side r.interface m.bytes (length m.handles) ≡ Ok c
        → (is_response c.target.side ≡ true → (r.peer_closed ≡ false) × (is_asked past y h.id c.request c.target.method ≡ true))
        → (o : Option ℕ) → first_strange (endpoint_at wire past y) [] h.ids ≡ o → told ≡ got_known wire past y m h c o
        → Outcome wire seqs past seq (Take y) told
    of_known h r c told e1 e0 e2 e3 e4 e5 (Some id) e t = rw t (spoils m front refl)
    of_known h r c told e1 e0 e2 e3 e4 e5 None e t = rw t
        (gets m h r c (record { front = front; header = e1; plain = e0; at = e2; state = e3; stands = e4; awaited = e5; known = e }) refl)

    asked_for : (response peer_closed asks : Bool) → (response && (peer_closed || not asks)) ≡ false → response ≡ true → (peer_closed ≡ false) × (asks ≡ true)
    asked_for true true asks h e = absurd cc
    asked_for true false true h e = (refl, refl)
    asked_for true false false h e = absurd cc
    asked_for false peer_closed asks h e = absurd cc

    of_content : (h : Header) (r : Endpoint) (c : Content) (told : Told) → wire.header m.bytes ≡ Ok h → (h.id == CONTROL_ID) ≡ false
        → endpoint_at wire past y h.id ≡ Some r → r.state ≡ states.Bound seq → wire.stands r.side r.interface m.bytes (length m.handles) ≡ Ok c
        → (b : Bool) → (is_response c.target.side && (r.peer_closed || not (is_asked past y h.id c.request c.target.method))) ≡ b
        → told ≡ (if b then bad wire past y (bads.Unasked c.request) else got_known wire past y m h c (first_strange (endpoint_at wire past y) [] h.ids))
        → Outcome wire seqs past seq (Take y) told
    of_content h r c told e1 e0 e2 e3 e4 true e t = rw t (spoils m front refl)
    of_content h r c told e1 e0 e2 e3 e4 false e t = of_known h r c told e1 e0 e2 e3 e4
        (asked_for (is_response c.target.side) r.peer_closed (is_asked past y h.id c.request c.target.method) e)
        (first_strange (endpoint_at wire past y) [] h.ids) refl t

    of_judged : (h : Header) (r : Endpoint) (told : Told) → wire.header m.bytes ≡ Ok h → (h.id == CONTROL_ID) ≡ false → endpoint_at wire past y h.id ≡ Some r
        → r.state ≡ states.Bound seq
        → (j : Result Content Fault) → wire.stands r.side r.interface m.bytes (length m.handles) ≡ j → told ≡ judged wire past y m h r j
        → Outcome wire seqs past seq (Take y) told
    of_judged h r told e1 e0 e2 e3 (Err fault) e t = rw t (spoils m front refl)
    of_judged h r told e1 e0 e2 e3 (Ok c) e t = of_content h r c told e1 e0 e2 e3 e
        (is_response c.target.side && (r.peer_closed || not (is_asked past y h.id c.request c.target.method))) refl t

    of_seq : (h : Header) (r : Endpoint) (told : Told) (t : SeqId) → wire.header m.bytes ≡ Ok h → (h.id == CONTROL_ID) ≡ false
        → endpoint_at wire past y h.id ≡ Some r → r.state ≡ states.Bound t → (b : Bool) → (t.0 == seq.0) ≡ b
        → told ≡ (if b then judged wire past y m h r (wire.stands r.side r.interface m.bytes (length m.handles)) else No (Elsewhere t))
        → Outcome wire seqs past seq (Take y) told
    of_seq h r told t e1 e0 e2 e3 true e k = of_judged h r told e1 e0 e2 (e3 ∙ ap states.Bound (same_seq t seq (eqb-true t.0 seq.0 e)))
        (wire.stands r.side r.interface m.bytes (length m.handles)) refl k
      where
        same_seq : (s t : SeqId) → s.0 ≡ t.0 → s ≡ t
        same_seq s t e = ap (λ n. record { 0 = n }) e
    of_seq h r told t e1 e0 e2 e3 false e k = rw k refuses

    none_some : (r : Endpoint) → ◌≡◌ {A = Option Endpoint} None (Some r) → ⊥
    none_some r h = cc

    e2_same : (r r0 : Endpoint) → {o : Option Endpoint} → o ≡ Some r → o ≡ Some r0 → r ≡ r0
    e2_same r r0 a b = cc

    shut_same : (r r0 : Endpoint) → r ≡ r0 → r.state ≡ states.Closed → is_closed r0 ≡ true
    shut_same r r0 e s = rw (← e, s) refl

    of_state : (h : Header) (r : Endpoint) (told : Told) → wire.header m.bytes ≡ Ok h → (h.id == CONTROL_ID) ≡ false → endpoint_at wire past y h.id ≡ Some r
        → (st : State) → r.state ≡ st → told ≡ at_state wire past seq y m h r st → Outcome wire seqs past seq (Take y) told
    of_state h r told e1 e0 e2 states.Pending e k = rw k refuses
    of_state h r told e1 e0 e2 states.Closed e k = rw k (drops m front refl
        (record { h = h; header = e1; plain = e0; is = refl; closed = λ r0 s. shut_same r r0 (e2_same r r0 e2 s) e }))
    of_state h r told e1 e0 e2 (states.Bound t) e k = of_seq h r told t e1 e0 e2 e (t.0 == seq.0) refl k

    of_row : (h : Header) (told : Told) → wire.header m.bytes ≡ Ok h → (h.id == CONTROL_ID) ≡ false → (o : Option Endpoint) → endpoint_at wire past y h.id ≡ o
        → told ≡ at_endpoint wire past seq y m h o → Outcome wire seqs past seq (Take y) told
    of_row h told e1 e0 None e k = rw k (drops m front refl
        (record { h = h; header = e1; plain = e0; is = refl; closed = λ r0 s. absurd (none_some r0 (sym e ∙ s)) }))
    of_row h told e1 e0 (Some r) e k = of_state h r told e1 e0 e r.state refl k

    -- of a version that nobody asked for, and of a receiver that is too old
    of_version : (h : Header) → wire.header m.bytes ≡ Ok h → (h.id == CONTROL_ID) ≡ true → (id v : ℕ) (told : Told)
        → wire.says m.bytes ≡ Ok (says.Version id v) → m.handles ≡ [] → (b : Bool) → query_pends past y id (endpoint_at wire past y id) ≡ b
        → told ≡ (if b then Control (noted.Version id v) else bad wire past y (bads.Unasked 0)) → Outcome wire seqs past seq (Take y) told
    of_version h e1 e0 id v told s e true f k = rw k (controls m front e (record { h = h; header = e1; control = e0; is = s; right = f }))
    of_version h e1 e0 id v told s e false f k = rw k (spoils m front refl)

    of_require : (h : Header) → wire.header m.bytes ≡ Ok h → (h.id == CONTROL_ID) ≡ true → (id v : ℕ) (told : Told)
        → wire.says m.bytes ≡ Ok (says.Require id v) → m.handles ≡ [] → (b : Bool) → is_older (version_of wire (endpoint_at wire past y id)) v ≡ b
        → told ≡ (if b then bad wire past y (bads.TooOld v) else Control (noted.Required id v)) → Outcome wire seqs past seq (Take y) told
    of_require h e1 e0 id v told s e true f k = rw k (spoils m front refl)
    of_require h e1 e0 id v told s e false f k = rw k (controls m front e (record { h = h; header = e1; control = e0; is = s; right = f }))

    of_heard : (h : Header) → wire.header m.bytes ≡ Ok h → (h.id == CONTROL_ID) ≡ true → (c : ControlType) (told : Told) → wire.says m.bytes ≡ Ok c
        → m.handles ≡ [] → told ≡ heard wire past y c → Outcome wire seqs past seq (Take y) told
    of_heard h e1 e0 (says.Closed id) told s e k = rw k (controls m front e (record { h = h; header = e1; control = e0; is = s; right = tt }))
    of_heard h e1 e0 (says.Query id) told s e k = rw k (controls m front e (record { h = h; header = e1; control = e0; is = s; right = refl }))
    of_heard h e1 e0 (says.Version id v) told s e k = of_version h e1 e0 id v told s e (query_pends past y id (endpoint_at wire past y id)) refl k
    of_heard h e1 e0 (says.Require id v) told s e k = of_require h e1 e0 id v told s e (is_older (version_of wire (endpoint_at wire past y id)) v) refl k
    of_heard h e1 e0 (says.Flush n) told s e k = rw k (controls m front e (record { h = h; header = e1; control = e0; is = s; right = tt }))

    of_empty : (h : Header) → wire.header m.bytes ≡ Ok h → (h.id == CONTROL_ID) ≡ true → (c : ControlType) (told : Told) → wire.says m.bytes ≡ Ok c
        → (xs : List Thing) → m.handles ≡ xs → told ≡ (if is_none xs then heard wire past y c else bad wire past y
        (bads.Message (record { kind = IllegalHandle; at = 0 }))) → Outcome wire seqs past seq (Take y) told
    of_empty h e1 e0 c told s [] e k = of_heard h e1 e0 c told s e k
    of_empty h e1 e0 c told s (x ∷ xs) e k = rw k (spoils m front refl)

    of_control : (h : Header) → wire.header m.bytes ≡ Ok h → (h.id == CONTROL_ID) ≡ true → (told : Told) (o : Result ControlType Fault)
        → wire.says m.bytes ≡ o → told ≡ controlled wire past y m o → Outcome wire seqs past seq (Take y) told
    of_control h e1 e0 told (Err fault) c k = rw k (spoils m front refl)
    of_control h e1 e0 told (Ok s) c k = of_empty h e1 e0 s told c m.handles refl k

    of_id : (h : Header) (told : Told) → wire.header m.bytes ≡ Ok h → (b : Bool) → (h.id == CONTROL_ID) ≡ b
        → told ≡ (if b then controlled wire past y m (wire.says m.bytes) else at_endpoint wire past seq y m h (endpoint_at wire past y h.id))
        → Outcome wire seqs past seq (Take y) told
    of_id h told e true e0 k = of_control h e e0 told (wire.says m.bytes) refl k
    of_id h told e false e0 k = of_row h told e e0 (endpoint_at wire past y h.id) refl k

    of_header : (told : Told) (o : Result Header Fault) → wire.header m.bytes ≡ o → told ≡ headed wire past seq y m o → Outcome wire seqs past seq (Take y) told
    of_header told (Err fault) e k = rw k (spoils m front refl)
    of_header told (Ok h) e k = of_id h told e (h.id == CONTROL_ID) refl k

  of_mail : (y : EndId) (told : Told) (main : Endpoint) → endpoint_at wire past y 0 ≡ Some main → is_gone past y ≡ false
      → first_unmet past (waits past y) ≡ None → (ms : List Message)
      → unread wire past y ≡ ms → told ≡ took_front wire past seq y ms → Outcome wire seqs past seq (Take y) told
  of_mail y told main e o w [] u h = none (is_gone past (peer past y)) h
    where
      none : (b : Bool) → told ≡ (if b then No PeerClosed else No Empty) → Outcome wire seqs past seq (Take y) told
      none true h = rw h refuses
      none false h = rw h refuses
  of_mail y told main e o w (m ∷ ms) u h = of_header y m (record { main = main; rest = ms; bound = e; open_here = o; stands = u; unpaused = w }) told
      (wire.header m.bytes) refl h

  none_unmet : (o : Option EndId) → pause_of o ≡ None → o ≡ None
  none_unmet None h = refl
  none_unmet (Some x) h = absurd cc

  of_take : (y : EndId) (told : Told) → told ≡ took wire past seq y → Outcome wire seqs past seq (Take y) told
  of_take y told h = elim (first_cases (unless (is_some (endpoint_at wire past y 0)) NoName ∷ unless (not (is_gone past y)) Disconnected ∷ paused past y ∷ [])
      (took_front wire past seq y (unread wire past y)) told h) [
        | inl r ↦ no r
        | inr p ↦
            let main = there (endpoint_at wire past y 0) (held (is_some (endpoint_at wire past y 0)) NoName p.0.0) in
            of_mail y told main.0 main.1 (is_true (is_gone past y) (held (not (is_gone past y)) Disconnected p.0.1.0))
            (none_unmet (first_unmet past (waits past y)) p.0.1.1.0) (unread wire past y) refl p.1
      ]

  of_closed_at : (y : EndId) (id : ℕ) (told : Told) (r : Endpoint) → Open wire past seq y id r → (b : Bool) → (id == 0) ≡ b
      → told ≡ Closed (if b then goes_with wire past (End y ∷ []) else []) → Outcome wire seqs past seq (Close (closings.Endpoint y id)) told
  of_closed_at y id told r o true e h = rw h (closes_end r (eqb-true id 0 e) o refl)
  of_closed_at y id told r o false e h = rw h (closes_endpoint r e o refl)

  of_endpoint : (y : EndId) (id : ℕ) (told : Told) (o : Option Endpoint) → endpoint_at wire past y id ≡ o → told ≡ closed_at wire past seq y id o
      → Outcome wire seqs past seq (Close (closings.Endpoint y id)) told
  of_endpoint y id told None e h = rw h refuses
  of_endpoint y id told (Some r) e h = elim (first_cases (unless (not (is_gone past y || is_closed r)) Disconnected ∷ unbound id r ∷ elsewhere seq r ∷ [])
      (Closed (if id == 0 then goes_with wire past (End y ∷ []) else [])) told h) [
        | inl r0 ↦ no r0
        | inr p ↦ of_closed_at y id told r (open_at y id r e p.0.0) (id == 0) refl p.1
      ]

  of_close : (thing : Closing) (told : Told) → told ≡ closed wire past seq thing → Outcome wire seqs past seq (Close thing) told
  of_close (closings.Handle x) told h = elim (first_cases (unless (has (out past) x) NoName ∷ []) (Closed (goes_with wire past (x ∷ []))) told h) [
    | inl r ↦ no r
    | inr p ↦ rw p.1 (closes (held (has (out past) x) NoName p.0.0) refl)
  ]
  of_close (closings.Pending p) told h = elim (first_cases (unless (has_pending (pendings_out past) p) NoName ∷ []) (Closed []) told h) [
    | inl r ↦ no r
    | inr q ↦ rw q.1 (closes_pending (held (has_pending (pendings_out past) p) NoName q.0.0) refl)
  ]
  of_close (closings.Responder q) told h = elim (first_cases (unless (list_any (λ p. same_responder p q) (responders_out wire past)) NoName ∷ [])
      (Closed []) told h) [
        | inl r ↦ no r
        | inr p ↦ rw p.1 (closes_responder refl)
      ]
  of_close (closings.Endpoint y id) told h = of_endpoint y id told (endpoint_at wire past y id) refl h

  of_bind : (x : Thing) (side : EndpointSide) (interface : ℕ) (told : Told) → has (out past) x ≡ true → told ≡ bound_as x
      → Outcome wire seqs past seq (Bind x side interface) told
  of_bind (End x) side interface told o h = rw h (binds o)
  of_bind (Token t) side interface told o h = rw h refuses

  -- ## Controls that ends write, and data pipes

  of_notice : (y : EndId) (notice : Notice) (told : Told) (o : Option Endpoint) → endpoint_at wire past y (from_id notice) ≡ o
      → told ≡ notified wire past seq y notice o → Outcome wire seqs past seq (Notify y notice) told
  of_notice y notice told None e h = rw h refuses
  of_notice y notice told (Some r) e h = elim (first_cases (
      unless (not (is_gone past y || is_closed r)) Disconnected
      ∷ unbound (from_id notice) r
      ∷ elsewhere seq r
      ∷ unless (is_flush notice || not (is_receiver r.side)) WrongSide
      ∷ cannot_write wire past y (not (is_flush notice) && r.peer_closed) [])
      (Informed (told_of past y notice)) told h) [
        | inl w ↦ no w
        | inr p ↦
            let w = p.0.1.1.1.1 in
            rw p.1 (notifies r (open_at y (from_id notice) r e p.0.0) refl (writes_at y (not (is_flush notice) && r.peer_closed) [] refl w) p.0.1.1.0
            (held (is_flush notice || not (is_receiver r.side)) WrongSide p.0.1.1.1.0)
            (unmarked_at y (not (is_flush notice) && r.peer_closed) [] w))
      ]

  of_pause : (b a : EndId) (k : ℕ) (told : Told) (ob oa : Option Endpoint) → endpoint_at wire past b 0 ≡ ob → endpoint_at wire past a 0 ≡ oa
      → told ≡ pausing past seq b a ob oa → Outcome wire seqs past seq (Pause b a k) told
  of_pause b a k told None oa e f h = rw h refuses
  of_pause b a k told (Some rb) None e f h = rw h refuses
  of_pause b a k told (Some rb) (Some ra) e f h = elim (first_cases (
      unless (not (is_gone past b)) Disconnected
      ∷ elsewhere seq rb
      ∷ (if is_gone past a then None else elsewhere seq ra)
      ∷ unless (not (same_end b a)) SelfPause
      ∷ [])
      Pausing told h) [
        | inl w ↦ no w
        | inr p ↦ rw p.1 (pauses rb ra e f (is_true (is_gone past b) (held (not (is_gone past b)) Disconnected p.0.0))
            (is_true (same_end b a) (held (not (same_end b a)) SelfPause p.0.1.1.1.0)))
      ]

  -- a reply is one of these
  pub outcome : (asked : Asked) (told : Told) → told ≡ answer wire seqs past seq asked → Outcome wire seqs past seq asked told
  outcome Pipe told h = rw h (joins seq.0 refl refl refl)
  outcome (Join t) told h = elim (first_cases (unless (nat_lt t.0 seqs) NoName ∷ []) (joined past seq.0 t.0) told h) [
    | inl r ↦ no r
    | inr p ↦ rw p.1 (joins t.0 refl refl refl)
  ]
  outcome (Mint sort) told h = rw h mints
  outcome (Bind x side interface) told h = elim (first_cases (unless (has (out past) x && nat_lt interface wire.interfaces) NoName ∷ []) (bound_as x) told h) [
    | inl r ↦ no r
    | inr p ↦ of_bind x side interface told (left_true (has (out past) x) (nat_lt interface wire.interfaces)
        (held (has (out past) x && nat_lt interface wire.interfaces) NoName p.0.0)) p.1
  ]
  outcome (Associate y side interface) told h = elim (first_cases (
      unless (is_some (endpoint_at wire past y 0) && nat_lt interface wire.interfaces) NoName
      ∷ unless (not (is_gone past y)) Disconnected
      ∷ [])
      (Associated (record { end = y; id = next_id wire past y })) told h) [
        | inl r ↦ no r
        | inr p ↦
            let main = there (endpoint_at wire past y 0)
            (left_true (is_some (endpoint_at wire past y 0)) (nat_lt interface wire.interfaces)
            (held (is_some (endpoint_at wire past y 0) && nat_lt interface wire.interfaces) NoName p.0.0)) in
            rw p.1 (associates main.0 main.1 (is_true (is_gone past y) (held (not (is_gone past y)) Disconnected p.0.1.0)) refl)
      ]
  outcome (Attach p t) told h = elim (first_cases (
      unless (has_pending (pendings_out past) p && nat_lt t.0 seqs) NoName
      ∷ unless (not (is_gone past p.end || half_closed (endpoint_at wire past p.end p.id))) Disconnected
      ∷ unless (not (is_local past p)) (WrongPipe p.id)
      ∷ [])
      (Attached p.id) told h) [
        | inl r ↦ no r
        | inr q ↦
            let o = left_true (has_pending (pendings_out past) p) (nat_lt t.0 seqs)
            (held (has_pending (pendings_out past) p && nat_lt t.0 seqs) NoName q.0.0) in
            let c = left_false (is_gone past p.end) (half_closed (endpoint_at wire past p.end p.id))
            (is_true (is_gone past p.end || half_closed (endpoint_at wire past p.end p.id))
            (held (not (is_gone past p.end || half_closed (endpoint_at wire past p.end p.id))) Disconnected q.0.1.0)) in
            rw q.1 (attaches o c (is_true (is_local past p) (held (not (is_local past p)) (WrongPipe p.id) q.0.1.1.0)) refl)
      ]
  outcome (Call y id outgoing) told h = of_call y id outgoing told (endpoint_at wire past y id) refl h
  outcome (Answer q outgoing) told h = of_answer q outgoing told (endpoint_at wire past q.end q.id) refl h
  outcome (Raw x bytes handles) told h = elim (first_cases (unless (all_out past (x ∷ handles)) NoName ∷ []) (wrote_at wire past x bytes handles) told h) [
    | inl r ↦ no r
    | inr p ↦ of_raw x bytes handles told (held (all_out past (x ∷ handles)) NoName p.0.0) p.1
  ]
  outcome (Take y) told h = of_take y told h
  outcome (Close thing) told h = of_close thing told h
  outcome (Notify y notice) told h = of_notice y notice told (endpoint_at wire past y (from_id notice)) refl h
  outcome (Pause b a k) told h = of_pause b a k told (endpoint_at wire past b 0) (endpoint_at wire past a 0) refl refl h
  outcome (Data size) told h = elim (first_cases (unless (is_right_size size) (BadSize size) ∷ []) (data_made past seq.0) told h) [
    | inl r ↦ no r
    | inr p ↦ rw p.1 (pipes (held (is_right_size size) (BadSize size) p.0.0) refl refl)
  ]
  outcome (Move x f) told h = elim (first_cases (unless (has (out past) x) NoName ∷ []) (moved_by past x f) told h) [
    | inl r ↦ no r
    | inr p ↦ of_move wire seqs past seq x f told (held (has (out past) x) NoName p.0.0) p.1
  ]
  outcome (Skip line) told h = rw h skips
