-- The reply to what a script asks has numbers of their widths, where all before has.
use Rattle.std.proofs.Common.{◌≡◌, ◌<◌, ◌≤◌, ℕ, suc, ◌+◌, ◌^◌, Bool, true, false, List, [], ◌∷◌, length, refl, ap, arith}
use Rattle.std.specs.Prelude.{Option, Some, None, Result, Ok, Err, if◌then◌else◌, map, not, ◌&&◌, ◌||◌, ◌==◌, nat_le, nat_lt, is_some}
use Rattle.std.specs.List.{list_any}
use Rattle.mj_base.specs.declared.ids.EndId.{EndId}
use Rattle.mj_base.specs.declared.ids.SeqId.{SeqId}
use Rattle.mj_base.specs.declared.fault.Fault.{Fault}
use Rattle.mj_base.specs.declared.fault.FaultKind.TheVariants.{IllegalHandle}
use Rattle.handle_table.specs.declared.thing.Thing.{Thing}
use Rattle.handle_table.specs.declared.thing.Thing.TheVariants.{End, Token}
use Rattle.handle_table.specs.declared.thing.TokenId.{TokenId}
use Rattle.handle_table.specs.Things.{has, same_end}
use Rattle.handle_table.proofs.ThingsLemmas.{and_right}
use Rattle.message_pipe.specs.declared.message.Message.{Message}
use Rattle.wire_encoder.specs.declared.endpoint.WantedEndpoint.{WantedEndpoint}
use Rattle.wire_model.specs.HeaderMarks.{CONTROL_ID}
use Rattle.wire_model.specs.Trees.{Tree}
use Rattle.wire_model.specs.declared.target.MessageSide.TheVariants.{Response}
use Rattle.wire_model.specs.declared.target.Target.{Target}
use Rattle.bind_model.specs.declared.asked.Asked.{Asked}
use Rattle.bind_model.specs.declared.asked.Asked.TheVariants.{Pipe, Join, Mint, Bind, Associate, Attach, Call, Answer, Raw, Take, Close, Notify, Pause, Data, Flow as Move, Skip}
use Rattle.bind_model.specs.declared.asked.Closing.{Closing}
use Rattle.bind_model.specs.declared.asked.Closing.TheVariants as closings
use Rattle.bind_model.specs.declared.asked.Notice.{Notice}
use Rattle.bind_model.specs.declared.asked.Notice.TheVariants.{Query, Require, Flush}
use Rattle.bind_model.specs.declared.asked.Outgoing.{Outgoing}
use Rattle.control_bytes.specs.declared.control.Control.{Control as ControlType}
use Rattle.control_bytes.specs.declared.control.Control.TheVariants as controls
use Rattle.bind_model.specs.declared.endpoint.Endpoint.{Endpoint}
use Rattle.bind_model.specs.declared.endpoint.PendingId.{PendingId}
use Rattle.bind_model.specs.declared.endpoint.ResponderId.{ResponderId}
use Rattle.bind_model.specs.declared.endpoint.State.{State}
use Rattle.bind_model.specs.declared.endpoint.State.TheVariants as states
use Rattle.bind_model.specs.declared.event.Event.{Event}
use Rattle.bind_model.specs.declared.limits.TheConstants.{MAX_RAW_BYTES, MAX_RAW_HANDLES}
use Rattle.bind_model.specs.declared.told.BadWhy.TheVariants as bads
use Rattle.bind_model.specs.declared.told.Noted.TheVariants as noted
use Rattle.bind_model.specs.declared.told.Told.TheVariants.{Associated, Attached, Closed, Control, No, Notified as Informed, Pausing, Wrote}
use Rattle.bind_model.specs.declared.told.Why.TheVariants.{NoName, Disconnected, Unbound, Elsewhere, WrongSide, WrongMethod, WrongTokens, WrongPipe, SelfSend, TooLong, TooManyHandles, Full, Empty, PeerClosed, SelfPause, BadSize}
use Rattle.bind_model.specs.Data.{DataPipe, pipe_of}
use Rattle.bind_model.specs.Machine.{Endpoints, peer, is_gone, is_local, is_strange, out, endpoint_at, unread, is_closed, first_strange, goes_with}
use Rattle.bind_model.specs.Notices.{flushed as flushes_at, query_pends}
use Rattle.bind_model.specs.Replies.{is_response, is_asked, drawn, serials, tokens, same_responder, responders_out, has_pending, pendings_out, unless, all_out, all_pending, unbound, elsewhere, is_receiver, suits, all_suit, tokens_right, wrong_tokens, wrong_pipe, cannot_write, is_full, same_target, joined, bound_as, next_id, request_of, ids_of, picked, pendings_at, half_closed, sent, called, answered_with, wrote_at, bad, got_known, got_asked, judged, at_state, at_endpoint, is_none, version_of, is_older, heard, controlled, headed, took_front, paused, closed_at, closed, answer}
use Rattle.bind_model.specs.Replies.{from_id, is_flush, notified, pausing, told_of, data_made, is_right_size, moved_by}
use Rattle.bind_model.specs.Wire.{Wire, Header, Named, Content}
use Rattle.bind_model.proofs.Outcomes.{held}
use Rattle.history_reader.specs.Printable.{IsSmall, IsSequence, IsEnd, IsThing, IsPending, IsWide, IsMoment, IsVersion, AreAll, IsNotice, IsNotified}
use Rattle.printed_histories.proofs.SmallLists.{If}
use Rattle.printed_histories.proofs.SmallMoves.{IsSmallPipe, moved_by_small}
use Rattle.printed_histories.proofs.SmallTests.{IsSmallTest, busy_small, first_small, unless_small}
use Rattle.printed_histories.specs.Asked.{IsSmallAsked, IsSmallClosing, IsSmallOut, IsSmallResponder}
use Rattle.printed_histories.proofs.SmallSaid.{IsSmallTold, IsFineMessage, IsSmallControl, IsSmallWire}

-- an endpoint, where there is one, is bound on a sequence of its width
abbrev pub IsWithin : Option Endpoint → Type 0
IsWithin o = (r : Endpoint) (t : SeqId) → o ≡ Some r → r.state ≡ states.Bound t → IsSequence t

unbound_small : (id : ℕ) (r : Endpoint) → IsSmall id → IsSmallTest (unbound id r)
unbound_small id r i = go r.state
  where
    go : (s : State) → IsSmallTest (elim s [ states.Pending ↦ Some (Unbound id) | states.Bound t ↦ None | states.Closed ↦ None ])
    go states.Pending = i
    go (states.Bound t) = tt
    go states.Closed = tt

elsewhere_small : (seq : SeqId) (r : Endpoint) → IsWithin (Some r) → IsSmallTest (elsewhere seq r)
elsewhere_small seq r w = go r.state refl
  where
    go : (s : State) → r.state ≡ s
        → IsSmallTest (elim s [ states.Bound t ↦ unless (t.0 == seq.0) (Elsewhere t) | states.Pending ↦ None | states.Closed ↦ None ])
    go states.Pending e = tt
    go (states.Bound t) e = unless_small (t.0 == seq.0) (Elsewhere t) (w r t refl e)
    go states.Closed e = tt

pipe_small : (past : List Event) (y : EndId) (ps : List PendingId) → AreAll IsPending ps → IsSmallTest (wrong_pipe past y ps)
pipe_small past y [] a = tt
pipe_small past y (p ∷ ps) a = go (same_end p.end y && is_local past p) (pipe_small past y ps a.1)
  where
    go : (b : Bool) → IsSmallTest (wrong_pipe past y ps) → IsSmallTest (if b then wrong_pipe past y ps else Some (WrongPipe p.id))
    go true rest = rest
    go false rest = a.0.1

strange_small : (endpoints : Endpoints) (earlier ids : List ℕ) → AreAll IsSmall ids → If IsSmall (first_strange endpoints earlier ids)
strange_small endpoints earlier [] a = tt
strange_small endpoints earlier (id ∷ ids) a = go (is_strange endpoints earlier id) (strange_small endpoints (id ∷ earlier) ids a.1)
  where
    go : (b : Bool) → If IsSmall (first_strange endpoints (id ∷ earlier) ids) → If IsSmall (if b then Some id else first_strange endpoints (id ∷ earlier) ids)
    go true rest = a.0
    go false rest = rest

-- pendings of ids that came with a message
picked_small : (y : EndId) → IsEnd y → (at : List ℕ) (k : ℕ) (ids : List ℕ) → AreAll IsSmall ids → AreAll IsPending (pendings_at y (picked at k ids))
picked_small y e at k [] a = tt
picked_small y e at k (id ∷ ids) a = go (list_any (λ n. n == k) at) (picked_small y e at (suc k) ids a.1)
  where
    go : (b : Bool) → AreAll IsPending (pendings_at y (picked at (suc k) ids))
        → AreAll IsPending (pendings_at y (if b then id ∷ picked at (suc k) ids else picked at (suc k) ids))
    go true rest = ((e, a.0), rest)
    go false rest = rest

-- as many pendings are sent as endpoints are wanted
suit_long : (wire : Wire) (past : List Event) (ps : List PendingId) (ns : List WantedEndpoint) → all_suit wire past ps ns ≡ true
    → length (ids_of ps) ≡ length ns
suit_long wire past [] [] h = refl
suit_long wire past [] (n ∷ ns) h = absurd (let no : false ≡ true = h in cc)
suit_long wire past (p ∷ ps) [] h = absurd (let no : false ≡ true = h in cc)
suit_long wire past (p ∷ ps) (n ∷ ns) h = ap suc (suit_long wire past ps ns (and_right (suits wire past p n) (all_suit wire past ps ns) h))

-- what is known of the events so far
pub record IsSmallPast (wire : Wire) (past : List Event) : Type 0 where
  pub mail : (y : EndId) → AreAll IsFineMessage (unread wire past y)
  pub within : (y : EndId) (id : ℕ) → IsWithin (endpoint_at wire past y id)
  pub serials : (seq : ℕ) → serials past seq + 1 < 2 ^ 32
  pub tokens : (seq : ℕ) → tokens past seq + 1 < 2 ^ 32
  pub drawn : (y : EndId) (id : ℕ) → length (drawn past y id) + 1 < 2 ^ 64
  pub next : (y : EndId) → IsSmall (next_id wire past y)
  pub flushed : (y : EndId) → length (flushes_at past y) + 1 < 2 ^ 32
  pub paused : (y : EndId) → IsSmallTest (paused past y)
  pub flows : (t : TokenId) (d : DataPipe) → pipe_of past t ≡ Some d → IsSmallPipe past d

module _ (F : Target → Tree → Type 0) (wire : Wire) (w : IsSmallWire F wire) (past : List Event) (k : IsSmallPast wire past) (seq : SeqId) where
  joined_small : (s t : ℕ) → IsSmall s → IsSmall t → IsSmallTold (joined past s t)
  joined_small s t i j = (((i, let n = k.serials s in omega (arith, n)), ((j, two (t == s)), tt)), omega arith)
    where
      two : (b : Bool) → serials past t + (if b then 1 else 0) < 2 ^ 32
      two true = k.serials t
      two false = let n = k.serials t in omega (arith, n)

  bound_small : (x : Thing) → IsThing x → IsSmallTold (bound_as x)
  bound_small (End x) i = i
  bound_small (Token t) i = tt

  -- ## Calls and answers

  write_small : (y : EndId) (peer_closed : Bool) (handles : List Thing) → AreAll IsThing handles
      → AreAll IsSmallTest (cannot_write wire past y peer_closed handles)
  write_small y peer_closed handles things = (
    unless_small (not (has handles (End (peer past y)))) SelfSend tt,
    (
      busy_small past handles things,
      (
        unless_small (not (is_gone past (peer past y) || peer_closed)) Disconnected tt,
        (unless_small (not (is_full wire past (peer past y))) Full tt, tt),
      ),
    ),
  )

  sent_small : (id : ℕ) (s : Outgoing) (request : ℕ) → IsSmallOut F s → IsWide request → wrong_tokens wire past s ≡ None
      → IsSmallTold (sent wire id s request)
  sent_small id s request o i right =
      let wants = wire.wants s.target s.parameters in
      let same = suit_long wire past s.pendings wants
      (and_right (length s.handles == wire.handles s.target s.parameters) (all_suit wire past s.pendings wants)
      (held (tokens_right wire past s) WrongTokens right)) in
      let few = w.wants s.target s.parameters o.2 in
      let some : length (ids_of s.pendings) ≤ 64 = omega (arith, same, few) in
      (i, w.sealed s.target s.parameters (record { id = id; request = request; ids = ids_of s.pendings; moment = s.moment }) o.2 some)

  request_wide : (y : EndId) (id : ℕ) (target : Target) → IsWide (request_of wire past y id target)
  request_wide y id target = go (wire.responds target.interface target.method)
    where
      go : (b : Bool) → IsWide (if b then length (drawn past y id) + 1 else 0)
      go true = k.drawn y id
      go false = omega arith

  called_small : (y : EndId) (id : ℕ) (s : Outgoing) (o : Option Endpoint) → IsWithin o → IsSmall id → IsSmallOut F s
      → IsSmallTold (called wire past seq y id s o)
  called_small y id s None v i o = tt
  called_small y id s (Some r) v i o = first_small (
      unless (all_out past s.handles && all_pending past s.pendings) NoName
      ∷ unless (not (is_gone past y || is_closed r)) Disconnected
      ∷ unbound id r
      ∷ elsewhere seq r
      ∷ unless (not (is_receiver r.side)) WrongSide
      ∷ unless ((s.target.interface == r.interface) && not (is_response s.target.side)) WrongMethod
      ∷ wrong_tokens wire past s
      ∷ wrong_pipe past y s.pendings
      ∷ cannot_write wire past y r.peer_closed s.handles)
      (sent wire id s (request_of wire past y id s.target)) (
        unless_small (all_out past s.handles && all_pending past s.pendings) NoName tt,
        (
          unless_small (not (is_gone past y || is_closed r)) Disconnected tt,
          (
            unbound_small id r i,
            (
              elsewhere_small seq r v,
              (
                unless_small (not (is_receiver r.side)) WrongSide tt,
                (
                  unless_small ((s.target.interface == r.interface) && not (is_response s.target.side)) WrongMethod tt,
                  (
                    unless_small (tokens_right wire past s) WrongTokens tt,
                    (
                      pipe_small past y s.pendings o.1,
                      write_small y r.peer_closed s.handles o.0,
                    ),
                  ),
                ),
              ),
            ),
          ),
        ),
      )
      (λ p. sent_small id s (request_of wire past y id s.target) o (request_wide y id s.target) p.1.1.1.1.1.1.0)

  answered_small : (r : ResponderId) (s : Outgoing) (o : Option Endpoint) → IsWithin o → IsSmallResponder r → IsSmallOut F s
      → IsSmallTold (answered_with wire past seq r s o)
  answered_small r s None v i o = tt
  answered_small r s (Some e) v i o = first_small (
      unless (list_any (λ q. same_responder q r) (responders_out wire past) && all_out past s.handles && all_pending past s.pendings) NoName
      ∷ unless (not (is_gone past r.end || is_closed e)) Disconnected
      ∷ elsewhere seq e
      ∷ unless (same_target s.target (record { interface = r.interface; method = r.method; side = Response })) WrongMethod
      ∷ wrong_tokens wire past s
      ∷ wrong_pipe past r.end s.pendings
      ∷ cannot_write wire past r.end e.peer_closed s.handles)
      (sent wire r.id s r.request) (
        unless_small (list_any (λ q. same_responder q r) (responders_out wire past) && all_out past s.handles && all_pending past s.pendings) NoName tt,
        (
          unless_small (not (is_gone past r.end || is_closed e)) Disconnected tt,
          (
            elsewhere_small seq e v,
            (
              unless_small (same_target s.target (record { interface = r.interface; method = r.method; side = Response })) WrongMethod tt,
              (
                unless_small (tokens_right wire past s) WrongTokens tt,
                (
                  pipe_small past r.end s.pendings o.1,
                  write_small r.end e.peer_closed s.handles o.0,
                ),
              ),
            ),
          ),
        ),
      )
      (λ p. sent_small r.id s r.request o i.2 p.1.1.1.1.0)

  -- ## Takes

  module _ (y : EndId) (there : IsEnd y) (m : Message) (fine : IsFineMessage m) where
    known_small : (h : Header) (c : Content) → IsSmall h.id → AreAll IsSmall h.ids → IsSmall c.target.method → IsWide c.request → IsMoment c.moment
        → IsSmallTold (got_known wire past y m h c (first_strange (endpoint_at wire past y) [] h.ids))
    known_small h c i ids method request moment = go (first_strange (endpoint_at wire past y) [] h.ids) (strange_small (endpoint_at wire past y) [] h.ids ids)
      where
        go : (o : Option ℕ) → If IsSmall o → IsSmallTold (got_known wire past y m h c o)
        go None j = (i, method, request, picked_small y there (map (λ (n : Named). n.index) c.ids) 0 h.ids ids, moment)
        go (Some id) j = j

    asked_small : (h : Header) (r : Endpoint) (c : Content) → IsSmall h.id → AreAll IsSmall h.ids → IsSmall c.target.method → IsWide c.request
        → IsMoment c.moment → IsSmallTold (got_asked wire past y m h r c)
    asked_small h r c i ids method request moment = go (is_response c.target.side && (r.peer_closed || not (is_asked past y h.id c.request c.target.method)))
      where
        go : (b : Bool) → IsSmallTold (if b then bad wire past y (bads.Unasked c.request)
            else got_known wire past y m h c (first_strange (endpoint_at wire past y) [] h.ids))
        go true = request
        go false = known_small h c i ids method request moment

    judged_small : (h : Header) (r : Endpoint) → wire.header m.bytes ≡ Ok h → IsSmall h.id → AreAll IsSmall h.ids → (o : Result Content Fault)
        → wire.stands r.side r.interface m.bytes (length m.handles) ≡ o → IsSmallTold (judged wire past y m h r o)
    judged_small h r headed i ids (Err fault) e = w.stands_fault r.side r.interface m.bytes h (length m.handles) fault fine headed e
    judged_small h r headed i ids (Ok c) e =
        let read = w.stands r.side r.interface m.bytes (length m.handles) c fine e in
        asked_small h r c i ids read.0 read.1 read.2

    state_small : (h : Header) (r : Endpoint) → IsWithin (Some r) → wire.header m.bytes ≡ Ok h → IsSmall h.id → AreAll IsSmall h.ids → (s : State)
        → r.state ≡ s → IsSmallTold (at_state wire past seq y m h r s)
    state_small h r v headed i ids states.Closed e = i
    state_small h r v headed i ids states.Pending e = i
    state_small h r v headed i ids (states.Bound t) e = go (t.0 == seq.0)
      where
        go : (b : Bool)
            → IsSmallTold (if b then judged wire past y m h r (wire.stands r.side r.interface m.bytes (length m.handles)) else No (Elsewhere t))
        go true = judged_small h r headed i ids (wire.stands r.side r.interface m.bytes (length m.handles)) refl
        go false = v r t refl e

    endpoint_small : (h : Header) (o : Option Endpoint) → IsWithin o → wire.header m.bytes ≡ Ok h → IsSmall h.id → AreAll IsSmall h.ids
        → IsSmallTold (at_endpoint wire past seq y m h o)
    endpoint_small h None v headed i ids = i
    endpoint_small h (Some r) v headed i ids = state_small h r v headed i ids r.state refl

    version_small : (o : Option Endpoint) → IsVersion (version_of wire o)
    version_small None = tt
    version_small (Some r) = go (is_receiver r.side && not (is_closed r))
      where
        go : (b : Bool) → IsVersion (if b then Some (wire.version r.interface) else None)
        go true = w.version r.interface
        go false = tt

    heard_small : (c : ControlType) → IsSmallControl c → IsSmallTold (heard wire past y c)
    heard_small (controls.Closed id) i = i
    heard_small (controls.Query id) i = (i, version_small (endpoint_at wire past y id))
    heard_small (controls.Version id v) i = go (query_pends past y id (endpoint_at wire past y id))
      where
        go : (b : Bool) → IsSmallTold (if b then Control (noted.Version id v) else bad wire past y (bads.Unasked 0))
        go true = i
        go false = omega arith
    heard_small (controls.Require id v) i = go (is_older (version_of wire (endpoint_at wire past y id)) v)
      where
        go : (b : Bool) → IsSmallTold (if b then bad wire past y (bads.TooOld v) else Control (noted.Required id v))
        go true = i.1
        go false = i
    heard_small (controls.Flush k) i = i

    controlled_small : (h : Header) → wire.header m.bytes ≡ Ok h → (o : Result ControlType Fault) → wire.says m.bytes ≡ o
        → IsSmallTold (controlled wire past y m o)
    controlled_small h headed (Err fault) e = w.says_fault m.bytes h fault fine headed e
    controlled_small h headed (Ok c) e = go (is_none m.handles)
      where
        go : (b : Bool) → IsSmallTold (if b then heard wire past y c else bad wire past y (bads.Message (record { kind = IllegalHandle; at = 0 })))
        go true = heard_small c (w.says m.bytes c fine e)
        go false = omega arith

    headed_small : (o : Result Header Fault) → wire.header m.bytes ≡ o → IsSmallTold (headed wire past seq y m o)
    headed_small (Err fault) e = w.header_fault m.bytes fault fine e
    headed_small (Ok h) e = go (h.id == CONTROL_ID)
      where
        go : (b : Bool) → IsSmallTold (if b then controlled wire past y m (wire.says m.bytes)
            else at_endpoint wire past seq y m h (endpoint_at wire past y h.id))
        go true = controlled_small h e (wire.says m.bytes) refl
        go false =
            let read = w.header m.bytes h fine e in
            endpoint_small h (endpoint_at wire past y h.id) (k.within y h.id) e read.0 read.1

  front_small : (y : EndId) → IsEnd y → (ms : List Message) → AreAll IsFineMessage ms → IsSmallTold (took_front wire past seq y ms)
  front_small y there [] a = go (is_gone past (peer past y))
    where
      go : (b : Bool) → IsSmallTold (if b then No PeerClosed else No Empty)
      go true = tt
      go false = tt
  front_small y there (m ∷ ms) a = headed_small y there m a.0 (wire.header m.bytes) refl

  -- ## Raw bytes

  wrote_small : (x : Thing) (bytes : List ℕ) (handles : List Thing) → IsThing x → AreAll IsThing handles
      → IsSmallTold (wrote_at wire past x bytes handles)
  wrote_small (Token t) bytes handles i things = tt
  wrote_small (End x) bytes handles i things = first_small (
      unless (nat_le (length bytes) MAX_RAW_BYTES) TooLong
      ∷ unless (nat_le (length handles) MAX_RAW_HANDLES) TooManyHandles
      ∷ cannot_write wire past x false handles)
      (Wrote x) (
        unless_small (nat_le (length bytes) MAX_RAW_BYTES) TooLong tt,
        (unless_small (nat_le (length handles) MAX_RAW_HANDLES) TooManyHandles tt, write_small x false handles things),
      )
      (λ p. i)

  -- ## Controls that are written, and pauses

  told_small : (y : EndId) (notice : Notice) → IsNotified (told_of past y notice)
  told_small y (Query id) = tt
  told_small y (Require id v) = tt
  told_small y Flush = k.flushed y

  from_small : (notice : Notice) → IsNotice notice → IsSmall (from_id notice)
  from_small (Query id) i = i
  from_small (Require id v) i = i.0
  from_small Flush i = omega arith

  notified_small : (y : EndId) (notice : Notice) (o : Option Endpoint) → IsWithin o → IsNotice notice → IsSmallTold (notified wire past seq y notice o)
  notified_small y notice None v i = tt
  notified_small y notice (Some r) v i = first_small (
      unless (not (is_gone past y || is_closed r)) Disconnected
      ∷ unbound (from_id notice) r
      ∷ elsewhere seq r
      ∷ unless (is_flush notice || not (is_receiver r.side)) WrongSide
      ∷ cannot_write wire past y (not (is_flush notice) && r.peer_closed) [])
      (Informed (told_of past y notice)) (
        unless_small (not (is_gone past y || is_closed r)) Disconnected tt,
        (
          unbound_small (from_id notice) r (from_small notice i),
          (
            elsewhere_small seq r v,
            (
              unless_small (is_flush notice || not (is_receiver r.side)) WrongSide tt,
              write_small y (not (is_flush notice) && r.peer_closed) [] tt,
            ),
          ),
        ),
      )
      (λ p. told_small y notice)

  pausing_small : (b a : EndId) (at_b at_a : Option Endpoint) → IsWithin at_b → IsWithin at_a → IsSmallTold (pausing past seq b a at_b at_a)
  pausing_small b a None at_a v u = tt
  pausing_small b a (Some rb) None v u = tt
  pausing_small b a (Some rb) (Some ra) v u = first_small (
      unless (not (is_gone past b)) Disconnected
      ∷ elsewhere seq rb
      ∷ (if is_gone past a then None else elsewhere seq ra)
      ∷ unless (not (same_end b a)) SelfPause
      ∷ [])
      Pausing (
        unless_small (not (is_gone past b)) Disconnected tt,
        (elsewhere_small seq rb v, (open_small (is_gone past a), (unless_small (not (same_end b a)) SelfPause tt, tt))),
      )
      (λ p. tt)
    where
      open_small : (gone : Bool) → IsSmallTest (if gone then None else elsewhere seq ra)
      open_small true = tt
      open_small false = elsewhere_small seq ra u

  -- ## Closings, and all replies

  closed_at_small : (y : EndId) (id : ℕ) (o : Option Endpoint) → IsWithin o → IsSmall id → IsSmallTold (closed_at wire past seq y id o)
  closed_at_small y id None v i = tt
  closed_at_small y id (Some r) v i = first_small
      (unless (not (is_gone past y || is_closed r)) Disconnected ∷ unbound id r ∷ elsewhere seq r ∷ [])
      (Closed (if id == 0 then goes_with wire past (End y ∷ []) else []))
      (unless_small (not (is_gone past y || is_closed r)) Disconnected tt, (unbound_small id r i, (elsewhere_small seq r v, tt))) (λ p. tt)

  closed_small : (closing : Closing) → IsSmallClosing closing → IsSmallTold (closed wire past seq closing)
  closed_small (closings.Handle x) i = first_small (unless (has (out past) x) NoName ∷ []) (Closed (goes_with wire past (x ∷ [])))
      (unless_small (has (out past) x) NoName tt, tt) (λ p. tt)
  closed_small (closings.Pending p) i = first_small (unless (has_pending (pendings_out past) p) NoName ∷ []) (Closed [])
      (unless_small (has_pending (pendings_out past) p) NoName tt, tt) (λ q. tt)
  closed_small (closings.Responder r) i = first_small (unless (list_any (λ q. same_responder q r) (responders_out wire past)) NoName ∷ []) (Closed [])
      (unless_small (list_any (λ q. same_responder q r) (responders_out wire past)) NoName tt, tt) (λ p. tt)
  closed_small (closings.Endpoint y id) i = closed_at_small y id (endpoint_at wire past y id) (k.within y id) i.1

  pub small_answer : (seqs : ℕ) (asked : Asked) → IsSequence seq → IsSmallAsked F asked → IsSmallTold (answer wire seqs past seq asked)
  small_answer seqs Pipe s i = joined_small seq.0 seq.0 s s
  small_answer seqs (Join t) s i = first_small (unless (nat_lt t.0 seqs) NoName ∷ []) (joined past seq.0 t.0)
      (unless_small (nat_lt t.0 seqs) NoName tt, tt) (λ p. joined_small seq.0 t.0 s i)
  small_answer seqs (Mint sort) s i = (((s, omega (arith, k.tokens seq.0)), tt), omega arith)
  small_answer seqs (Bind x side interface) s i = first_small (unless (has (out past) x && nat_lt interface wire.interfaces) NoName ∷ []) (bound_as x)
      (unless_small (has (out past) x && nat_lt interface wire.interfaces) NoName tt, tt) (λ p. bound_small x i)
  small_answer seqs (Associate y side interface) s i = first_small (
      unless (is_some (endpoint_at wire past y 0) && nat_lt interface wire.interfaces) NoName
      ∷ unless (not (is_gone past y)) Disconnected
      ∷ [])
      (Associated (record { end = y; id = next_id wire past y })) (
        unless_small (is_some (endpoint_at wire past y 0) && nat_lt interface wire.interfaces) NoName tt,
        (unless_small (not (is_gone past y)) Disconnected tt, tt),
      )
      (λ p. (i, k.next y))
  small_answer seqs (Attach p t) s i = first_small (
      unless (has_pending (pendings_out past) p && nat_lt t.0 seqs) NoName
      ∷ unless (not (is_gone past p.end || half_closed (endpoint_at wire past p.end p.id))) Disconnected
      ∷ unless (not (is_local past p)) (WrongPipe p.id)
      ∷ [])
      (Attached p.id) (
        unless_small (has_pending (pendings_out past) p && nat_lt t.0 seqs) NoName tt,
        (
          unless_small (not (is_gone past p.end || half_closed (endpoint_at wire past p.end p.id))) Disconnected tt,
          (unless_small (not (is_local past p)) (WrongPipe p.id) i.0.1, tt),
        ),
      )
      (λ q. i.0.1)
  small_answer seqs (Call y id o) s i = called_small y id o (endpoint_at wire past y id) (k.within y id) i.1 i.2
  small_answer seqs (Answer r o) s i = answered_small r o (endpoint_at wire past r.end r.id) (k.within r.end r.id) i.0 i.1
  small_answer seqs (Raw x bytes handles) s i = first_small (unless (all_out past (x ∷ handles)) NoName ∷ []) (wrote_at wire past x bytes handles)
      (unless_small (all_out past (x ∷ handles)) NoName tt, tt) (λ p. wrote_small x bytes handles i.0 i.2)
  small_answer seqs (Take y) s i = first_small
      (unless (is_some (endpoint_at wire past y 0)) NoName ∷ unless (not (is_gone past y)) Disconnected ∷ paused past y ∷ [])
      (took_front wire past seq y (unread wire past y)) (
        unless_small (is_some (endpoint_at wire past y 0)) NoName tt,
        (unless_small (not (is_gone past y)) Disconnected tt, (k.paused y, tt)),
      )
      (λ p. front_small y i (unread wire past y) (k.mail y))
  small_answer seqs (Close closing) s i = closed_small closing i
  small_answer seqs (Notify y notice) s i =
      notified_small y notice (endpoint_at wire past y (from_id notice)) (k.within y (from_id notice)) i.1
  small_answer seqs (Pause b a flush) s i =
      pausing_small b a (endpoint_at wire past b 0) (endpoint_at wire past a 0) (k.within b 0) (k.within a 0)
  small_answer seqs (Data size) s i = first_small (unless (is_right_size size) (BadSize size) ∷ []) (data_made past seq.0)
      (unless_small (is_right_size size) (BadSize size) i, tt)
      (λ p. (((s, omega (arith, k.tokens seq.0)), ((s, k.tokens seq.0), tt)), omega arith))
  small_answer seqs (Move x flow) s i = first_small (unless (has (out past) x) NoName ∷ []) (moved_by past x flow)
      (unless_small (has (out past) x) NoName tt, tt) (λ p. moved_by_small past k.flows x flow i.0 i.1)
  small_answer seqs (Skip line) s i = tt
