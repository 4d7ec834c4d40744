-- A command of a group has the reply that the group's own events give.
use Rattle.std.proofs.Common.{◌≡◌, ◌≤◌, ℕ, ◌+◌, Bool, true, false, List, [], ◌∷◌, ◌++◌, length, drop, refl, ap, ◌∙◌, arith}
use Rattle.std.specs.Prelude.{if◌then◌else◌, ◌||◌, ◌&&◌, ◌==◌, not, filter, Option, Some, None, Result, Ok, Err, nat_lt, is_some}
use Rattle.std.specs.List.{flat_map}
use Rattle.std.proofs.lemmas.List.Sums.{length-filter, count_by-le-length}
use Rattle.mj_base.specs.declared.ids.EndId.{EndId}
use Rattle.mj_base.specs.declared.ids.SeqId.{SeqId}
use Rattle.mj_base.specs.declared.fault.Fault.{Fault}
use Rattle.mj_base.specs.declared.fault.FaultKind.TheVariants.{IllegalHandle}
use Rattle.handle_table.specs.declared.thing.Thing.{Thing}
use Rattle.handle_table.specs.declared.thing.Thing.TheVariants.{End, Token}
use Rattle.wire_model.specs.HeaderMarks.{CONTROL_ID}
use Rattle.control_bytes.specs.declared.control.Control.{Control as ControlType}
use Rattle.control_bytes.specs.declared.control.Control.TheVariants as says
use Rattle.message_pipe.specs.declared.message.Message.{Message}
use Rattle.bind_model.specs.declared.endpoint.ResponderId.{ResponderId}
use Rattle.bind_model.specs.declared.endpoint.Endpoint.{Endpoint}
use Rattle.bind_model.specs.declared.endpoint.State.{State}
use Rattle.bind_model.specs.declared.endpoint.State.TheVariants as states
use Rattle.bind_model.specs.declared.asked.Notice.{Notice}
use Rattle.bind_model.specs.declared.asked.Outgoing.{Outgoing}
use Rattle.bind_model.specs.declared.asked.Closing.{Closing}
use Rattle.bind_model.specs.declared.asked.Closing.TheVariants as closings
use Rattle.bind_model.specs.declared.asked.Asked.{Asked}
use Rattle.bind_model.specs.declared.asked.Asked.TheVariants.{Pipe, Join, Mint, Bind, Associate, Attach, Call, Answer, Raw, Take, Close, Notify, Pause, Data}
use Rattle.bind_model.specs.declared.asked.Asked.TheVariants.{Flow as Move, Skip}
use Rattle.bind_model.specs.declared.told.BadWhy.{BadWhy}
use Rattle.bind_model.specs.declared.told.BadWhy.TheVariants as bads
use Rattle.bind_model.specs.declared.told.Noted.TheVariants as noted
use Rattle.bind_model.specs.declared.told.Why.TheVariants.{NoName, Disconnected, Elsewhere, BadSize}
use Rattle.bind_model.specs.declared.told.Told.TheVariants.{Made, Dropped, Control, Bad, Closed, No}
use Rattle.bind_model.specs.declared.event.Event.{Event}
use Rattle.handle_table.specs.Things.{same, same_end, has, seq_of, times}
use Rattle.bind_model.specs.Wire.{Wire, Header, Content}
use Rattle.bind_model.specs.Notices.{query_pends}
use Rattle.bind_model.specs.Machine.{made, peer, is_gone, out, endpoint_at, unread, is_closed, first_strange, carried, carried_behind, goes_with, goes_behind}
use Rattle.bind_model.specs.Machine.{held_unread, handles_of}
use Rattle.bind_model.specs.Replies.{all_out, called, answered_with, wrote_at, bad, got, got_known, got_asked, judged, at_state, at_endpoint, heard}
use Rattle.bind_model.specs.Replies.{version_of, is_older, controlled, headed, took_front, paused, took, closed_at, closed, is_none, is_asked, is_response}
use Rattle.bind_model.specs.Replies.{first_of, unless, unbound, elsewhere, unpicked, from_id, is_flush, notified, pausing, is_right_size, moved_by, answer}
use Rattle.group_laws.specs.Apart.{seqs_of, seqs_of_pendings, names}
use Rattle.handle_table.proofs.ThingsLemmas.{same-sym, same_end-true}
use Rattle.bind_model.proofs.Counting.{Fits_in, times-append, gather}
use Rattle.bind_model.proofs.Balance.{without_none}
use Rattle.bind_model.proofs.Kept.{Kept, one_own, one_bound, bound_made, made_once}
use Rattle.bind_model.proofs.Moving.{split}
use Rattle.group_laws.proofs.Enough.{spread_enough}
use Rattle.group_laws.proofs.Holding.{AllIn, Holds}
use Rattle.group_laws.proofs.Sides.{Side, side_none, side_one, side_named, side_names, side_more, spread_same}
use Rattle.group_laws.proofs.Agrees.{Agrees, is_mine}
use Rattle.group_laws.proofs.Lists.{unpicked_side}
use Rattle.group_laws.proofs.Outside.{carried_side, behind_side, front_side}
use Rattle.group_laws.proofs.Agreeing.{local_same, at_same}
use Rattle.group_laws.proofs.Reading.{gone_same, unread_same, peer_in, all_out_same, all_pending_same, wrong_pipe_same, wrong_tokens_same, cannot_write_same}
use Rattle.group_laws.proofs.Reading.{asked_same, responder_same, tokens_same, joined_same, pends_same, told_same, paused_same, moved_by_same}

few_less : (p : Thing → Bool) (xs : List Thing) → length (filter p xs) ≤ length xs
few_less p xs = omega (arith, length-filter p xs, count_by-le-length p xs)

module _ (inside : ℕ → Bool) (wire : Wire) (past sub : List Event) (so : Holds inside wire past) (ag : Agrees inside wire past sub) where
  -- ## Writing

  called_same : (seq : SeqId) (y : EndId) (id : ℕ) (s : Outgoing) (o : Option Endpoint) → inside seq.0 ≡ true → inside y.seq ≡ true
      → Side inside true s.handles → AllIn inside seq.0 (seqs_of_pendings s.pendings) → called wire past seq y id s o ≡ called wire sub seq y id s o
  called_same seq y id s None near i hs ps = refl
  called_same seq y id s (Some r) near i hs ps = rw (
    all_out_same inside wire past sub so ag s.handles hs,
    all_pending_same inside wire past sub so ag seq.0 s.pendings near ps,
    gone_same inside wire past sub so ag y i,
    wrong_tokens_same inside wire past sub so ag seq.0 s near ps,
    wrong_pipe_same inside wire past sub so ag y seq.0 s.pendings near ps,
    cannot_write_same inside wire past sub so ag y r.peer_closed s.handles i hs,
    ag.drawn y id i,
  ) refl

  answered_same : (seq : SeqId) (q : ResponderId) (s : Outgoing) (o : Option Endpoint) → inside seq.0 ≡ true → inside q.end.seq ≡ true
      → Side inside true s.handles → AllIn inside seq.0 (seqs_of_pendings s.pendings) → answered_with wire past seq q s o ≡ answered_with wire sub seq q s o
  answered_same seq q s None near i hs ps = refl
  answered_same seq q s (Some r) near i hs ps = rw (
    responder_same inside wire past sub so ag q i,
    all_out_same inside wire past sub so ag s.handles hs,
    all_pending_same inside wire past sub so ag seq.0 s.pendings near ps,
    gone_same inside wire past sub so ag q.end i,
    wrong_tokens_same inside wire past sub so ag seq.0 s near ps,
    wrong_pipe_same inside wire past sub so ag q.end seq.0 s.pendings near ps,
    cannot_write_same inside wire past sub so ag q.end r.peer_closed s.handles i hs,
  ) refl

  wrote_same : (x : Thing) (bytes : List ℕ) (handles : List Thing) → inside (seq_of x) ≡ true → Side inside true handles
      → wrote_at wire past x bytes handles ≡ wrote_at wire sub x bytes handles
  wrote_same (Token t) bytes handles i s = refl
  wrote_same (End x) bytes handles i s = rw (cannot_write_same inside wire past sub so ag x false handles i s) refl

  notified_same : (seq : SeqId) (y : EndId) (notice : Notice) (o : Option Endpoint) → inside y.seq ≡ true
      → notified wire past seq y notice o ≡ notified wire sub seq y notice o
  notified_same seq y notice None i = refl
  notified_same seq y notice (Some r) i = rw (
    gone_same inside wire past sub so ag y i,
    cannot_write_same inside wire past sub so ag y (not (is_flush notice) && r.peer_closed) [] i (side_none inside true),
    told_same inside wire past sub so ag y notice i,
  ) refl

  pausing_same : (seq : SeqId) (b a : EndId) (ob oa : Option Endpoint) → inside b.seq ≡ true → inside a.seq ≡ true
      → pausing past seq b a ob oa ≡ pausing sub seq b a ob oa
  pausing_same seq b a None oa i j = refl
  pausing_same seq b a (Some rb) None i j = refl
  pausing_same seq b a (Some rb) (Some ra) i j = rw (gone_same inside wire past sub so ag b i, gone_same inside wire past sub so ag a j) refl

  -- ## What goes

  carried_same : (y : Thing) → inside (seq_of y) ≡ true → carried wire past y ≡ carried wire sub y
  carried_same (End x) i = ap handles_of (unread_same inside wire past sub so ag x i)
  carried_same (Token t) i = refl

  behind_same : (x : EndId) (y : Thing) → inside (seq_of y) ≡ true → carried_behind wire past x y ≡ carried_behind wire sub x y
  behind_same x (End w) i = ap (λ ms. handles_of (drop (if same_end x w then 1 else 0) ms)) (unread_same inside wire past sub so ag w i)
  behind_same x (Token t) i = refl

  module _ (k : Kept wire sub) where
    few_made : length (made sub) ≤ length (made past) + length {A = Thing} []
    few_made = rw (← ag.made) (omega (arith, few_less (is_mine inside) (made past)))

    goes_same : (xs : List Thing) → Side inside true xs → Fits_in (carried wire sub) (made sub) k.distinct [] xs
        → goes_with wire past xs ≡ goes_with wire sub xs
    goes_same xs s fits =
        spread_same inside (carried wire past) (carried wire sub) true carried_same (carried_side inside wire past so true) (length (made past)) xs s
        ∙ spread_enough (carried wire sub) (made sub) k.distinct (length (made past)) (length (made sub)) [] xs fits few_made (omega arith)

    after_same : (y : EndId) (xs : List Thing) → Side inside true xs → Fits_in (carried_behind wire sub y) (made sub) k.distinct [] xs
        → goes_behind wire past y xs ≡ goes_behind wire sub y xs
    after_same y xs s fits =
        spread_same inside (carried_behind wire past y) (carried_behind wire sub y) true (behind_same y) (behind_side inside wire past so true y)
        (length (made past)) xs s
        ∙ spread_enough (carried_behind wire sub y) (made sub) k.distinct (length (made past)) (length (made sub)) [] xs fits few_made (omega arith)

    fits_bound : (y : EndId) (id : ℕ) (r : Endpoint) → endpoint_at wire sub y id ≡ Some r → is_gone sub y ≡ false
        → Fits_in (carried wire sub) (made sub) k.distinct [] (End y ∷ [])
    fits_bound y id r e g z = rw (without_none (made sub)) (omega (arith, k.one z, one_bound wire sub k y (k.endpoints y id r e) g z))

    fits_out : (x : Thing) → has (out sub) x ≡ true → Fits_in (carried wire sub) (made sub) k.distinct [] (x ∷ [])
    fits_out x o z = rw (without_none (made sub)) (omega (arith, k.one z, one_own wire sub k x o z))

    end_same : (y : EndId) (id : ℕ) (r : Endpoint) → inside y.seq ≡ true → endpoint_at wire sub y id ≡ Some r → is_gone sub y ≡ false
        → goes_with wire past (End y ∷ []) ≡ goes_with wire sub (End y ∷ [])
    end_same y id r i e g = goes_same (End y ∷ []) (side_one inside true (End y) i) (fits_bound y id r e g)

    -- ## Taking

    module _ (seq : SeqId) (y : EndId) (main : Endpoint) (m : Message) (rest : List Message) (i : inside y.seq ≡ true)
        (e : endpoint_at wire sub y 0 ≡ Some main) (g : is_gone sub y ≡ false) (u : unread wire sub y ≡ m ∷ rest) where
      handles_in : Side inside true m.handles
      handles_in = front_side inside wire past so true y m rest (unread_same inside wire past sub so ag y i ∙ u) i

      read_counts : (z : Thing) → times z (held_unread wire sub) ≡ times z (flat_map (carried_behind wire sub y) (made sub)) + times z m.handles
      read_counts z =
          gather (carried_behind wire sub y) (carried wire sub) (End y) z (times z m.handles) (made sub) each
          ∙ rw (made_once wire sub k (End y) (bound_made wire sub k (End y) (k.endpoints y 0 main e))) (omega arith)
        where
          go : (x : EndId) (b : Bool) → same_end y x ≡ b → times z (handles_of (unread wire sub x))
              ≡ times z (handles_of (drop (if b then 1 else 0) (unread wire sub x))) + (if b then times z m.handles else 0)
          go x true e = rw (← same_end-true y x e, u) (omega (arith, times-append z m.handles (handles_of rest)))
          go x false e = omega arith

          each : (w : Thing) → times z (carried wire sub w) ≡ times z (carried_behind wire sub y w) + (if same w (End y) then times z m.handles else 0)
          each (End x) = rw (same-sym (End x) (End y)) (go x (same_end y x) refl)
          each (Token t) = refl

      fits_read : (xs : List Thing) → ((z : Thing) → times z xs ≤ times z m.handles) → Fits_in (carried_behind wire sub y) (made sub) k.distinct [] xs
      fits_read xs few z = rw (without_none (made sub)) (omega (arith, k.one z, read_counts z, few z))

      bad_same : (why : BadWhy) → bad wire past y why ≡ bad wire sub y why
      bad_same why = ap (λ xs. Bad why xs) (end_same y 0 main i e g)

      dropped_same : (id : ℕ) → Dropped id (goes_behind wire past y m.handles) ≡ Dropped id (goes_behind wire sub y m.handles)
      dropped_same id = ap (λ xs. Dropped id xs) (after_same y m.handles handles_in (fits_read m.handles (λ z. omega arith)))

      got_same : (h : Header) (c : Content) → got wire past y m h c ≡ got wire sub y m h c
      got_same h c =
          let goes : goes_behind wire past y (unpicked c.handles 0 m.handles)
          ≡ goes_behind wire sub y (unpicked c.handles 0 m.handles) = after_same y (unpicked c.handles 0 m.handles)
          (unpicked_side inside true c.handles 0 m.handles handles_in)
          (fits_read (unpicked c.handles 0 m.handles) (λ z. omega (arith, split c.handles 0 m.handles z))) in
          rw goes refl

      known_same : (h : Header) (c : Content) (o : Option ℕ) → got_known wire past y m h c o ≡ got_known wire sub y m h c o
      known_same h c (Some id) = bad_same (bads.StrangeId id)
      known_same h c None = got_same h c

      got_asked_same : (h : Header) (r : Endpoint) (c : Content) → got_asked wire past y m h r c ≡ got_asked wire sub y m h r c
      got_asked_same h r c =
          rw (asked_same inside wire past sub so ag y h.id c.request c.target.method i, ag.endpoints y i)
          (go (is_response c.target.side && (r.peer_closed || not (is_asked sub y h.id c.request c.target.method))))
        where
          go : (b : Bool)
              → (if b then bad wire past y (bads.Unasked c.request) else got_known wire past y m h c (first_strange (endpoint_at wire sub y) [] h.ids))
              ≡ (if b then bad wire sub y (bads.Unasked c.request) else got_known wire sub y m h c (first_strange (endpoint_at wire sub y) [] h.ids))
          go true = bad_same (bads.Unasked c.request)
          go false = known_same h c (first_strange (endpoint_at wire sub y) [] h.ids)

      judged_same : (h : Header) (r : Endpoint) (o : Result Content Fault) → judged wire past y m h r o ≡ judged wire sub y m h r o
      judged_same h r (Err fault) = bad_same (bads.Message fault)
      judged_same h r (Ok c) = got_asked_same h r c

      state_same : (h : Header) (r : Endpoint) (st : State) → at_state wire past seq y m h r st ≡ at_state wire sub seq y m h r st
      state_same h r states.Closed = dropped_same h.id
      state_same h r states.Pending = refl
      state_same h r (states.Bound t) = go (t.0 == seq.0)
        where
          go : (b : Bool) → (if b then judged wire past y m h r (wire.stands r.side r.interface m.bytes (length m.handles)) else No (Elsewhere t))
              ≡ (if b then judged wire sub y m h r (wire.stands r.side r.interface m.bytes (length m.handles)) else No (Elsewhere t))
          go true = judged_same h r (wire.stands r.side r.interface m.bytes (length m.handles))
          go false = refl

      row_same : (h : Header) (o : Option Endpoint) → at_endpoint wire past seq y m h o ≡ at_endpoint wire sub seq y m h o
      row_same h None = dropped_same h.id
      row_same h (Some r) = state_same h r r.state

      version_same : (id v : ℕ) → heard wire past y (says.Version id v) ≡ heard wire sub y (says.Version id v)
      version_same id v =
          ap (λ b. if b then Control (noted.Version id v) else bad wire past y (bads.Unasked 0)) (pends_same inside wire past sub so ag y id i)
          ∙ go (query_pends sub y id (endpoint_at wire sub y id))
        where
          go : (b : Bool) → (if b then Control (noted.Version id v) else bad wire past y (bads.Unasked 0))
              ≡ (if b then Control (noted.Version id v) else bad wire sub y (bads.Unasked 0))
          go true = refl
          go false = bad_same (bads.Unasked 0)

      require_same : (id v : ℕ) → heard wire past y (says.Require id v) ≡ heard wire sub y (says.Require id v)
      require_same id v =
          ap (λ o. if is_older (version_of wire o) v then bad wire past y (bads.TooOld v) else Control (noted.Required id v))
          (at_same inside wire past sub ag y id i) ∙ go (is_older (version_of wire (endpoint_at wire sub y id)) v)
        where
          go : (b : Bool) → (if b then bad wire past y (bads.TooOld v) else Control (noted.Required id v))
              ≡ (if b then bad wire sub y (bads.TooOld v) else Control (noted.Required id v))
          go true = bad_same (bads.TooOld v)
          go false = refl

      said_same : (c : ControlType) → heard wire past y c ≡ heard wire sub y c
      said_same (says.Closed id) = refl
      said_same (says.Query id) = ap (λ o. Control (noted.Queried id (version_of wire o))) (at_same inside wire past sub ag y id i)
      said_same (says.Version id v) = version_same id v
      said_same (says.Require id v) = require_same id v
      said_same (says.Flush n) = refl

      controlled_same : (o : Result ControlType Fault) → controlled wire past y m o ≡ controlled wire sub y m o
      controlled_same (Err fault) = bad_same (bads.Message fault)
      controlled_same (Ok c) = go (is_none m.handles)
        where
          go : (b : Bool) → (if b then heard wire past y c else bad wire past y (bads.Message (record { kind = IllegalHandle; at = 0 })))
              ≡ (if b then heard wire sub y c else bad wire sub y (bads.Message (record { kind = IllegalHandle; at = 0 })))
          go true = said_same c
          go false = bad_same (bads.Message (record { kind = IllegalHandle; at = 0 }))

      headed_same : (o : Result Header Fault) → headed wire past seq y m o ≡ headed wire sub seq y m o
      headed_same (Err fault) = bad_same (bads.Message fault)
      headed_same (Ok h) = go (h.id == CONTROL_ID)
        where
          go : (b : Bool) → (if b then controlled wire past y m (wire.says m.bytes) else at_endpoint wire past seq y m h (endpoint_at wire past y h.id))
              ≡ (if b then controlled wire sub y m (wire.says m.bytes) else at_endpoint wire sub seq y m h (endpoint_at wire sub y h.id))
          go true = controlled_same (wire.says m.bytes)
          go false = row_same h (endpoint_at wire past y h.id)
              ∙ ap (λ o. at_endpoint wire sub seq y m h o) (at_same inside wire past sub ag y h.id i)

    front_same : (seq : SeqId) (y : EndId) (main : Endpoint) → inside y.seq ≡ true → endpoint_at wire sub y 0 ≡ Some main → is_gone sub y ≡ false
        → (ms : List Message) → unread wire sub y ≡ ms → took_front wire past seq y ms ≡ took_front wire sub seq y ms
    front_same seq y main i e g [] u = rw (ag.peers y i, gone_same inside wire past sub so ag (peer sub y) (peer_in inside wire past sub so ag y i)) refl
    front_same seq y main i e g (m ∷ rest) u = headed_same seq y main m rest i e g u (wire.header m.bytes)

    took_same : (seq : SeqId) (y : EndId) → inside y.seq ≡ true → took wire past seq y ≡ took wire sub seq y
    took_same seq y i = rw (
      unread_same inside wire past sub so ag y i,
      at_same inside wire past sub ag y 0 i,
      gone_same inside wire past sub so ag y i,
      paused_same inside wire past sub so ag y i,
    ) (go (endpoint_at wire sub y 0) (is_gone sub y) (unread wire sub y) refl refl refl)
      where
        go : (o : Option Endpoint) (g : Bool) (ms : List Message) → endpoint_at wire sub y 0 ≡ o → is_gone sub y ≡ g → unread wire sub y ≡ ms
            → first_of (unless (is_some o) NoName ∷ unless (not g) Disconnected ∷ paused sub y ∷ []) (took_front wire past seq y ms)
            ≡ first_of (unless (is_some o) NoName ∷ unless (not g) Disconnected ∷ paused sub y ∷ []) (took_front wire sub seq y ms)
        go None g ms e f u = refl
        go (Some r) true ms e f u = refl
        go (Some r) false ms e f u = ap (λ t. first_of (paused sub y ∷ []) t) (front_same seq y r i e f ms u)

    -- ## Closing

    closed_at_same : (seq : SeqId) (y : EndId) (id : ℕ) → inside y.seq ≡ true → (o : Option Endpoint) → endpoint_at wire sub y id ≡ o
        → closed_at wire past seq y id o ≡ closed_at wire sub seq y id o
    closed_at_same seq y id i None e = refl
    closed_at_same seq y id i (Some r) e = rw (gone_same inside wire past sub so ag y i) (go (is_gone sub y) refl)
      where
        go : (g : Bool) → is_gone sub y ≡ g
            → first_of (unless (not (g || is_closed r)) Disconnected ∷ unbound id r ∷ elsewhere seq r ∷ [])
            (Closed (if id == 0 then goes_with wire past (End y ∷ []) else []))
            ≡ first_of (unless (not (g || is_closed r)) Disconnected ∷ unbound id r ∷ elsewhere seq r ∷ [])
            (Closed (if id == 0 then goes_with wire sub (End y ∷ []) else []))
        go true f = refl
        go false f = ap (λ xs. first_of (unless (not (is_closed r)) Disconnected ∷ unbound id r ∷ elsewhere seq r ∷ []) (Closed (if id == 0 then xs else [])))
            (end_same y id r i e f)

    closed_same : (seq : SeqId) (thing : Closing) → inside seq.0 ≡ true → AllIn inside seq.0 (names (Close thing))
        → closed wire past seq thing ≡ closed wire sub seq thing
    closed_same seq (closings.Handle x) near h = rw (ag.out x (h.0 ∙ near)) (go (has (out sub) x) refl)
      where
        go : (b : Bool) → has (out sub) x ≡ b
            → first_of (unless b NoName ∷ []) (Closed (goes_with wire past (x ∷ []))) ≡ first_of (unless b NoName ∷ []) (Closed (goes_with wire sub (x ∷ [])))
        go false e = refl
        go true e = ap (λ xs. Closed xs) (goes_same (x ∷ []) (side_one inside true x (h.0 ∙ near)) (fits_out x e))
    closed_same seq (closings.Pending p) near h = rw (ag.pendings p (h.0 ∙ near)) refl
    closed_same seq (closings.Responder r) near h = rw (responder_same inside wire past sub so ag r (h.0 ∙ near)) refl
    closed_same seq (closings.Endpoint y id) near h =
        ap (λ o. closed_at wire past seq y id o) (at_same inside wire past sub ag y id (h.0 ∙ near))
        ∙ closed_at_same seq y id (h.0 ∙ near) (endpoint_at wire sub y id) refl

    -- ## Every command

    behind_all : (s : ℕ) (xs : List Thing) (ts : List ℕ) → AllIn inside s (seqs_of xs ++ ts) → AllIn inside s ts
    behind_all s [] ts h = h
    behind_all s (x ∷ xs) ts h = behind_all s xs ts h.1

    pub answer_same : (seqs : ℕ) (seq : SeqId) (asked : Asked) → inside seq.0 ≡ true → AllIn inside seq.0 (names asked)
        → answer wire seqs past seq asked ≡ answer wire seqs sub seq asked
    answer_same seqs seq Pipe near h = joined_same inside wire past sub so ag seq.0 seq.0 near near
    answer_same seqs seq (Join t) near h =
        ap (λ d. first_of (unless (nat_lt t.0 seqs) NoName ∷ []) d) (joined_same inside wire past sub so ag seq.0 t.0 near (h.0 ∙ near))
    answer_same seqs seq (Mint sort) near h =
        ap (λ n. Made (Token (record { seq = seq.0; serial = n }) ∷ [])) (tokens_same inside wire past sub so ag seq.0 near)
    answer_same seqs seq (Bind x side interface) near h = rw (ag.out x (h.0 ∙ near)) refl
    answer_same seqs seq (Associate y side interface) near h = rw
        (at_same inside wire past sub ag y 0 (h.0 ∙ near), gone_same inside wire past sub so ag y (h.0 ∙ near), ag.associated y (h.0 ∙ near)) refl
    answer_same seqs seq (Attach p t) near h = rw (
      ag.pendings p (h.0 ∙ near),
      gone_same inside wire past sub so ag p.end (h.0 ∙ near),
      at_same inside wire past sub ag p.end p.id (h.0 ∙ near),
      local_same inside wire past sub ag p (h.0 ∙ near),
    ) refl
    answer_same seqs seq (Call y id s) near h =
        called_same seq y id s (endpoint_at wire past y id) near (h.0 ∙ near) (side_named inside seq.0 true s.handles (seqs_of_pendings s.pendings) near h.1)
        (behind_all seq.0 s.handles (seqs_of_pendings s.pendings) h.1)
        ∙ ap (λ o. called wire sub seq y id s o) (at_same inside wire past sub ag y id (h.0 ∙ near))
    answer_same seqs seq (Answer r s) near h =
        answered_same seq r s (endpoint_at wire past r.end r.id) near (h.0 ∙ near)
        (side_named inside seq.0 true s.handles (seqs_of_pendings s.pendings) near h.1)
        (behind_all seq.0 s.handles (seqs_of_pendings s.pendings) h.1)
        ∙ ap (λ o. answered_with wire sub seq r s o) (at_same inside wire past sub ag r.end r.id (h.0 ∙ near))
    answer_same seqs seq (Raw x bytes handles) near h =
        let i : inside (seq_of x) ≡ true = h.0 ∙ near in
        let own : Side inside true handles = side_names inside seq.0 true handles near h.1 in
        ap (λ b. first_of (unless b NoName ∷ []) (wrote_at wire past x bytes handles))
        (all_out_same inside wire past sub so ag (x ∷ handles) (side_more inside true (x ∷ []) handles (side_one inside true x i) own))
        ∙ ap (λ d. first_of (unless (all_out sub (x ∷ handles)) NoName ∷ []) d) (wrote_same x bytes handles i own)
    answer_same seqs seq (Take y) near h = took_same seq y (h.0 ∙ near)
    answer_same seqs seq (Close thing) near h = closed_same seq thing near h
    answer_same seqs seq (Notify y notice) near h =
        notified_same seq y notice (endpoint_at wire past y (from_id notice)) (h.0 ∙ near)
        ∙ ap (λ o. notified wire sub seq y notice o) (at_same inside wire past sub ag y (from_id notice) (h.0 ∙ near))
    answer_same seqs seq (Pause b a n) near h =
        pausing_same seq b a (endpoint_at wire past b 0) (endpoint_at wire past a 0) (h.0 ∙ near) (h.1.0 ∙ near)
        ∙ (ap (λ o. pausing sub seq b a o (endpoint_at wire past a 0)) (at_same inside wire past sub ag b 0 (h.0 ∙ near))
        ∙ ap (λ o. pausing sub seq b a (endpoint_at wire sub b 0) o) (at_same inside wire past sub ag a 0 (h.1.0 ∙ near)))
    answer_same seqs seq (Data size) near h =
        ap (λ n. first_of (unless (is_right_size size) (BadSize size) ∷ [])
        (Made (Token (record { seq = seq.0; serial = n }) ∷ Token (record { seq = seq.0; serial = n + 1 }) ∷ [])))
        (tokens_same inside wire past sub so ag seq.0 near)
    answer_same seqs seq (Move x f) near h =
        let i : inside (seq_of x) ≡ true = h.0 ∙ near in
        ap (λ b. first_of (unless b NoName ∷ []) (moved_by past x f)) (ag.out x i)
        ∙ ap (λ d. first_of (unless (has (out sub) x) NoName ∷ []) d) (moved_by_same inside wire past sub so ag x f i)
    answer_same seqs seq (Skip line) near h = refl
