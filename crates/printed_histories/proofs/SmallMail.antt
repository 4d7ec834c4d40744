-- What small events put into mail and tables, and how many numbers they used.
use Rattle.std.proofs.Common.{◌≡◌, ◌<◌, ◌≤◌, ℕ, suc, ◌+◌, ◌*◌, ◌^◌, Bool, true, false, List, [], ◌∷◌, length, drop, refl, ap, ◌∙◌, arith}
use Rattle.std.specs.Prelude.{Option, Some, None, if◌then◌else◌, not, ◌&&◌, ◌||◌, ◌==◌, map, filter}
use Rattle.std.specs.Option.{option_map}
use Rattle.std.proofs.lemmas.List.{length-append}
use Rattle.std.proofs.lemmas.List.Sums.{count_by-le-length}
use Rattle.mj_base.specs.declared.ids.EndId.{EndId}
use Rattle.mj_base.specs.declared.ids.SeqId.{SeqId}
use Rattle.handle_table.specs.declared.thing.Thing.{Thing}
use Rattle.handle_table.specs.Things.{same_end, is_end, seq_of}
use Rattle.message_pipe.specs.declared.message.Message.{Message}
use Rattle.wire_encoder.specs.declared.endpoint.EndpointSide.{EndpointSide}
use Rattle.wire_encoder.specs.declared.endpoint.WantedEndpoint.{WantedEndpoint}
use Rattle.wire_model.specs.Trees.{Tree}
use Rattle.wire_model.specs.declared.target.Target.{Target}
use Rattle.bind_model.specs.declared.asked.Asked.{Asked}
use Rattle.bind_model.specs.declared.asked.Asked.TheVariants.{Bind, Associate, Attach, Call, Answer, Raw, Take, Close, Notify, Pause}
use Rattle.bind_model.specs.declared.asked.Closing.TheVariants as closings
use Rattle.bind_model.specs.declared.asked.Notice.TheVariants.{Flush}
use Rattle.control_bytes.specs.declared.control.Control.{Control as ControlType}
use Rattle.control_bytes.specs.declared.control.Control.TheVariants as controls
use Rattle.bind_model.specs.declared.endpoint.Endpoint.{Endpoint}
use Rattle.bind_model.specs.declared.endpoint.State.TheVariants as states
use Rattle.bind_model.specs.declared.event.Event.{Event}
use Rattle.bind_model.specs.declared.limits.TheConstants.{REMOTE_IDS}
use Rattle.bind_model.specs.declared.told.Told.{Told}
use Rattle.bind_model.specs.declared.told.Noted.TheVariants as noted
use Rattle.bind_model.specs.declared.told.Notified.TheVariants.{Flushing}
use Rattle.bind_model.specs.declared.told.Told.TheVariants.{Made, Bound, Associated, Attached, Sent, Wrote, Taken, Dropped, Control, Closed, Notified as Informed, Pausing}
use Rattle.bind_model.specs.Notices.{Wait, first_unmet, flushed, flushes, is_met, waits, waits_by}
use Rattle.bind_model.specs.Machine.{Endpoints, Entry, associated, made, made_by, peer, is_gone, is_local, is_peer_closed, is_remote, is_strange, written, endpoint_at, unread, consumed, puts, lands, control_of, emits, changes, enters, enters_from, entries_of, entry_in, endpoint_named, closed_endpoint, pending_as, named_in, content_at, ids_in, closed_ids, bound_on, with_state, with_peer_closed, front_of}
use Rattle.bind_model.specs.Replies.{Drawn, drawn, draws, legal, next_id, pause_of, paused}
use Rattle.bind_model.specs.Wire.{Wire, Named}
use Rattle.bind_model.proofs.TurnOf.{associated_few}
use Rattle.history_reader.specs.Printable.{IsSmall, IsSequence, IsEnd, IsThing, AreAll}
use Rattle.printed_histories.proofs.SmallLists.{all_both, all_dropped}
use Rattle.printed_histories.proofs.SmallPipes.{small_pipes}
use Rattle.printed_histories.proofs.SmallReplies.{IsWithin, IsSmallPast}
use Rattle.printed_histories.proofs.SmallTests.{IsSmallTest}
use Rattle.printed_histories.specs.Asked.{IsSmallAsked}
use Rattle.printed_histories.proofs.SmallSaid.{IsSmallTold, IsSmallEvent, IsShort, IsFine, IsFineMessage, IsSmallWire}

-- ## What was made, and how many requests were sent

made_by_small : (told : Told) → IsSmallTold told → AreAll IsThing (made_by told) × (length (made_by told) ≤ 2)
made_by_small (Made things) i = i
made_by_small told i = (tt, omega arith)

draws_one : (told : Told) (asked : Asked) (x : EndId) (id : ℕ) → length (draws told asked x id) ≤ 1
draws_one (Sent request bytes) (Call y n o) x id = go (same_end y x && (n == id) && not (request == 0))
  where
    go : (b : Bool) → length {A = Drawn} (if b then record { request = request; method = o.target.method } ∷ [] else []) ≤ 1
    go true = omega arith
    go false = omega arith
draws_one told asked x id = omega arith

pub few_drawn : (past : List Event) (x : EndId) (id : ℕ) → length (drawn past x id) ≤ length past
few_drawn [] x id = omega arith
few_drawn (event ∷ past) x id = omega (
  arith,
  few_drawn past x id,
  draws_one event.told event.asked x id,
  length-append (drawn past x id) (draws event.told event.asked x id),
)

-- how many flushes were written
flushes_one : (told : Told) (asked : Asked) (x : EndId) → length (flushes told asked x) ≤ 1
flushes_one (Informed (Flushing k)) (Notify y Flush) x = go (same_end y x)
  where
    go : (b : Bool) → length {A = ℕ} (if b then k ∷ [] else []) ≤ 1
    go true = omega arith
    go false = omega arith
flushes_one told asked x = omega arith

few_flushed : (past : List Event) (x : EndId) → length (flushed past x) ≤ length past
few_flushed [] x = omega arith
few_flushed (event ∷ past) x =
    omega (arith, few_flushed past x, flushes_one event.told event.asked x, length-append (flushed past x) (flushes event.told event.asked x))

-- ## Messages

module _ (F : Target → Tree → Type 0) (wire : Wire) (w : IsSmallWire F wire) where
  lands_fine : (past : List Event) (y : EndId) (bytes : List ℕ) (handles : List Thing) (x : EndId) → IsFine bytes
      → AreAll IsFineMessage (lands past y bytes handles x)
  lands_fine past y bytes handles x fine = go (same_end (peer past y) x)
    where
      go : (b : Bool) → AreAll IsFineMessage (if b then record { bytes = bytes; handles = handles; emitted = false } ∷ [] else [])
      go true = (fine, tt)
      go false = tt

  emits_fine : (past : List Event) (y : EndId) (endpoints : Endpoints) (control : ℕ → ControlType) (ids : List ℕ) (x : EndId)
      → AreAll IsFineMessage (emits wire past y endpoints control ids x)
  emits_fine past y endpoints control ids x = go (same_end (peer past y) x && not (is_gone past x))
    where
      each : (ns : List ℕ) → AreAll IsFineMessage (map (λ (id : ℕ). record { bytes = wire.control (control id); handles = []; emitted = true }) ns)
      each [] = tt
      each (n ∷ ns) = (w.control (control n), each ns)

      go : (b : Bool) → AreAll IsFineMessage (if b
          then map (λ (id : ℕ). record { bytes = wire.control (control id); handles = []; emitted = true })
          (filter (λ id. not (is_peer_closed (endpoints id))) ids)
          else [])
      go true = each (filter (λ id. not (is_peer_closed (endpoints id))) ids)
      go false = tt

  unless_fine : (b : Bool) (ms : List Message) → AreAll IsFineMessage ms → AreAll IsFineMessage (if b then [] else ms)
  unless_fine true ms a = tt
  unless_fine false ms a = a

  puts_fine : (past : List Event) (told : Told) (asked : Asked) → IsSmallAsked F asked → IsSmallTold told → IsShort asked told → (x : EndId)
      → AreAll IsFineMessage (puts wire past (written wire past) (endpoint_at wire past) told asked x)
  puts_fine past (Sent request bytes) (Call y id o) i t s x = lands_fine past y bytes o.handles x t.1
  puts_fine past (Sent request bytes) (Answer r o) i t s x = lands_fine past r.end bytes o.handles x t.1
  puts_fine past (Wrote z) (Raw y bytes handles) i t s x = lands_fine past z bytes handles x (i.1, s)
  puts_fine past (Taken g) (Take y) i t s x = emits_fine past y (endpoint_at wire past y) controls.Closed
      (closed_ids (enters wire past y (written wire past y) (endpoint_at wire past y) (Taken g))) x
  puts_fine past (Dropped id gone) (Take y) i t s x = emits_fine past y (endpoint_at wire past y) controls.Closed
      (closed_ids (enters wire past y (written wire past y) (endpoint_at wire past y) (Dropped id gone))) x
  puts_fine past (Closed gone) (Close (closings.Endpoint y id)) i t s x =
      unless_fine (id == 0) (emits wire past y (endpoint_at wire past y) controls.Closed (id ∷ []) x)
      (emits_fine past y (endpoint_at wire past y) controls.Closed (id ∷ []) x)
  puts_fine past (Closed gone) (Close (closings.Pending p)) i t s x =
      unless_fine (is_gone past p.end || is_local past p) (emits wire past p.end (endpoint_at wire past p.end) controls.Closed (p.id ∷ []) x)
      (emits_fine past p.end (endpoint_at wire past p.end) controls.Closed (p.id ∷ []) x)
  puts_fine past (Control (noted.Queried id (Some v))) (Take y) i t s x =
      emits_fine past y (endpoint_at wire past y) (λ (n : ℕ). controls.Version n v) (id ∷ []) x
  puts_fine past (Control (noted.Queried id None)) (Take y) i t s x = tt
  puts_fine past (Control (noted.Closed id)) (Take y) i t s x = tt
  puts_fine past (Control (noted.Version id v)) (Take y) i t s x = tt
  puts_fine past (Control (noted.Required id v)) (Take y) i t s x = tt
  puts_fine past (Control (noted.Flushed k)) (Take y) i t s x = tt
  puts_fine past (Informed told) (Notify y notice) i t s x =
      lands_fine past y (wire.control (control_of notice told)) [] x (w.control (control_of notice told))
  puts_fine past told asked i t s x = tt

  written_fine : (past : List Event) → AreAll (IsSmallEvent F) past → (x : EndId) → AreAll IsFineMessage (written wire past x)
  written_fine [] a x = tt
  written_fine (event ∷ past) a x = all_both IsFineMessage (written wire past x)
      (puts wire past (written wire past) (endpoint_at wire past) event.told event.asked x)
      (written_fine past a.1 x) (puts_fine past event.told event.asked a.0.1 a.0.2 a.0.3 x)

  unread_fine : (past : List Event) → AreAll (IsSmallEvent F) past → (x : EndId) → AreAll IsFineMessage (unread wire past x)
  unread_fine past a x = go (is_gone past x)
    where
      go : (b : Bool) → AreAll IsFineMessage (if b then [] else drop (consumed past x) (written wire past x))
      go true = tt
      go false = all_dropped IsFineMessage (consumed past x) (written wire past x) (written_fine past a x)

-- ## Endpoints

either_within : (b : Bool) (new old : Option Endpoint) → IsWithin new → IsWithin old → IsWithin (if b then new else old)
either_within true new old n o = n
either_within false new old n o = o

new_within : (seq : SeqId) (side : EndpointSide) (interface : ℕ) → IsSequence seq → IsWithin (Some (bound_on seq side interface))
new_within seq side interface within r t e f =
    let same : bound_on seq side interface ≡ r = cc in
    let state : states.Bound seq ≡ states.Bound t = ap (λ (q : Endpoint). q.state) same ∙ f in
    let who : seq ≡ t = cc in
    rw (← who) within

attached_within : (seq : SeqId) (o : Option Endpoint) → IsSequence seq → IsWithin (option_map (with_state (states.Bound seq)) o)
attached_within seq None within r t e f = absurd cc
attached_within seq (Some q) within r t e f =
    let same : with_state (states.Bound seq) q ≡ r = cc in
    let state : states.Bound seq ≡ states.Bound t = ap (λ (p : Endpoint). p.state) same ∙ f in
    let who : seq ≡ t = cc in
    rw (← who) within

closed_within : (o : Option Endpoint) → IsWithin (option_map (with_state states.Closed) o)
closed_within None r t e f = absurd cc
closed_within (Some q) r t e f =
    let same : with_state states.Closed q ≡ r = cc in
    let state : states.Closed ≡ states.Bound t = ap (λ (p : Endpoint). p.state) same ∙ f in
    absurd cc

marked_within : (o : Option Endpoint) → IsWithin o → IsWithin (option_map with_peer_closed o)
marked_within None w r t e f = absurd cc
marked_within (Some q) w r t e f =
    let same : with_peer_closed q ≡ r = cc in
    w q t refl (ap (λ (p : Endpoint). p.state) same ∙ f)

-- an endpoint that comes with a message is bound nowhere yet
shut_within : IsWithin (Some closed_endpoint)
shut_within r t e f =
    let same : closed_endpoint ≡ r = cc in
    let state : states.Closed ≡ states.Bound t = ap (λ (q : Endpoint). q.state) same ∙ f in
    absurd cc

waiting_within : (wanted : WantedEndpoint) → IsWithin (Some (pending_as wanted))
waiting_within wanted r t e f =
    let same : pending_as wanted ≡ r = cc in
    let state : states.Pending ≡ states.Bound t = ap (λ (q : Endpoint). q.state) same ∙ f in
    absurd cc

named_within : (named : List Named) (n : ℕ) → IsWithin (Some (endpoint_named named n))
named_within [] n = shut_within
named_within (m ∷ named) n = go (m.index == n) (named_within named n)
  where
    go : (b : Bool) → IsWithin (Some (endpoint_named named n)) → IsWithin (Some (if b then pending_as m.endpoint else endpoint_named named n))
    go true rest = waiting_within m.endpoint
    go false rest = rest

-- the endpoint of an entry is bound on a sequence of its width, if it is bound
abbrev IsEntered : Entry → Type 0
IsEntered e = IsWithin (Some e.endpoint)

entries_within : (endpoints : Endpoints) (named : List Named) (n : ℕ) (earlier ids : List ℕ) → AreAll IsEntered (entries_of endpoints named n earlier ids)
entries_within endpoints named n earlier [] = tt
entries_within endpoints named n earlier (id ∷ ids) = go (is_strange endpoints earlier id) (entries_within endpoints named (suc n) (id ∷ earlier) ids)
  where
    go : (b : Bool) → AreAll IsEntered (entries_of endpoints named (suc n) (id ∷ earlier) ids)
        → AreAll IsEntered (if b then entries_of endpoints named (suc n) (id ∷ earlier) ids
        else (record { id = id; endpoint = endpoint_named named n } ∷ entries_of endpoints named (suc n) (id ∷ earlier) ids))
    go true rest = rest
    go false rest = (named_within named n, rest)

entry_within : (entries : List Entry) (id : ℕ) (before : Option Endpoint) → AreAll IsEntered entries → IsWithin before → IsWithin (entry_in entries id before)
entry_within [] id before a w = w
entry_within (e ∷ entries) id before a w =
    either_within (e.id == id) (Some e.endpoint) (entry_in entries id before) a.0 (entry_within entries id before a.1 w)

module _ (F : Target → Tree → Type 0) (wire : Wire) where
  enters_within : (past : List Event) (y : EndId) (told : Told)
      → AreAll IsEntered (enters wire past y (written wire past y) (endpoint_at wire past y) told)
  enters_within past y told = go told (front_of (unread wire past y))
    where
      go : (told : Told) (o : Option Message) → AreAll IsEntered (enters_from wire (endpoint_at wire past y) told o)
      go told None = tt
      go (Taken g) (Some m) =
          entries_within (endpoint_at wire past y) (named_in (content_at wire (endpoint_at wire past y g.id) m)) 0 [] (ids_in wire m)
      go told (Some m) = entries_within (endpoint_at wire past y) [] 0 [] (ids_in wire m)

  take_within : (past : List Event) (told : Told) (y x : EndId) (id : ℕ) → IsWithin (endpoint_at wire past x id)
      → IsWithin (if same_end y x then entry_in (enters wire past y (written wire past y) (endpoint_at wire past y) told) id (endpoint_at wire past x id)
      else endpoint_at wire past x id)
  take_within past told y x id v =
      either_within (same_end y x)
      (entry_in (enters wire past y (written wire past y) (endpoint_at wire past y) told) id (endpoint_at wire past x id))
      (endpoint_at wire past x id)
      (entry_within (enters wire past y (written wire past y) (endpoint_at wire past y) told) id (endpoint_at wire past x id)
      (enters_within past y told) v) v

  step_within : (past : List Event) (seq : SeqId) → IsSequence seq → (told : Told) (asked : Asked) → IsSmallAsked F asked
      → (x : EndId) (id : ℕ) → IsWithin (endpoint_at wire past x id)
      → IsWithin (changes wire past (written wire past) (endpoint_at wire past) seq told asked x id)
  step_within past seq s (Bound z) (Bind y side interface) i x id v =
      either_within (same_end z x && (0 == id)) (Some (bound_on seq side interface)) (endpoint_at wire past x id) (new_within seq side interface s) v
  step_within past seq s (Associated q) (Associate y side interface) i x id v =
      either_within (same_end q.end x && (q.id == id)) (Some (bound_on seq side interface)) (endpoint_at wire past x id) (new_within seq side interface s) v
  step_within past seq s (Attached n) (Attach q t) i x id v =
      either_within (same_end q.end x && (q.id == id)) (option_map (with_state (states.Bound t)) (endpoint_at wire past x id)) (endpoint_at wire past x id)
      (attached_within t (endpoint_at wire past x id) i.1) v
  step_within past seq s (Taken g) (Take y) i x id v = take_within past (Taken g) y x id v
  step_within past seq s (Dropped n gone) (Take y) i x id v = take_within past (Dropped n gone) y x id v
  step_within past seq s (Control (noted.Closed n)) (Take y) i x id v =
      either_within (same_end y x && (n == id)) (option_map with_peer_closed (endpoint_at wire past x id)) (endpoint_at wire past x id)
      (marked_within (endpoint_at wire past x id) v) v
  step_within past seq s (Control (noted.Queried n w)) (Take y) i x id v = v
  step_within past seq s (Control (noted.Version n w)) (Take y) i x id v = v
  step_within past seq s (Control (noted.Required n w)) (Take y) i x id v = v
  step_within past seq s (Control (noted.Flushed n)) (Take y) i x id v = v
  step_within past seq s (Closed gone) (Close (closings.Endpoint y n)) i x id v =
      either_within (same_end y x && (n == id)) (option_map (with_state states.Closed) (endpoint_at wire past x id)) (endpoint_at wire past x id)
      (closed_within (endpoint_at wire past x id)) v
  step_within past seq s (Closed gone) (Close (closings.Pending q)) i x id v =
      either_within (same_end q.end x && (q.id == id))
      (if is_local past q then option_map with_peer_closed (endpoint_at wire past x id) else option_map (with_state states.Closed) (endpoint_at wire past x id))
      (endpoint_at wire past x id)
      (either_within (is_local past q) (option_map with_peer_closed (endpoint_at wire past x id))
      (option_map (with_state states.Closed) (endpoint_at wire past x id))
      (marked_within (endpoint_at wire past x id) v) (closed_within (endpoint_at wire past x id)))
      v
  step_within past seq s told asked i x id v = v

  all_within : (past : List Event) → AreAll (IsSmallEvent F) past → (x : EndId) (id : ℕ) → IsWithin (endpoint_at wire past x id)
  all_within [] a x id = λ r t e f. absurd cc
  all_within (event ∷ past) a x id = step_within past event.seq a.0.0 event.told event.asked a.0.1 x id (all_within past a.1 x id)

  -- ## The past

  pub all_made : (past : List Event) → AreAll (IsSmallEvent F) past → AreAll IsThing (made past) × (length (made past) ≤ 2 * length past)
  all_made [] a = (tt, omega arith)
  all_made (event ∷ past) a =
      let before = all_made past a.1 in
      let new = made_by_small event.told a.0.2 in (
        all_both IsThing (made past) (made_by event.told) before.0 new.0,
        let m = before.1 in let n = new.1 in omega (arith, m, n, length-append (made past) (made_by event.told)),
      )

  next_small : (past : List Event) → length past < 2 ^ 30 → (y : EndId) → IsSmall (next_id wire past y)
  next_small past few y = go (is_remote (endpoint_at wire past y 0))
    where
      go : (b : Bool) → length (associated past y) + 1 + (if b then REMOTE_IDS else 0) < 2 ^ 32
      go true = omega (arith, few, associated_few past y)
      go false = omega (arith, few, associated_few past y)

  -- an end waits for ends whose numbers are of their widths
  abbrev IsSmallWait : Wait → Type 0
  IsSmallWait wait = IsEnd wait.end

  wait_small : (told : Told) (asked : Asked) → IsSmallAsked F asked → (x : EndId) → AreAll IsSmallWait (waits_by told asked x)
  wait_small Pausing (Pause b a flush) i x = go (same_end b x)
    where
      go : (t : Bool) → AreAll IsSmallWait (if t then record { end = a; flush = flush } ∷ [] else [])
      go true = (i.1.0, tt)
      go false = tt
  wait_small told asked i x = tt

  all_waits : (past : List Event) → AreAll (IsSmallEvent F) past → (x : EndId) → AreAll IsSmallWait (waits past x)
  all_waits [] a x = tt
  all_waits (event ∷ past) a x =
      all_both IsSmallWait (waits past x) (waits_by event.told event.asked x) (all_waits past a.1 x) (wait_small event.told event.asked a.0.1 x)

  unmet_small : (past : List Event) (ws : List Wait) → AreAll IsSmallWait ws → IsSmallTest (pause_of (first_unmet past ws))
  unmet_small past [] a = tt
  unmet_small past (wait ∷ ws) a = go (is_met past wait) (unmet_small past ws a.1)
    where
      go : (met : Bool) → IsSmallTest (pause_of (first_unmet past ws)) → IsSmallTest (pause_of (if met then first_unmet past ws else Some wait.end))
      go true rest = rest
      go false rest = a.0

  all_paused : (past : List Event) → AreAll (IsSmallEvent F) past → (x : EndId) → IsSmallTest (paused past x)
  all_paused past a x = unmet_small past (waits past x) (all_waits past a x)

  pub small_past : IsSmallWire F wire → (seqs : ℕ) (past : List Event) → legal wire seqs past → length past < 2 ^ 30 → AreAll (IsSmallEvent F) past
      → IsSmallPast wire past
  small_past w seqs past h few a =
      let m = (all_made past a).1 in
      record {
        mail = unread_fine F wire w past a;
        within = all_within past a;
        serials = λ seq. omega (arith, few, m, count_by-le-length (λ x. is_end x && (seq_of x == seq)) (made past));
        tokens = λ seq. omega (arith, few, m, count_by-le-length (λ x. not (is_end x) && (seq_of x == seq)) (made past));
        drawn = λ y id. omega (arith, few, few_drawn past y id);
        next = next_small past few;
        flushed = λ y. omega (arith, few, few_flushed past y);
        paused = all_paused past a;
        flows = small_pipes F wire seqs past h a;
      }
