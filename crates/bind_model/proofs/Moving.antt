-- What each event moves.
use Rattle.std.proofs.Common.{◌≡◌, ◌<◌, ◌≤◌, ℕ, zero, suc, ◌+◌, Bool, true, false, List, [], ◌∷◌, ◌++◌, length, drop, refl, sym, ap, ◌∙◌, subst, arith}
use Rattle.std.specs.Prelude.{Some, None, if◌then◌else◌, not, ◌&&◌, ◌||◌, ◌==◌, map, filter}
use Rattle.std.specs.List.{flat_map, list_any}
use Rattle.std.proofs.lemmas.List.{append-nil, length-append, length-drop}
use Rattle.std.proofs.Math.Seq.{drop-nil}
use Rattle.std.proofs.lemmas.Grind.{flat_map-append}
use Rattle.mj_base.specs.declared.ids.EndId.{EndId}
use Rattle.mj_base.specs.declared.ids.SeqId.{SeqId}
use Rattle.handle_table.specs.declared.thing.TokenId.{TokenId}
use Rattle.handle_table.specs.declared.thing.Thing.{Thing}
use Rattle.handle_table.specs.declared.thing.Thing.TheVariants.{End, Token}
use Rattle.bind_model.specs.declared.asked.Closing.TheVariants as closings
use Rattle.message_pipe.specs.declared.message.Message.{Message}
use Rattle.bind_model.specs.declared.endpoint.Endpoint.{Endpoint}
use Rattle.bind_model.specs.declared.asked.Asked.{Asked}
use Rattle.bind_model.specs.declared.asked.Asked.TheVariants.{Bind, Associate, Attach, Call, Answer, Raw, Take, Close, Notify, Pause, Data, Flow as Move, Skip}
use Rattle.control_bytes.specs.declared.control.Control.{Control as ControlType}
use Rattle.control_bytes.specs.declared.control.Control.TheVariants as says
use Rattle.bind_model.specs.declared.told.Noted.{Noted}
use Rattle.bind_model.specs.declared.told.Noted.TheVariants as noted
use Rattle.bind_model.specs.declared.told.Told.{Told}
use Rattle.bind_model.specs.declared.told.Told.TheVariants.{Made, Bound, Associated, Attached, Sent, Wrote, Dropped, Control, Bad, Closed, Notified as Informed, Pausing, Flowed, Skipped, No}
use Rattle.bind_model.specs.declared.event.Event.{Event}
use Rattle.handle_table.specs.Things.{same, same_end, has, times, without}
use Rattle.bind_model.specs.Wire.{Wire}
use Rattle.bind_model.specs.Machine.{made, made_by, gone_by, given, handed, bound_by, peer, gone, is_gone, out, bounds, taken, written, endpoint_at, unread, emits, emits_for, control_of, enters, closed_ids, is_local, is_peer_closed, Endpoints, handles_of, carried, carried_behind, goes_behind, goes_with, held_unread, held_bound, spread}
use Rattle.bind_model.specs.Replies.{serials, tokens, all_out, picked, unpicked, got, from_id}
use Rattle.handle_table.proofs.ThingsLemmas.{same-sym, same_end-true}
use Rattle.bind_model.proofs.Counting.{times-append, gather, gathers}
use Rattle.bind_model.proofs.Balance.{Moves}
use Rattle.bind_model.proofs.Kept.{Kept, out_made, bound_made, made_once, own_times, one_own, one_bound, carry, quiet}
use Rattle.bind_model.proofs.Outcomes.{Outcome, Fronts, joins, mints, binds, associates, attaches, calls, answers, writes, gets, drops, controls, spoils, closes, closes_pending, closes_responder, closes_end, closes_endpoint, notifies, pauses, pipes, flows, skips, refuses}

spread_nil : (c : Thing → List Thing) (n : ℕ) → spread c n [] ≡ []
spread_nil c zero = refl
spread_nil c (suc n) = refl

-- controls carry no handles
control_handles : (wire : Wire) (control : ℕ → ControlType) (ids : List ℕ)
    → handles_of (map (λ id. record { bytes = wire.control (control id); handles = []; emitted = true }) ids) ≡ []
control_handles wire control [] = refl
control_handles wire control (id ∷ ids) = control_handles wire control ids

pub emits_none : (wire : Wire) (past : List Event) (y : EndId) (endpoints : Endpoints) (control : ℕ → ControlType) (ids : List ℕ) (x : EndId)
    → handles_of (emits wire past y endpoints control ids x) ≡ []
emits_none wire past y endpoints control ids x = go (same_end (peer past y) x && not (is_gone past x))
  where
    go : (b : Bool) → handles_of (if b then map (λ id. record { bytes = wire.control (control id); handles = []; emitted = true })
        (filter (λ id. not (is_peer_closed (endpoints id))) ids) else []) ≡ []
    go true = control_handles wire control (filter (λ id. not (is_peer_closed (endpoints id))) ids)
    go false = refl

pub emits_for_none : (wire : Wire) (past : List Event) (y : EndId) (endpoints : Endpoints) (c : Noted) (x : EndId)
    → handles_of (emits_for wire past y endpoints c x) ≡ []
emits_for_none wire past y endpoints (noted.Queried id (Some v)) x = emits_none wire past y endpoints (λ n. says.Version n v) (id ∷ []) x
emits_for_none wire past y endpoints (noted.Queried id None) x = refl
emits_for_none wire past y endpoints (noted.Closed id) x = refl
emits_for_none wire past y endpoints (noted.Version id v) x = refl
emits_for_none wire past y endpoints (noted.Required id v) x = refl
emits_for_none wire past y endpoints (noted.Flushed k) x = refl

-- a list is those picked and the others
pub split : (at : List ℕ) (k : ℕ) (xs : List Thing) (z : Thing) → times z xs ≡ times z (picked at k xs) + times z (unpicked at k xs)
split at k [] z = refl
split at k (x ∷ xs) z = go (list_any (λ n. n == k) at) (split at (suc k) xs z)
  where
    go : (b : Bool) → times z xs ≡ times z (picked at (suc k) xs) + times z (unpicked at (suc k) xs)
        → times z (x ∷ xs) ≡ times z (if b then x ∷ picked at (suc k) xs else picked at (suc k) xs)
        + times z (if b then unpicked at (suc k) xs else x ∷ unpicked at (suc k) xs)
    go true e = omega (arith, e)
    go false e = omega (arith, e)

module _ (wire : Wire) (seqs : ℕ) (past : List Event) (seq : SeqId) (k : Kept wire past) where
  few_still : (x : EndId) → length (taken past x ++ []) ≤ length (written wire past x)
  few_still x = rw (append-nil (taken past x)) (k.counted x)

  -- nothing is consumed, and no handle is put
  lands_still : (z : Thing) (goes : List Thing) (p : EndId → List Message) (c : Thing → List Thing)
      → ((x : EndId) → handles_of (p x) ≡ [])
      → ((x : EndId) → c (End x) ≡ handles_of (if has (gone past ++ goes) (End x) then [] else drop (length (taken past x ++ [])) (written wire past x ++ p x)))
      → ((u : TokenId) → c (Token u) ≡ [])
      → times z (flat_map c (made past ++ [])) ≡ times z (flat_map (carried wire past) (without goes (made past))) + 0
  lands_still z goes p c none now tokens =
      let q = quiet wire past k z goes (λ x. []) p (carried wire past) c few_still none (λ x. refl) now tokens (λ u. refl) in
      rw (append-nil (made past)) (omega (arith, q))

  unread_still : (z : Thing) → times z (held_unread wire past) ≡ times z (flat_map (carried wire past) (made past)) + 0
  unread_still z = omega arith

  none_left : (z : Thing) → 0 ≤ times z (held_bound past)
  none_left z = omega arith

  pub new_end : (x : EndId) → serials past x.seq ≤ x.serial → has (made past) (End x) ≡ false
  new_end x h = go (has (made past) (End x)) refl
    where
      go : (b : Bool) → has (made past) (End x) ≡ b → b ≡ false
      go true e = absurd (let low : x.serial < serials past x.seq = k.ends x e in omega arith)
      go false e = refl

  pub new_token : (t : TokenId) → tokens past t.seq ≤ t.serial → has (made past) (Token t) ≡ false
  new_token t h = go (has (made past) (Token t)) refl
    where
      go : (b : Bool) → has (made past) (Token t) ≡ b → b ≡ false
      go true e = absurd (let low : t.serial < tokens past t.seq = k.tokens t e in omega arith)
      go false e = refl

  -- a new end carries nothing
  new_carries : (x : EndId) → has (made past) (End x) ≡ false
      → handles_of (if has (gone past ++ []) (End x) then [] else drop (length (taken past x ++ [])) (written wire past x ++ [])) ≡ []
  new_carries x h = rw (k.mail x h, drop-nil {A = Message} (length (taken past x ++ []))) (go (has (gone past ++ []) (End x)))
    where
      go : (b : Bool) → handles_of (if b then [] else []) ≡ []
      go true = refl
      go false = refl

  of_new : {asked : Asked} (things : List Thing) → ((z : Thing)
      → times z (flat_map (carried wire (record { seq = seq; asked = asked; told = Made things } ∷ past)) things) ≡ 0)
      → Moves wire past (record { seq = seq; asked = asked; told = Made things })
  of_new {asked} things empty = record {
    behind = carried wire past;
    starts = [];
    reads = [];
    sends = [];
    leaves = [];
    goes = sym (spread_nil (carried wire past) (length (made past)));
    balance = λ z. omega arith;
    known = λ z. omega arith;
    gone_bound = λ z. omega arith;
    own = λ z. omega arith;
    bound = none_left;
    unread = unread_still;
    lands = λ z.
        let c = carried wire (record { seq = seq; asked = asked; told = Made things } ∷ past) in
        let q = lands_still z [] (λ x. []) c (λ x. refl) (λ x. refl) (λ u. refl) in
        let q' : times z (flat_map c (made past)) ≡ times z (flat_map (carried wire past) (without [] (made past))) + 0 = rw (append-nil (made past)) at q in
        omega (arith, empty z, q', ap (times z) (flat_map-append c (made past) things), times-append z (flat_map c (made past)) (flat_map c things));
  }

  -- nothing is consumed or put: what is given goes out again, is bound, or begins to go
  of_still : (event : Event) (starts leaves : List Thing) (p : EndId → List Message)
      → made_by event.told ≡ []
      → gone_by event.told ≡ goes_with wire past starts
      → ((z : Thing) → times z (given event.told event.asked) + times z leaves ≡ times z (handed event.told) + (times z (bound_by event.told) + times z starts))
      → ((z : Thing) → times z starts ≤ times z (given event.told event.asked) + times z leaves)
      → ((z : Thing) → times z leaves ≤ times z starts)
      → ((z : Thing) → times z (given event.told event.asked) ≤ times z (out past))
      → ((z : Thing) → times z leaves ≤ times z (held_bound past))
      → ((x : EndId) → handles_of (p x) ≡ [])
      → ((x : EndId) → carried wire (event ∷ past) (End x)
      ≡ handles_of (if has (gone past ++ gone_by event.told) (End x) then [] else drop (length (taken past x ++ [])) (written wire past x ++ p x)))
      → Moves wire past event
  of_still event starts leaves p no_new goes balance known gone_bound own bound none now = record {
    behind = carried wire past;
    starts = starts;
    reads = [];
    sends = [];
    leaves = leaves;
    goes = goes;
    balance = λ z. rw no_new (omega (arith, balance z));
    known = λ z. omega (arith, known z);
    gone_bound = gone_bound;
    own = own;
    bound = bound;
    unread = unread_still;
    lands = λ z. rw no_new (lands_still z (gone_by event.told) p (carried wire (event ∷ past)) none now (λ u. refl));
  }

  -- ## A message is put

  lands_sent : (z : Thing) (q : EndId) (bytes : List ℕ) (handles : List Thing) (c : Thing → List Thing)
      → has (made past) (End q) ≡ true → is_gone past q ≡ false
      → ((x : EndId) → c (End x) ≡ handles_of (if has (gone past ++ []) (End x) then [] else drop (length (taken past x ++ []))
      (written wire past x ++ (if same_end q x then record { bytes = bytes; handles = handles; emitted = false } ∷ [] else []))))
      → ((u : TokenId) → c (Token u) ≡ [])
      → times z (flat_map c (made past ++ [])) ≡ times z (flat_map (carried wire past) (without [] (made past))) + times z handles
  lands_sent z q bytes handles c known alive now bare =
      let g : times z (flat_map c (made past)) ≡ times z (flat_map (carried wire past) (without [] (made past))) + times z handles =
      gathers [] (carried wire past) c (End q) z (times z handles) (made past) each ∙ rw (made_once wire past k (End q) known) (omega arith) in
      rw (append-nil (made past)) g
    where
      put : (x : EndId) (here g : Bool) → same_end q x ≡ here → is_gone past x ≡ g
          → times z (handles_of (drop 0 (unread wire past x))
          ++ (if g then [] else handles_of (if here then record { bytes = bytes; handles = handles; emitted = false } ∷ [] else [])))
          ≡ times z (carried wire past (End x)) + (if here then times z handles else 0)
      put x true true e f = absurd (let o : is_gone past x ≡ false = rw (← same_end-true q x e) alive in cc)
      put x true false e f = omega (arith, times-append z (handles_of (unread wire past x)) (handles ++ []), times-append z handles [])
      put x false true e f = omega (arith, times-append z (handles_of (unread wire past x)) [])
      put x false false e f = omega (arith, times-append z (handles_of (unread wire past x)) [])

      each : (w : Thing) → times z (c w) ≡ (if has [] w then 0 else times z (carried wire past w) + (if same w (End q) then times z handles else 0))
      each (End x) = rw (
        now x,
        carry wire past k x [] [] (if same_end q x then record { bytes = bytes; handles = handles; emitted = false } ∷ [] else [])
            (few_still x),
        same-sym (End x) (End q),
      ) (put x (same_end q x) (is_gone past x) refl refl)
      each (Token u) = rw (bare u) refl

  of_sent : (event : Event) (q : EndId) (bytes : List ℕ) (handles : List Thing)
      → made_by event.told ≡ [] → gone_by event.told ≡ [] → handed event.told ≡ [] → bound_by event.told ≡ [] → given event.told event.asked ≡ handles
      → all_out past handles ≡ true → has (made past) (End q) ≡ true → is_gone past q ≡ false
      → ((x : EndId) → carried wire (event ∷ past) (End x)
      ≡ handles_of (if has (gone past ++ []) (End x) then [] else drop (length (taken past x ++ []))
      (written wire past x ++ (if same_end q x then record { bytes = bytes; handles = handles; emitted = false } ∷ [] else []))))
      → Moves wire past event
  of_sent event q bytes handles no_new no_gone no_handed no_bound gives own known alive now = record {
    behind = carried wire past;
    starts = [];
    reads = [];
    sends = handles;
    leaves = [];
    goes = no_gone ∙ sym (spread_nil (carried wire past) (length (made past)));
    balance = λ z. rw (no_new, no_handed, no_bound, gives) (omega arith);
    known = λ z. omega arith;
    gone_bound = λ z. omega arith;
    own = λ z. rw gives (own_times wire past k handles own z);
    bound = none_left;
    unread = unread_still;
    lands = λ z. rw (no_new, no_gone) (lands_sent z q bytes handles (carried wire (event ∷ past)) known alive now (λ u. refl));
  }

  -- ## A message is consumed

  module _ (y : EndId) (m : Message) (front : Fronts wire past y m) (told : Told) where
    some_left : suc (length (taken past y)) ≤ length (written wire past y)
    some_left =
        let u : drop (length (taken past y)) (written wire past y) ≡ m
        ∷ front.rest = ap (λ b. if b then [] else drop (length (taken past y)) (written wire past y)) (sym front.open_here) ∙ front.stands in
        omega (arith, ap length u, length-drop (length (taken past y)) (written wire past y))

    pub few_read : (x : EndId) → length (taken past x ++ (if same_end y x then told ∷ [] else [])) ≤ length (written wire past x)
    few_read x = go (same_end y x) refl
      where
        go : (b : Bool) → same_end y x ≡ b → length (taken past x ++ (if b then told ∷ [] else [])) ≤ length (written wire past x)
        go true e = rw (← same_end-true y x e) (omega (arith, some_left, length-append (taken past y) (told ∷ [])))
        go false e = few_still x

    behind_read : (x : EndId) → carried_behind wire past y (End x) ≡ handles_of (drop (length (if same_end y x then told ∷ [] else [])) (unread wire past x))
    behind_read x = go (same_end y x)
      where
        go : (b : Bool) → handles_of (drop (if b then 1 else 0) (unread wire past x))
            ≡ handles_of (drop (length (if b then told ∷ [] else [])) (unread wire past x))
        go true = refl
        go false = refl

    y_bound : has (bounds past) (End y) ≡ true
    y_bound = k.endpoints y 0 front.main front.bound

    y_made : has (made past) (End y) ≡ true
    y_made = bound_made wire past k (End y) y_bound

    unread_read : (z : Thing) → times z (held_unread wire past) ≡ times z (flat_map (carried_behind wire past y) (made past)) + times z m.handles
    unread_read z =
        gather (carried_behind wire past y) (carried wire past) (End y) z (times z m.handles) (made past) each
        ∙ rw (made_once wire past k (End y) y_made) (omega arith)
      where
        go : (x : EndId) (b : Bool) → same_end y x ≡ b → times z (handles_of (unread wire past x))
            ≡ times z (handles_of (drop (if b then 1 else 0) (unread wire past x))) + (if b then times z m.handles else 0)
        go x true e = rw (← same_end-true y x e, front.stands) (omega (arith, times-append z m.handles (handles_of front.rest)))
        go x false e = omega arith

        each : (w : Thing) → times z (carried wire past w) ≡ times z (carried_behind wire past y w) + (if same w (End y) then times z m.handles else 0)
        each (End x) = rw (same-sym (End x) (End y)) (go x (same_end y x) refl)
        each (Token u) = refl

    of_read : (asked : Asked) (starts : List Thing) (p : EndId → List Message)
        → (event : Event) → event ≡ record { seq = seq; asked = asked; told = told }
        → made_by event.told ≡ []
        → gone_by event.told ≡ goes_behind wire past y starts
        → given event.told event.asked ≡ []
        → ((z : Thing) → times z m.handles ≡ times z (handed event.told) + (times z (bound_by event.told) + times z starts))
        → ((x : EndId) → handles_of (p x) ≡ [])
        → ((x : EndId) → carried wire (event ∷ past) (End x)
        ≡ handles_of (if has (gone past ++ gone_by event.told) (End x) then [] else drop
        (length (taken past x ++ (if same_end y x then told ∷ [] else []))) (written wire past x ++ p x)))
        → Moves wire past event
    of_read asked starts p event is no_new goes no_given balance none now = record {
      behind = carried_behind wire past y;
      starts = starts;
      reads = m.handles;
      sends = [];
      leaves = [];
      goes = goes;
      balance = λ z. rw (no_new, no_given) (omega (arith, balance z));
      known = λ z. omega (arith, balance z);
      gone_bound = λ z. omega arith;
      own = λ z. rw no_given (omega arith);
      bound = none_left;
      unread = unread_read;
      lands = λ z.
          let q = quiet wire past k z (gone_by event.told) (λ x. if same_end y x then told ∷ [] else []) p (carried_behind wire past y)
          (carried wire (event ∷ past)) few_read none behind_read now (λ u. refl) (λ u. refl) in
          rw (no_new, append-nil (made past)) (omega (arith, q));
    }

  -- ## Each case

  pub made_one : (x : EndId) → has (out past) (End x) ≡ true → has (made past) (End x) ≡ true
  made_one x o = out_made wire past k (End x) o

  pub row_made : (y : EndId) (id : ℕ) (r : Endpoint) → endpoint_at wire past y id ≡ Some r → has (made past) (End y) ≡ true
  row_made y id r e = bound_made wire past k (End y) (k.endpoints y id r e)

  two_new : (asked : Asked) (a b : EndId) → has (made past) (End a) ≡ false → has (made past) (End b) ≡ false → (z : Thing)
      → times z (flat_map (carried wire (record { seq = seq; asked = asked; told = Made (End a ∷ End b ∷ []) } ∷ past)) (End a ∷ End b ∷ [])) ≡ 0
  two_new asked a b na nb z = rw (new_carries a na, new_carries b nb) refl

  pub moves : {asked : Asked} {told : Told} → Outcome wire seqs past seq asked told → Moves wire past (record { seq = seq; asked = asked; told = told })
  moves (joins {asked = asked} {a = a} {b = b} t j p q) = of_new {asked = asked} (End a ∷ End b ∷ [])
      (two_new asked a b (new_end a (rw p (omega arith))) (new_end b (rw q (omega arith))))
  moves (mints {asked = asked}) = of_new {asked = asked} (Token (record { seq = seq.0; serial = tokens past seq.0 }) ∷ []) (λ z. refl)
  moves (binds {x = x} {side = side} {interface = interface} o) =
      of_still (record { seq = seq; asked = Bind (End x) side interface; told = Bound x }) [] [] (λ w. []) refl
      (sym (spread_nil (carried wire past) (length (made past)))) (λ z. omega arith) (λ z. omega arith) (λ z. omega arith)
      (one_own wire past k (End x) o) none_left (λ w. refl) (λ w. refl)
  moves (associates {y = y} {side = side} {interface = interface} {p = p} main e g q) =
      of_still (record { seq = seq; asked = Associate y side interface; told = Associated p }) [] [] (λ w. []) refl
      (sym (spread_nil (carried wire past) (length (made past)))) (λ z. omega arith) (λ z. omega arith) (λ z. omega arith) (λ z. omega arith) none_left
      (λ w. refl) (λ w. refl)
  moves (attaches {p = p} {t = t} {n = n} o g l e) =
      of_still (record { seq = seq; asked = Attach p t; told = Attached n }) [] [] (λ w. []) refl (sym (spread_nil (carried wire past) (length (made past))))
      (λ z. omega arith) (λ z. omega arith) (λ z. omega arith) (λ z. omega arith) none_left (λ w. refl) (λ w. refl)
  moves (calls {y = y} {id = id} {s = s} {request = request} {bytes = bytes} r o ps mk e w b) =
      of_sent (record { seq = seq; asked = Call y id s; told = Sent request bytes }) (peer past y) bytes s.handles refl refl refl refl refl w.own
      (k.peers y (row_made y id r o.here)) w.open_there (λ x. refl)
  moves (answers {q = q} {s = s} {request = request} {bytes = bytes} r o rs ps e w b) =
      of_sent (record { seq = seq; asked = Answer q s; told = Sent request bytes }) (peer past q.end) bytes s.handles refl refl refl refl refl w.own
      (k.peers q.end (row_made q.end q.id r o.here)) w.open_there (λ x. refl)
  moves (writes {x = x} {bytes = bytes} {handles = handles} o w) =
      of_sent (record { seq = seq; asked = Raw (End x) bytes handles; told = Wrote x }) (peer past x) bytes handles refl refl refl refl refl w.own
      (k.peers x (made_one x o)) w.open_there (λ v. refl)
  moves (gets {y = y} m h r c f {g = g} e) = subst (λ t. Moves wire past (record { seq = seq; asked = Take y; told = t })) (sym e) (
      of_read y m f.front (got wire past y m h c) (Take y) (unpicked c.handles 0 m.handles)
      (λ x. emits wire past y (endpoint_at wire past y) says.Closed (closed_ids
      (enters wire past y (written wire past y) (endpoint_at wire past y) (got wire past y m h c))) x)
      (record { seq = seq; asked = Take y; told = got wire past y m h c }) refl refl refl refl (λ z. omega (arith, split c.handles 0 m.handles z))
      (λ x. emits_none wire past y (endpoint_at wire past y) says.Closed
      (closed_ids (enters wire past y (written wire past y) (endpoint_at wire past y) (got wire past y m h c))) x) (λ x. refl))
  moves (drops {y = y} {id = id} {goes = goes} m f e d) =
      of_read y m f (Dropped id goes) (Take y) m.handles
      (λ x. emits wire past y (endpoint_at wire past y) says.Closed
      (closed_ids (enters wire past y (written wire past y) (endpoint_at wire past y) (Dropped id goes))) x)
      (record { seq = seq; asked = Take y; told = Dropped id goes }) refl refl e refl (λ z. omega arith)
      (λ x. emits_none wire past y (endpoint_at wire past y) says.Closed
      (closed_ids (enters wire past y (written wire past y) (endpoint_at wire past y) (Dropped id goes))) x) (λ x. refl)
  moves (controls {y = y} {c = c} m f e d) =
      of_read y m f (Control c) (Take y) [] (λ x. emits_for wire past y (endpoint_at wire past y) c x)
      (record { seq = seq; asked = Take y; told = Control c }) refl refl
      (sym (spread_nil (carried_behind wire past y) (length (made past)))) refl (λ z. rw e refl)
      (λ x. emits_for_none wire past y (endpoint_at wire past y) c x) (λ x. refl)
  moves (spoils {y = y} {why = why} {goes = goes} m f e) =
      of_still (record { seq = seq; asked = Take y; told = Bad why goes }) (End y ∷ []) (End y ∷ []) (λ w. []) refl e (λ z. omega arith) (λ z. omega arith)
      (λ z. omega arith) (λ z. omega arith) (one_bound wire past k y (k.endpoints y 0 f.main f.bound) f.open_here) (λ w. refl) (λ w. refl)
  moves (closes {x = x} {goes = goes} o e) =
      of_still (record { seq = seq; asked = Close (closings.Handle x); told = Closed goes }) (x ∷ []) [] (λ w. []) refl e (λ z. omega arith)
      (λ z. omega arith) (λ z. omega arith) (one_own wire past k x o) none_left (λ w. refl) (λ w. refl)
  moves (closes_pending {p = p} {goes = goes} o e) =
      of_still (record { seq = seq; asked = Close (closings.Pending p); told = Closed goes }) [] []
      (λ w. if is_gone past p.end || is_local past p then [] else emits wire past p.end (endpoint_at wire past p.end) says.Closed (p.id ∷ []) w)
      refl (e ∙ sym (spread_nil (carried wire past) (length (made past)))) (λ z. omega arith) (λ z. omega arith) (λ z. omega arith)
      (λ z. omega arith) none_left (λ w. none w (is_gone past p.end || is_local past p)) (λ w. refl)
    where
      none : (w : EndId) (b : Bool) → handles_of (if b then [] else emits wire past p.end (endpoint_at wire past p.end) says.Closed (p.id ∷ []) w) ≡ []
      none w true = refl
      none w false = emits_none wire past p.end (endpoint_at wire past p.end) says.Closed (p.id ∷ []) w
  moves (closes_responder {q = q} {goes = goes} e) =
      of_still (record { seq = seq; asked = Close (closings.Responder q); told = Closed goes }) [] [] (λ w. []) refl
      (e ∙ sym (spread_nil (carried wire past) (length (made past)))) (λ z. omega arith) (λ z. omega arith) (λ z. omega arith)
      (λ z. omega arith) none_left (λ w. refl) (λ w. refl)
  moves (closes_end {y = y} {id = id} {goes = goes} r i o e) =
      of_still (record { seq = seq; asked = Close (closings.Endpoint y id); told = Closed goes }) (End y ∷ []) (End y ∷ [])
      (λ w. if id == 0 then [] else emits wire past y (endpoint_at wire past y) says.Closed (id ∷ []) w)
      refl e (λ z. omega arith) (λ z. omega arith) (λ z. omega arith) (λ z. omega arith) (one_bound wire past k y (k.endpoints y id r o.here) o.open_here)
      (λ w. none w (id == 0)) (λ w. refl)
    where
      none : (w : EndId) (b : Bool) → handles_of (if b then [] else emits wire past y (endpoint_at wire past y) says.Closed (id ∷ []) w) ≡ []
      none w true = refl
      none w false = emits_none wire past y (endpoint_at wire past y) says.Closed (id ∷ []) w
  moves (closes_endpoint {y = y} {id = id} {goes = goes} r i o e) =
      of_still (record { seq = seq; asked = Close (closings.Endpoint y id); told = Closed goes }) [] []
      (λ w. if id == 0 then [] else emits wire past y (endpoint_at wire past y) says.Closed (id ∷ []) w)
      refl (e ∙ sym (spread_nil (carried wire past) (length (made past)))) (λ z. omega arith) (λ z. omega arith) (λ z. omega arith)
      (λ z. omega arith) none_left (λ w. none w (id == 0)) (λ w. refl)
    where
      none : (w : EndId) (b : Bool) → handles_of (if b then [] else emits wire past y (endpoint_at wire past y) says.Closed (id ∷ []) w) ≡ []
      none w true = refl
      none w false = emits_none wire past y (endpoint_at wire past y) says.Closed (id ∷ []) w
  moves (notifies {y = y} {notice = notice} {told = told} r o e w s f p) =
      of_sent (record { seq = seq; asked = Notify y notice; told = Informed told }) (peer past y) (wire.control (control_of notice told)) [] refl refl refl
      refl refl refl (k.peers y (row_made y (from_id notice) r o.here)) w.open_there (λ x. refl)
  moves (pauses {b = b} {a = a} {k = n} rb ra e f g s) =
      of_still (record { seq = seq; asked = Pause b a n; told = Pausing }) [] [] (λ w. []) refl (sym (spread_nil (carried wire past) (length (made past))))
      (λ z. omega arith) (λ z. omega arith) (λ z. omega arith) (λ z. omega arith) none_left (λ w. refl) (λ w. refl)
  moves (pipes {size = size} {p = p} {q = q} z e f) = of_new {asked = Data size} (Token p ∷ Token q ∷ []) (λ w. refl)
  moves (flows {t = t} {f = f} {told = told} d o e w) =
      of_still (record { seq = seq; asked = Move (Token t) f; told = Flowed t told }) [] [] (λ x. []) refl
      (sym (spread_nil (carried wire past) (length (made past))))
      (λ z. omega arith) (λ z. omega arith) (λ z. omega arith) (λ z. omega arith) none_left (λ x. refl) (λ x. refl)
  moves (skips {line = line}) =
      of_still (record { seq = seq; asked = Skip line; told = Skipped }) [] [] (λ w. []) refl (sym (spread_nil (carried wire past) (length (made past))))
      (λ z. omega arith) (λ z. omega arith) (λ z. omega arith) (λ z. omega arith) none_left (λ w. refl) (λ w. refl)
  moves (refuses {asked = asked} {why = why}) =
      of_still (record { seq = seq; asked = asked; told = No why }) [] [] (λ w. []) refl (sym (spread_nil (carried wire past) (length (made past))))
      (λ z. omega arith) (λ z. omega arith) (λ z. omega arith) (λ z. omega arith) none_left (λ w. refl) (λ w. refl)
