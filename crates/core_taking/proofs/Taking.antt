-- What a take that consumes a message makes of pipes, places and endpoints, where ids enter and controls are emitted.
use Rattle.control_bytes.specs.declared.control.Control.TheVariants as says
use Rattle.std.proofs.Common.{◌≡◌, ◌≤◌, ℕ, Bool, true, false, List, [], ◌∷◌, ◌++◌, length, drop, refl, sym, ap, ◌∙◌}
use Rattle.std.specs.Prelude.{if◌then◌else◌, ◌||◌, ◌&&◌, not, ◌==◌, filter, is_some, map, Option, Some}
use Rattle.std.specs.Option.{option_map}
use Rattle.std.specs.List.{count_by}
use Rattle.std.proofs.lemmas.List.{append-nil}
use Rattle.mj_base.specs.declared.ids.EndId.{EndId}
use Rattle.mj_base.specs.declared.ids.SeqId.{SeqId}
use Rattle.handle_table.specs.Things.{has, same_end, is_end, seq_of}
use Rattle.handle_table.specs.Places.{place_of, ends_made, tokens_made}
use Rattle.handle_table.specs.declared.places.Place.{Place}
use Rattle.handle_table.specs.declared.places.Place.TheVariants as places
use Rattle.handle_table.specs.declared.thing.Thing.{Thing}
use Rattle.handle_table.specs.declared.thing.Thing.TheVariants.{End}
use Rattle.handle_table.proofs.ThingsLemmas.{same_end-true}
use Rattle.message_pipe.specs.Contents.{Contents, Becomes, Closes}
use Rattle.message_pipe.specs.Ends.{closed_by, end_of, shut, with_messages, without_front}
use Rattle.message_pipe.specs.declared.message.Message.{Message}
use Rattle.message_pipe.specs.declared.pipe_end.PipeEnd.{PipeEnd}
use Rattle.bind_model.specs.declared.asked.Asked.TheVariants.{Take}
use Rattle.bind_model.specs.declared.event.Event.{Event}
use Rattle.bind_model.specs.declared.told.Got.{Got}
use Rattle.bind_model.specs.declared.told.Noted.TheVariants as noted
use Rattle.bind_model.specs.declared.told.Told.TheVariants.{Control, Dropped, Taken}
use Rattle.bind_model.specs.Wire.{Wire}
use Rattle.bind_model.specs.Machine.{made, made_by, peer, peer_by, gone_by, is_gone, given, handed, taken, takes, written, puts}
use Rattle.bind_model.specs.Machine.{closed_ids, emits, enters, is_peer_closed, unread, endpoint_at}
use Rattle.bind_model.proofs.Controls.{controls_of}
use Rattle.bind_model.proofs.Kept.{Kept}
use Rattle.bind_model.proofs.Moving.{few_read}
use Rattle.bind_model.proofs.Outcomes.{Fronts}
use Rattle.core_state.specs.Emitting.{Emits}
use Rattle.core_state.specs.Placing.{PutsAll}
use Rattle.core_state.specs.Routers.{Routers}
use Rattle.core_state.specs.Agreement.{Agrees, end_in, end_with, is_out, is_shut}
use Rattle.core_state.proofs.After.{gone_after, unread_after, end_after}
use Rattle.core_state.proofs.Steady.{AllAgree}
use Rattle.core_taking.proofs.HandedOut.{front_shut, moved, one_taken, outs_now, shuts_now, some_moved}

-- an event that consumes the oldest message at y, emits these messages at its peer, and makes and takes in nothing
pub record IsTaking (wire : Wire) (event : Event) (past : List Event) (y : EndId) (messages : List Message) : Type 0 where
  pub made : made_by event.told ≡ []
  pub given : given event.told event.asked ≡ []
  pub few : (x : EndId) → length (taken past x ++ takes event.told event.asked x) ≤ length (written wire past x)
  pub takes : (x : EndId) → length (takes event.told event.asked x) ≡ (if same_end y x then 1 else 0)
  pub front : (m : Message) × (rest : List Message) × (unread wire past y ≡ m ∷ rest)
  pub puts : (x : EndId) → puts wire past (written wire past) (endpoint_at wire past) event.told event.asked x
      ≡ (if same_end (peer past y) x && not (is_gone past x) then messages else [])
  pub peer : (x : EndId) → peer_by event.told x (peer past x) ≡ peer past x

module _ (wire : Wire) (event : Event) (past : List Event) (y : EndId) (messages : List Message) (k : Kept wire past)
    (after : Kept wire (event ∷ past)) (s : IsTaking wire event past y messages) where
  same_made : made (event ∷ past) ≡ made past
  same_made = ap (λ xs. made past ++ xs) s.made ∙ append-nil (made past)

  -- what comes to an end
  abbrev added : EndId → List Message
  added x = if same_end (peer past y) x && not (is_gone past x) then messages else []

  unread_now : (x : EndId) → unread wire (event ∷ past) x
      ≡ (if has (gone_by event.told) (End x) then [] else (if same_end y x then drop 1 (unread wire past x) else unread wire past x) ++ added x)
  unread_now x =
      unread_after wire event past x (s.few x)
      ∙ rw (s.takes x, s.puts x) (go (has (gone_by event.told) (End x)) (same_end y x) (is_gone past x) (same_end (peer past y) x) (unread wire past x))
    where
      go : (h b g q : Bool) (ms : List Message)
          → (if h then [] else drop (if b then 1 else 0) ms ++ (if g then [] else (if q && not g then messages else [])))
          ≡ (if h then [] else (if b then drop 1 ms else ms) ++ (if q && not g then messages else []))
      go true b g q ms = refl
      go false true true true ms = refl
      go false true true false ms = refl
      go false true false q ms = refl
      go false false true true ms = refl
      go false false true false ms = refl
      go false false false q ms = refl

  -- the oldest is taken away before or after others come
  front_first : (x : EndId) (b : Bool) → same_end y x ≡ b → (cs : List Message)
      → (if b then drop 1 (unread wire past x ++ cs) else unread wire past x ++ cs) ≡ (if b then drop 1 (unread wire past x) else unread wire past x) ++ cs
  front_first x false e cs = refl
  front_first x true e cs =
      let at : unread wire past x ≡ s.front.0 ∷ s.front.1 = sym (ap (λ z. unread wire past z) (same_end-true y x e)) ∙ s.front.2 in
      ap (λ (ms : List Message). drop 1 (ms ++ cs)) at ∙ sym (ap (λ (ms : List Message). drop 1 ms ++ cs) at)

  sent_now : (x : EndId) (q : Bool) → same_end (peer past y) x ≡ q
      → (if q && not (is_gone past (peer past y)) then option_map (with_messages messages) (end_in wire past x) else end_in wire past x)
      ≡ end_with (has (made past) (End x)) (peer past x) (is_gone past x) (unread wire past x ++ (if q && not (is_gone past x) then messages else []))
  sent_now x q e =
      ap (λ b. if b then option_map (with_messages messages) (end_in wire past x) else end_in wire past x) (alike q e)
      ∙ go (has (made past) (End x)) q (is_gone past x) (unread wire past x)
    where
      alike : (q : Bool) → same_end (peer past y) x ≡ q → (q && not (is_gone past (peer past y))) ≡ (q && not (is_gone past x))
      alike false e = refl
      alike true e = ap (λ z. not (is_gone past z)) (same_end-true (peer past y) x e)

      go : (m q g : Bool) (ms : List Message)
          → (if q && not g then option_map (with_messages messages) (end_with m (peer past x) g ms) else end_with m (peer past x) g ms)
          ≡ end_with m (peer past x) g (ms ++ (if q && not g then messages else []))
      go false true true ms = refl
      go false true false ms = refl
      go false false g ms = refl
      go true true true ms = ap (λ (us : List Message). end_with true (peer past x) true us) (sym (append-nil ms))
      go true true false ms = refl
      go true false g ms = ap (λ (us : List Message). end_with true (peer past x) g us) (sym (append-nil ms))

  ends_now : (x : EndId) → option_map (closed_by (gone_by event.told) x)
      (if same_end y x then option_map without_front
      (end_with (has (made past) (End x)) (peer past x) (is_gone past x) (unread wire past x ++ added x))
      else end_with (has (made past) (End x)) (peer past x) (is_gone past x) (unread wire past x ++ added x))
      ≡ end_in wire (event ∷ past) x
  ends_now x =
      front_shut event past x (has (made past) (End x)) (is_gone past x) (same_end y x) (has (gone_by event.told) (End x)) refl (unread wire past x ++ added x)
      ∙ (ap (λ (ms : List Message). end_with (has (made past) (End x)) (peer past x) (is_gone past x || has (gone_by event.told) (End x))
      (if has (gone_by event.told) (End x) then [] else ms)) (front_first x (same_end y x) refl (added x))
      ∙ sym (end_after wire event past x (has (made past) (End x)) (peer past x) (is_gone past x || has (gone_by event.told) (End x))
      (if has (gone_by event.told) (End x) then [] else (if same_end y x then drop 1 (unread wire past x) else unread wire past x) ++ added x)
      (ap (λ ms. has ms (End x)) same_made) (s.peer x) (gone_after wire event past (End x)) (unread_now x)))

  -- what agreed agrees with the longer history, once the messages lie at the peer, the oldest is away, what goes is closed and what comes out is out
  pub taken_agrees : (old sent mid shut new : Contents) (before now : Routers)
      → Emits (peer past y) (not (is_gone past (peer past y))) messages old sent → Becomes y without_front sent mid
      → Closes (gone_by event.told) mid shut → PutsAll (handed event.told) places.Out shut new
      → AllAgree wire (event ∷ past) now → Agrees wire past old before → Agrees wire (event ∷ past) new now
  taken_agrees old sent mid shut new before now e b c p r a = record {
    ends = λ x.
        p.ends x
        ∙ (c.ends x
        ∙ (ap (option_map (closed_by (gone_by event.told) x))
        (b.ends x ∙ ap (λ (o : Option PipeEnd). if same_end y x then option_map without_front o else o) (lies x)) ∙ ends_now x));
    outs = λ z. ap is_out (at z) ∙ outs_now wire event past after same_made s.given z (place_of old.table z) (a.outs z) (a.there z);
    there = λ z.
        ap (λ (o : Option Place). is_some o) (at z)
        ∙ (some_moved (has (handed event.told) z) places.Out (moved (has (gone_by event.told) z) places.Closed (place_of old.table z))
        ∙ (some_moved (has (gone_by event.told) z) places.Closed (place_of old.table z) ∙ (a.there z ∙ sym (ap (λ ms. has ms z) same_made))));
    shuts = λ z. ap is_shut (at z) ∙ shuts_now wire event past after same_made s.given z (place_of old.table z) (a.shuts z) (a.there z);
    made = p.made ∙ (c.made ∙ (b.made ∙ (e.made ∙ (a.made ∙ sym (ap length same_made)))));
    serials = λ n.
        p.ends_made n
        ∙ (c.ends_made n
        ∙ (ap (λ t. ends_made t n) (b.table ∙ e.table)
        ∙ (a.serials n ∙ sym (ap (λ ms. count_by (λ z. is_end z && (seq_of z == n)) ms) same_made))));
    tokens = λ n.
        p.tokens_made n
        ∙ (c.tokens_made n
        ∙ (ap (λ t. tokens_made t n) (b.table ∙ e.table)
        ∙ (a.tokens n ∙ sym (ap (λ ms. count_by (λ z. not (is_end z) && (seq_of z == n)) ms) same_made))));
    routers = r;
  }
    where
      lies : (x : EndId) → end_of sent.ends x
          ≡ end_with (has (made past) (End x)) (peer past x) (is_gone past x) (unread wire past x ++ added x)
      lies x =
          e.ends x
          ∙ (ap (λ (o : Option PipeEnd). if same_end (peer past y) x && not (is_gone past (peer past y)) then option_map (with_messages messages) o else o)
          (a.ends x)
          ∙ sent_now x (same_end (peer past y) x) refl)

      at : (z : Thing) → place_of new.table z
          ≡ moved (has (handed event.told) z) places.Out (moved (has (gone_by event.told) z) places.Closed (place_of old.table z))
      at z =
          p.places z
          ∙ ap (moved (has (handed event.told) z) places.Out)
          (c.places z ∙ ap (λ t. moved (has (gone_by event.told) z) places.Closed (place_of t z)) (b.table ∙ e.table))

-- ## What a got message does, and a dropped one, whatever ids they carry

module _ (wire : Wire) (seqs : ℕ) (past : List Event) (seq : SeqId) (y : EndId) (k : Kept wire past) where
  -- the controls of these ids that are due
  abbrev pub due : List ℕ → List Message
  due ids = controls_of wire (filter (λ id. not (is_peer_closed (endpoint_at wire past y id))) ids)

  pub got_takes : (m : Message) (front : Fronts wire past y m) (g : Got) (ids : List ℕ)
      → closed_ids (enters wire past y (written wire past y) (endpoint_at wire past y) (Taken g)) ≡ ids
      → IsTaking wire (record { seq = seq; asked = Take y; told = Taken g }) past y (due ids)
  got_takes m front g ids is = record {
    made = refl;
    given = refl;
    few = few_read wire seqs past seq k y m front (Taken g);
    takes = λ x. one_taken (same_end y x) (Taken g);
    front = (m, front.rest, front.stands);
    puts = λ x. ap (λ (js : List ℕ). emits wire past y (endpoint_at wire past y) says.Closed js x) is;
    peer = λ x. refl;
  }

  pub dropped_takes : (m : Message) (front : Fronts wire past y m) (id : ℕ) (goes : List Thing) (ids : List ℕ)
      → closed_ids (enters wire past y (written wire past y) (endpoint_at wire past y) (Dropped id goes)) ≡ ids
      → IsTaking wire (record { seq = seq; asked = Take y; told = Dropped id goes }) past y (due ids)
  dropped_takes m front id goes ids is = record {
    made = refl;
    given = refl;
    few = few_read wire seqs past seq k y m front (Dropped id goes);
    takes = λ x. one_taken (same_end y x) (Dropped id goes);
    front = (m, front.rest, front.stands);
    puts = λ x. ap (λ (js : List ℕ). emits wire past y (endpoint_at wire past y) says.Closed js x) is;
    peer = λ x. refl;
  }

  -- the version that is due where an endpoint is asked for it
  abbrev pub due_version : ℕ → ℕ → List Message
  due_version id v =
      map (λ n. record { bytes = wire.control (says.Version n v); handles = []; emitted = true })
      (filter (λ n. not (is_peer_closed (endpoint_at wire past y n))) (id ∷ []))

  pub queried_takes : (m : Message) (front : Fronts wire past y m) (id v : ℕ)
      → IsTaking wire (record { seq = seq; asked = Take y; told = Control (noted.Queried id (Some v)) }) past y (due_version id v)
  queried_takes m front id v = record {
    made = refl;
    given = refl;
    few = few_read wire seqs past seq k y m front (Control (noted.Queried id (Some v)));
    takes = λ x. one_taken (same_end y x) (Control (noted.Queried id (Some v)));
    front = (m, front.rest, front.stands);
    puts = λ x. refl;
    peer = λ x. refl;
  }
