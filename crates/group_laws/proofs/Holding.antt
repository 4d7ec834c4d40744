-- One event more: what a group holds stays in the group.
use Rattle.std.proofs.Common.{◌≡◌, ℕ, Bool, true, false, List, [], ◌∷◌, ◌++◌, refl, sym, ap, subst, ◌∙◌, inl, inr}
use Rattle.std.specs.Prelude.{Option, Some, if◌then◌else◌, ◌||◌, ◌==◌}
use Rattle.std.proofs.lemmas.List.{append-nil}
use Rattle.message_pipe.proofs.MailLemmas.{handles-append}
use Rattle.mj_base.specs.declared.ids.EndId.{EndId}
use Rattle.mj_base.specs.declared.ids.SeqId.{SeqId}
use Rattle.handle_table.specs.declared.thing.Thing.{Thing}
use Rattle.handle_table.specs.declared.thing.TokenId.{TokenId}
use Rattle.message_pipe.specs.declared.message.Message.{Message}
use Rattle.bind_model.specs.declared.asked.Asked.{Asked}
use Rattle.bind_model.specs.declared.asked.Asked.TheVariants.{Pipe, Join}
use Rattle.control_bytes.specs.declared.control.Control.{Control as ControlType}
use Rattle.control_bytes.specs.declared.control.Control.TheVariants as says
use Rattle.bind_model.specs.declared.told.Told.{Told}
use Rattle.bind_model.specs.declared.told.Told.TheVariants.{Taken, Dropped}
use Rattle.bind_model.specs.declared.event.Event.{Event}
use Rattle.handle_table.specs.Things.{same, same_end, same_token, has, seq_of}
use Rattle.bind_model.specs.Wire.{Wire}
use Rattle.bind_model.specs.Data.{DataPipe, pipe_of, pipe_by}
use Rattle.bind_model.specs.Notices.{Wait, waits, waits_by}
use Rattle.bind_model.specs.Machine.{peer, peer_by, is_gone, is_local, written, endpoint_at, puts, emits, emits_for, control_of, enters, closed_ids, handles_of}
use Rattle.group_laws.specs.Apart.{seqs_of, seqs_of_pendings, names}
use Rattle.handle_table.proofs.ThingsLemmas.{same-true, same_end-true, same_token-true, has-cases, or_cases}
use Rattle.bind_model.proofs.Moving.{emits_none, emits_for_none}
use Rattle.bind_model.proofs.Outcomes.{Outcome, AsksJoin, joins, calls, answers, writes, gets, drops, controls, closes_pending, closes_end, closes_endpoint, notifies, pauses, pipes}

-- all of these are in the group, or none, as this one
abbrev pub AllIn : (ℕ → Bool) → ℕ → List ℕ → Type 0
AllIn inside s [] = Unit {0}
AllIn inside s (t ∷ ts) = (inside t ≡ inside s) × AllIn inside s ts

module _ (inside : ℕ → Bool) where
  -- the list's things are as this sequence is
  abbrev pub Within : ℕ → List Thing → Type 0
  Within s xs = (z : Thing) → has xs z ≡ true → inside (seq_of z) ≡ inside s

  -- the ends that these waits are for are as this sequence is
  abbrev pub Waiting : ℕ → List Wait → Type 0
  Waiting s [] = Unit {0}
  Waiting s (w ∷ ws) = (inside w.end.seq ≡ inside s) × Waiting s ws

  -- both tokens of the data pipe are as this one is
  abbrev pub Piped : TokenId → DataPipe → Type 0
  Piped t d = (inside d.producer.seq ≡ inside t.seq) × (inside d.consumer.seq ≡ inside t.seq)

  -- the peer of an end, what lies unread there, what it waits for and the other side of a data pipe are of one group
  pub record Holds (wire : Wire) (past : List Event) : Type 0 where
    pub peers : (x : EndId) → inside (peer past x).seq ≡ inside x.seq
    pub mail : (x : EndId) → Within x.seq (handles_of (written wire past x))
    pub waiting : (x : EndId) → Waiting x.seq (waits past x)
    pub piped : (t : TokenId) (d : DataPipe) → pipe_of past t ≡ Some d → Piped t d

module _ (inside : ℕ → Bool) where
  listed : (s : ℕ) (xs : List Thing) (ts : List ℕ) → AllIn inside s (seqs_of xs ++ ts) → Within inside s xs
  listed s [] ts h z e = absurd cc
  listed s (x ∷ xs) ts h z e = elim (or_cases (same x z) (has xs z) e) [
    | inl k ↦ rw (← same-true x z k) h.0
    | inr k ↦ listed s xs ts h.1 z k
  ]

  listed_all : (s : ℕ) (xs : List Thing) → AllIn inside s (seqs_of xs) → Within inside s xs
  listed_all s [] h z e = absurd cc
  listed_all s (x ∷ xs) h z e = elim (or_cases (same x z) (has xs z) e) [
    | inl k ↦ rw (← same-true x z k) h.0
    | inr k ↦ listed_all s xs h.1 z k
  ]

  waiting_both : (s : ℕ) (ws us : List Wait) → Waiting inside s ws → Waiting inside s us → Waiting inside s (ws ++ us)
  waiting_both s [] us f g = g
  waiting_both s (w ∷ ws) us f g = (f.0, waiting_both s ws us f.1 g)

  some_same : (c d : DataPipe) → ◌≡◌ {A = Option DataPipe} (Some c) (Some d) → c ≡ d
  some_same c d e = cc

  module _ (wire : Wire) (seqs : ℕ) (past : List Event) (seq : SeqId) (so : Holds inside wire past) where
    -- ## Peers

    join_seq : (asked : Asked) (t : ℕ) → AsksJoin asked seq.0 t → AllIn inside seq.0 (names asked) → inside t ≡ inside seq.0
    join_seq Pipe t j h = ap inside j
    join_seq (Join u) t j h = ap inside j ∙ h.0
    join_seq asked t j h = absurd j

    peers_two : (a b x : EndId) → inside b.seq ≡ inside a.seq
        → inside (if same_end a x then b else (if same_end b x then a else peer past x)).seq ≡ inside x.seq
    peers_two a b x e = go (same_end a x) (same_end b x) refl refl
      where
        go : (c d : Bool) → same_end a x ≡ c → same_end b x ≡ d → inside (if c then b else (if d then a else peer past x)).seq ≡ inside x.seq
        go true d p q = e ∙ ap (λ (z : EndId). inside z.seq) (same_end-true a x p)
        go false true p q = sym e ∙ ap (λ (z : EndId). inside z.seq) (same_end-true b x q)
        go false false p q = so.peers x

    pub peers_step : {asked : Asked} {told : Told} → Outcome wire seqs past seq asked told → AllIn inside seq.0 (names asked) → (x : EndId)
        → inside (peer_by told x (peer past x)).seq ≡ inside x.seq
    peers_step (joins {asked = asked} {a = a} {b = b} t j p q) h x = peers_two a b x (rw (p, q) (join_seq asked t j h))
    peers_step o h x = so.peers x

    -- ## What lies unread

    mail_more : (x : EndId) (ps : List Message) → Within inside x.seq (handles_of ps) → Within inside x.seq (handles_of (written wire past x ++ ps))
    mail_more x ps new z e = elim (has-cases (handles_of (written wire past x)) (handles_of ps) z (rw handles-append at e)) [
      | inl k ↦ so.mail x z k
      | inr k ↦ new z k
    ]

    mail_same : (x : EndId) → Within inside x.seq (handles_of (written wire past x ++ []))
    mail_same x = mail_more x [] (λ z e. absurd cc)

    mail_bare : (x : EndId) (ps : List Message) → handles_of ps ≡ [] → Within inside x.seq (handles_of (written wire past x ++ ps))
    mail_bare x ps none = mail_more x ps (λ z e. let f : has [] z ≡ true = rw none at e in absurd cc)

    mail_sent : (y x : EndId) (bytes : List ℕ) (handles : List Thing) → inside y.seq ≡ inside seq.0 → Within inside seq.0 handles
        → Within inside x.seq (handles_of (written wire past x ++
        (if same_end (peer past y) x then record { bytes = bytes; handles = handles; emitted = false } ∷ [] else [])))
    mail_sent y x bytes handles at own = go (same_end (peer past y) x) refl
      where
        go : (b : Bool) → same_end (peer past y) x ≡ b → Within inside x.seq
            (handles_of (written wire past x ++ (if b then record { bytes = bytes; handles = handles; emitted = false } ∷ [] else [])))
        go false p = mail_same x
        go true p = mail_more x (record { bytes = bytes; handles = handles; emitted = false } ∷ []) (λ z e.
            let f : has handles z ≡ true = rw append-nil at e in
            own z f ∙ (sym at ∙ (sym (so.peers y) ∙ ap (λ (w : EndId). inside w.seq) (same_end-true (peer past y) x p))))

    mail_ids : (y x : EndId) (control : ℕ → ControlType) (ids : List ℕ)
        → Within inside x.seq (handles_of (written wire past x ++ emits wire past y (endpoint_at wire past y) control ids x))
    mail_ids y x control ids =
        mail_bare x (emits wire past y (endpoint_at wire past y) control ids x) (emits_none wire past y (endpoint_at wire past y) control ids x)

    mail_unless : (b : Bool) (y x : EndId) (ids : List ℕ)
        → Within inside x.seq (handles_of (written wire past x ++ (if b then [] else emits wire past y (endpoint_at wire past y) says.Closed ids x)))
    mail_unless true y x ids = mail_same x
    mail_unless false y x ids = mail_ids y x says.Closed ids

    pub mail_step : {asked : Asked} {told : Told} → Outcome wire seqs past seq asked told → AllIn inside seq.0 (names asked) → (x : EndId)
        → Within inside x.seq (handles_of (written wire past x ++ puts wire past (written wire past) (endpoint_at wire past) told asked x))
    mail_step (calls {y = y} {s = s} {bytes = bytes} r o ps mk e w b) h x = mail_sent y x bytes s.handles h.0
        (listed seq.0 s.handles (seqs_of_pendings s.pendings) h.1)
    mail_step (answers {q = q} {s = s} {bytes = bytes} r o rs ps e w b) h x = mail_sent q.end x bytes s.handles h.0
        (listed seq.0 s.handles (seqs_of_pendings s.pendings) h.1)
    mail_step (writes {x = z} {bytes = bytes} {handles = handles} o w) h x = mail_sent z x bytes handles h.0 (listed_all seq.0 handles h.1)
    mail_step (gets {y = y} m hd r c f {g = g} e) h x =
        mail_ids y x says.Closed (closed_ids (enters wire past y (written wire past y) (endpoint_at wire past y) (Taken g)))
    mail_step (drops {y = y} {id = n} {goes = goes} m f e d) h x =
        mail_ids y x says.Closed (closed_ids (enters wire past y (written wire past y) (endpoint_at wire past y) (Dropped n goes)))
    mail_step (controls {y = y} {c = c} m f e d) h x =
        mail_bare x (emits_for wire past y (endpoint_at wire past y) c x) (emits_for_none wire past y (endpoint_at wire past y) c x)
    mail_step (closes_pending {p = p} o e) h x = mail_unless (is_gone past p.end || is_local past p) p.end x (p.id ∷ [])
    mail_step (closes_end {y = y} {id = n} r i o e) h x = mail_unless (n == 0) y x (n ∷ [])
    mail_step (closes_endpoint {y = y} {id = n} r i o e) h x = mail_unless (n == 0) y x (n ∷ [])
    mail_step (notifies {y = y} {notice = notice} {told = told} r o e w s f p) h x =
        mail_sent y x (wire.control (control_of notice told)) [] h.0 (λ z i. absurd cc)
    mail_step o h x = mail_same x

    -- ## Waits

    waiting_more : (b a x : EndId) (k : ℕ) → inside b.seq ≡ inside seq.0 → inside a.seq ≡ inside seq.0
        → Waiting inside x.seq (waits past x ++ (if same_end b x then record { end = a; flush = k } ∷ [] else []))
    waiting_more b a x k at_b at_a = go (same_end b x) refl
      where
        go : (c : Bool) → same_end b x ≡ c → Waiting inside x.seq (waits past x ++ (if c then record { end = a; flush = k } ∷ [] else []))
        go true e = waiting_both x.seq (waits past x) (record { end = a; flush = k } ∷ []) (so.waiting x)
            (at_a ∙ (sym at_b ∙ ap (λ (z : EndId). inside z.seq) (same_end-true b x e)), tt)
        go false e = waiting_both x.seq (waits past x) [] (so.waiting x) tt

    pub waiting_step : {asked : Asked} {told : Told} → Outcome wire seqs past seq asked told → AllIn inside seq.0 (names asked) → (x : EndId)
        → Waiting inside x.seq (waits past x ++ waits_by told asked x)
    waiting_step (pauses {b = b} {a = a} {k = k} rb ra e f g s) h x = waiting_more b a x k h.0 h.1.0
    waiting_step o h x = waiting_both x.seq (waits past x) [] (so.waiting x) tt

    -- ## Data pipes

    piped_new : (size : ℕ) (p q t : TokenId) (d : DataPipe) → inside p.seq ≡ inside seq.0 → inside q.seq ≡ inside seq.0 → inside t.seq ≡ inside seq.0
        → ◌≡◌ {A = Option DataPipe} (Some (record { capacity = size; producer = p; consumer = q })) (Some d) → Piped inside t d
    piped_new size p q t d f g i e = subst (λ (c : DataPipe). Piped inside t c)
        (some_same (record { capacity = size; producer = p; consumer = q }) d e) (f ∙ sym i, g ∙ sym i)

    piped_more : (size : ℕ) (p q t : TokenId) (d : DataPipe) → inside p.seq ≡ inside seq.0 → inside q.seq ≡ inside seq.0
        → ◌≡◌ {A = Option DataPipe} (if same_token p t || same_token q t then Some (record { capacity = size; producer = p; consumer = q })
        else pipe_of past t) (Some d) → Piped inside t d
    piped_more size p q t d f g e = go (same_token p t) (same_token q t) refl refl e
      where
        as_t : (s : TokenId) → inside s.seq ≡ inside seq.0 → same_token s t ≡ true → inside t.seq ≡ inside seq.0
        as_t s i u = sym (ap (λ (z : TokenId). inside z.seq) (same_token-true s t u)) ∙ i

        go : (b c : Bool) → same_token p t ≡ b → same_token q t ≡ c
            → ◌≡◌ {A = Option DataPipe} (if b || c then Some (record { capacity = size; producer = p; consumer = q }) else pipe_of past t) (Some d)
            → Piped inside t d
        go true c u v e = piped_new size p q t d f g (as_t p f u) e
        go false true u v e = piped_new size p q t d f g (as_t q g v) e
        go false false u v e = so.piped t d e

    pub piped_step : {asked : Asked} {told : Told} → Outcome wire seqs past seq asked told → AllIn inside seq.0 (names asked) → (t : TokenId) (d : DataPipe)
        → pipe_by told asked t (pipe_of past t) ≡ Some d → Piped inside t d
    piped_step (pipes {size = size} {p = p} {q = q} z e f) h t d g =
        piped_more size p q t d (ap (λ (s : TokenId). inside s.seq) e) (ap (λ (s : TokenId). inside s.seq) f) g
    piped_step o h t d g = so.piped t d g

pub holds_more : (inside : ℕ → Bool) (wire : Wire) (seqs : ℕ) (past : List Event) (event : Event) → Holds inside wire past
    → Outcome wire seqs past event.seq event.asked event.told → AllIn inside event.seq.0 (names event.asked) → Holds inside wire (event ∷ past)
holds_more inside wire seqs past event so o a = record {
  peers = peers_step inside wire seqs past event.seq so o a;
  mail = mail_step inside wire seqs past event.seq so o a;
  waiting = waiting_step inside wire seqs past event.seq so o a;
  piped = piped_step inside wire seqs past event.seq so o a;
}
