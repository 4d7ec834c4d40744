-- No more takes consume a message, or find it bad, than messages were brought: a message weighs 1 and its ids, and a control 1.
use Rattle.std.proofs.Common.{◌≡◌, ◌≤◌, ◌<◌, ℕ, ◌+◌, List, [], ◌∷◌, length, refl, ap, ◌∙◌, arith, inl, inr}
use Rattle.mj_base.specs.declared.ids.SeqId.{SeqId}
use Rattle.handle_table.specs.declared.thing.Thing.{Thing}
use Rattle.handle_table.specs.declared.thing.Thing.TheVariants.{End, Token}
use Rattle.handle_table.specs.Things.{same_end}
use Rattle.handle_table.proofs.ThingsLemmas.{same_end-refl}
use Rattle.message_pipe.specs.declared.message.Message.{Message}
use Rattle.bind_model.specs.declared.asked.Asked.{Asked}
use Rattle.bind_model.specs.declared.asked.Asked.TheVariants.{Bind, Associate, Attach, Call, Answer, Raw, Take, Close, Notify, Pause, Data, Flow as Move, Skip}
use Rattle.bind_model.specs.declared.asked.Closing.{Closing}
use Rattle.bind_model.specs.declared.asked.Closing.TheVariants as closings
use Rattle.bind_model.specs.declared.event.Event.{Event}
use Rattle.bind_model.specs.declared.told.Told.{Told}
use Rattle.bind_model.specs.declared.told.Told.TheVariants.{Made, Bound, Associated, Attached, Sent, Wrote, Taken, Dropped, Control, Bad, Closed, Notified as Informed, Pausing, Flowed, Skipped, No}
use Rattle.bind_model.specs.Machine.{carried, control_of, ids_in, made, peer}
use Rattle.bind_model.specs.Laws.{WasControl}
use Rattle.bind_model.specs.declared.asked.Notice.{Notice}
use Rattle.bind_model.specs.declared.asked.Notice.TheVariants.{Query, Require, Flush}
use Rattle.control_bytes.specs.declared.control.Control.TheVariants as says
use Rattle.bind_model.specs.declared.told.Noted.TheVariants as noted
use Rattle.bind_model.specs.declared.told.Notified.{Notified}
use Rattle.bind_model.specs.declared.told.Notified.TheVariants.{Asking, Requiring, Flushing}
use Rattle.mj_base.specs.declared.ids.EndId.{EndId}
use Rattle.std.specs.Prelude.{Bool, true, false, Option, Some, None, if◌then◌else◌}
use Rattle.bind_model.specs.Replies.{answer, legal, tokens}
use Rattle.bind_model.specs.Wire.{Wire}
use Rattle.bind_model.proofs.Controls.{controls_of}
use Rattle.bind_model.proofs.Outcomes.{Outcome, outcome, joins, mints, binds, associates, attaches, calls, answers, writes, gets, drops, controls, spoils, closes, closes_pending, closes_responder, closes_end, closes_endpoint, notifies, pauses, pipes, flows, skips, refuses}
use Rattle.event_counts.specs.Counts.{brings, brought, carries, settled, settles, query_headed, query_in, query_said, notice_brings, ReadsControls}
use Rattle.event_counts.proofs.Loads.{load}
use Rattle.event_counts.proofs.Reading.{control_carries, control_queries}
use Rattle.bind_model.specs.WireOf.{wire_of}
use Rattle.mj_schema.specs.declared.schema.Schema.{Schema}
use Rattle.event_counts.proofs.Waiting.{AtOne, at_none, falls, grows, pending}
use Rattle.event_counts.proofs.Written.{closed_writes, dropped_writes, got_writes, heard_writes, lands_few, spread_first}

-- a message, a control for each id that it carries, and the version that it asks for
abbrev weight : Wire → Message → ℕ
weight wire m = 1 + length (ids_in wire m) + query_in wire m.bytes

module _ (wire : Wire) (reads : ReadsControls wire) where
  -- a control weighs 1, and one more where it asks for a version
  controls_weigh : (ids : List ℕ) → load (weight wire) (controls_of wire ids) ≤ length ids
  controls_weigh [] = omega arith
  controls_weigh (id ∷ ids) = omega (arith, reads.bare (says.Closed id), reads.asks (says.Closed id), controls_weigh ids)

  few_weigh : (n : ℕ) (ids : List ℕ) → length ids ≤ n → load (weight wire) (controls_of wire ids) ≤ n
  few_weigh n ids le = omega (arith, controls_weigh ids, le)

  version_weighs : (id v : ℕ) → weight wire (record { bytes = wire.control (says.Version id v); handles = []; emitted = true }) ≤ 1
  version_weighs id v = omega (arith, reads.bare (says.Version id v), reads.asks (says.Version id v))

  notice_weighs : (notice : Notice) (told : Notified) (emitted : Bool)
      → weight wire (record { bytes = wire.control (control_of notice told); handles = []; emitted = emitted }) ≤ notice_brings notice
  notice_weighs (Query id) told emitted = omega (arith, reads.bare (says.Query id), reads.asks (says.Query id))
  notice_weighs (Require id v) told emitted = omega (arith, reads.bare (says.Require id v), reads.asks (says.Require id v))
  notice_weighs Flush (Flushing k) emitted = omega (arith, reads.bare (says.Flush k), reads.asks (says.Flush k))
  notice_weighs Flush Asking emitted = omega (arith, reads.bare (says.Flush 0), reads.asks (says.Flush 0))
  notice_weighs Flush Requiring emitted = omega (arith, reads.bare (says.Flush 0), reads.asks (says.Flush 0))

  -- a query that was heard weighs more than its version
  query_weighs : (past : List Event) (y : EndId) (id : ℕ) (v : Option ℕ) (m : Message) → WasControl wire past y (noted.Queried id v) m → 2 ≤ weight wire m
  query_weighs past y id v m d =
      let q : query_in wire m.bytes ≡ 1 = ap (query_headed wire m.bytes) d.header
      ∙ (ap (λ (b : Bool). if b then query_said (wire.says m.bytes) else 0) d.control ∙ ap query_said d.is) in
      omega (arith, q)

  module _ (seqs : ℕ) (past : List Event) (h : legal wire seqs past) (seq : SeqId) (within : seq.0 < seqs) where
    -- what is brought is more than what is taken, and what comes to be unread
    record Balances (asked : Asked) (told : Told) : Type 0 where
      holds : settles told asked + pending (weight wire) wire (record { seq = seq; asked = asked; told = told } ∷ past)
          ≤ pending (weight wire) wire past + brings wire told asked

    -- where nothing is written or taken
    still : (asked : Asked) (told : Told) → told ≡ answer wire seqs past seq asked → AtOne (weight wire) wire past told asked 0 → settles told asked ≡ 0
        → Balances asked told
    still asked told is one none = record { holds = omega (arith, grows (weight wire) wire seqs past h seq within asked told is 0 one, none) }

    -- a message is written
    wrote : (asked : Asked) (told : Told) → told ≡ answer wire seqs past seq asked → (k : ℕ) → AtOne (weight wire) wire past told asked k
        → settles told asked ≡ 0 → brings wire told asked ≡ k → Balances asked told
    wrote asked told is k one none e = record { holds = omega (arith, grows (weight wire) wire seqs past h seq within asked told is k one, none, e) }

    closed : (thing : Closing) (goes : List Thing) → Closed goes ≡ answer wire seqs past seq (Close thing) → Balances (Close thing) (Closed goes)
    closed thing goes is =
        wrote (Close thing) (Closed goes) is 1 (closed_writes (weight wire) wire past 1 (few_weigh 1) thing goes) refl refl

    step : {asked : Asked} {told : Told} → told ≡ answer wire seqs past seq asked → Outcome wire seqs past seq asked told → Balances asked told
    step is (joins {asked = asked} {a = a} {b = b} t j p q) =
        still asked (Made (End a ∷ End b ∷ [])) is
        (at_none (weight wire) wire past (Made (End a ∷ End b ∷ [])) asked (λ x. refl)) refl
    step is (mints {asked = asked}) =
        still asked (Made (Token (record { seq = seq.0; serial = tokens past seq.0 }) ∷ [])) is
        (at_none (weight wire) wire past (Made (Token (record { seq = seq.0; serial = tokens past seq.0 }) ∷ [])) asked (λ x. refl)) refl
    step is (binds {x = x} {side = side} {interface = interface} o) =
        still (Bind (End x) side interface) (Bound x) is
        (at_none (weight wire) wire past (Bound x) (Bind (End x) side interface) (λ x. refl)) refl
    step is (associates {y = y} {side = side} {interface = interface} {p = p} main e g q) =
        still (Associate y side interface) (Associated p) is
        (at_none (weight wire) wire past (Associated p) (Associate y side interface) (λ x. refl)) refl
    step is (attaches {p = p} {t = t} {n = n} o g l e) =
        still (Attach p t) (Attached n) is (at_none (weight wire) wire past (Attached n) (Attach p t) (λ x. refl)) refl
    step is (calls {y = y} {id = id} {s = s} {request = request} {bytes = bytes} r o ps mk e w b) =
        wrote (Call y id s) (Sent request bytes) is (1 + carries wire bytes + query_in wire bytes)
        (record { end = peer past y; few = lands_few (weight wire) wire past y bytes s.handles }) refl refl
    step is (answers {q = q} {s = s} {request = request} {bytes = bytes} r o rs ps e w b) =
        wrote (Answer q s) (Sent request bytes) is (1 + carries wire bytes + query_in wire bytes)
        (record { end = peer past q.end; few = lands_few (weight wire) wire past q.end bytes s.handles }) refl refl
    step is (writes {x = x} {bytes = bytes} {handles = handles} o w) =
        wrote (Raw (End x) bytes handles) (Wrote x) is (1 + carries wire bytes + query_in wire bytes)
        (record { end = peer past x; few = lands_few (weight wire) wire past x bytes handles }) refl refl
    step is (gets {y = y} m hd r c f {g = g} e) = record {
      holds = omega (
        arith,
        falls (weight wire) wire seqs past h seq within (Take y) (Taken g) is (length (ids_in wire m))
            (got_writes (weight wire) wire past y m f.front.rest f.front.stands (length (ids_in wire m)) (few_weigh (length (ids_in wire m))) g)
            y m f.front.rest f.front.stands (inl (rw (same_end-refl y) refl)),
      );
    }
    step is (drops {y = y} {id = id} {goes = goes} m f e d) = record {
      holds = omega (
        arith,
        falls (weight wire) wire seqs past h seq within (Take y) (Dropped id goes) is (length (ids_in wire m))
            (dropped_writes (weight wire) wire past y m f.rest f.stands (length (ids_in wire m)) (few_weigh (length (ids_in wire m))) id goes)
            y m f.rest f.stands (inl (rw (same_end-refl y) refl)),
      );
    }
    step is (controls {y = y} {c = noted.Closed n} m f e d) = record {
      holds = omega (
        arith,
        falls (weight wire) wire seqs past h seq within (Take y) (Control (noted.Closed n)) is 0
            (at_none (weight wire) wire past (Control (noted.Closed n)) (Take y) (λ x. refl))
            y m f.rest f.stands (inl (rw (same_end-refl y) refl)),
      );
    }
    step is (controls {y = y} {c = noted.Queried n None} m f e d) = record {
      holds = omega (
        arith,
        falls (weight wire) wire seqs past h seq within (Take y) (Control (noted.Queried n None)) is 0
            (at_none (weight wire) wire past (Control (noted.Queried n None)) (Take y) (λ x. refl))
            y m f.rest f.stands (inl (rw (same_end-refl y) refl)),
      );
    }
    step is (controls {y = y} {c = noted.Version n v} m f e d) = record {
      holds = omega (
        arith,
        falls (weight wire) wire seqs past h seq within (Take y) (Control (noted.Version n v)) is 0
            (at_none (weight wire) wire past (Control (noted.Version n v)) (Take y) (λ x. refl))
            y m f.rest f.stands (inl (rw (same_end-refl y) refl)),
      );
    }
    step is (controls {y = y} {c = noted.Required n v} m f e d) = record {
      holds = omega (
        arith,
        falls (weight wire) wire seqs past h seq within (Take y) (Control (noted.Required n v)) is 0
            (at_none (weight wire) wire past (Control (noted.Required n v)) (Take y) (λ x. refl))
            y m f.rest f.stands (inl (rw (same_end-refl y) refl)),
      );
    }
    step is (controls {y = y} {c = noted.Flushed n} m f e d) = record {
      holds = omega (
        arith,
        falls (weight wire) wire seqs past h seq within (Take y) (Control (noted.Flushed n)) is 0
            (at_none (weight wire) wire past (Control (noted.Flushed n)) (Take y) (λ x. refl))
            y m f.rest f.stands (inl (rw (same_end-refl y) refl)),
      );
    }
    step is (controls {y = y} {c = noted.Queried n (Some v)} m f e d) = record {
      holds = omega (
        arith,
        query_weighs past y n (Some v) m d,
        falls (weight wire) wire seqs past h seq within (Take y) (Control (noted.Queried n (Some v))) is 1
            (heard_writes (weight wire) wire past y 1 version_weighs n v)
            y m f.rest f.stands (inl (rw (same_end-refl y) refl)),
      );
    }
    step is (notifies {y = y} {notice = notice} {told = told} r o e w s f p) =
        wrote (Notify y notice) (Informed told) is (notice_brings notice)
        (record {
          end = peer past y;
          few = λ x. more (same_end (peer past y) x)
              (lands_few (weight wire) wire past y (wire.control (control_of notice told)) [] x) (notice_weighs notice told false);
        }) refl refl
      where
        more : (b : Bool) {n k l : ℕ} → n ≤ (if b then k else 0) → k ≤ l → n ≤ (if b then l else 0)
        more true h g = omega (arith, h, g)
        more false h g = h
    step is (pauses {b = b} {a = a} {k = k} rb ra e f g s) =
        still (Pause b a k) Pausing is (at_none (weight wire) wire past Pausing (Pause b a k) (λ x. refl)) refl
    step is (pipes {size = size} {p = p} {q = q} z e f) =
        still (Data size) (Made (Token p ∷ Token q ∷ [])) is (at_none (weight wire) wire past (Made (Token p ∷ Token q ∷ [])) (Data size) (λ x. refl)) refl
    step is (flows {t = t} {f = f} {told = told} d o e w) =
        still (Move (Token t) f) (Flowed t told) is (at_none (weight wire) wire past (Flowed t told) (Move (Token t) f) (λ x. refl)) refl
    step is (spoils {y = y} {why = why} {goes = goes} m f e) = record {
      holds = omega (
        arith,
        falls (weight wire) wire seqs past h seq within (Take y) (Bad why goes) is 0
            (at_none (weight wire) wire past (Bad why goes) (Take y) (λ x. refl))
            y m f.rest f.stands (inr (rw e (spread_first (carried wire past) (length (made past)) (End y) []))),
      );
    }
    step is (closes {x = x} {goes = goes} o e) = closed (closings.Handle x) goes is
    step is (closes_pending {p = p} {goes = goes} o e) = closed (closings.Pending p) goes is
    step is (closes_responder {q = q} {goes = goes} e) = closed (closings.Responder q) goes is
    step is (closes_end {y = y} {id = id} {goes = goes} r i o e) = closed (closings.Endpoint y id) goes is
    step is (closes_endpoint {y = y} {id = id} {goes = goes} r i o e) = closed (closings.Endpoint y id) goes is
    step is (skips {line = line}) =
        still (Skip line) Skipped is (at_none (weight wire) wire past Skipped (Skip line) (λ x. refl)) refl
    step is (refuses {asked = asked} {why = why}) =
        still asked (No why) is (at_none (weight wire) wire past (No why) asked (λ x. refl)) refl

  -- what was taken and what is unread is no more than what was brought
  all : (seqs : ℕ) (past : List Event) → legal wire seqs past → settled past + pending (weight wire) wire past ≤ brought wire past
  all seqs [] h = omega arith
  all seqs (event ∷ past) h = omega (
    arith,
    all seqs past h.2,
    (step seqs past h.2 event.seq h.0 h.1 (outcome wire seqs past event.seq event.asked event.told h.1)).holds,
  )

pub few_over : (wire : Wire) → ReadsControls wire → (seqs : ℕ) (past : List Event) → legal wire seqs past → settled past ≤ brought wire past
few_over wire reads seqs past h = omega (arith, all wire reads seqs past h)

pub few_settled : (schema : Schema) (seqs : ℕ) (past : List Event) → legal (wire_of schema) seqs past → settled past ≤ brought (wire_of schema) past
few_settled schema seqs past h = few_over (wire_of schema) (record { bare = control_carries schema; asks = control_queries schema }) seqs past h
