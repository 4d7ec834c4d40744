-- No more responders are handed out than requests with a response were written: of a message its flags count, and a control has none.
use Rattle.std.proofs.Common.{◌≡◌, ◌≤◌, ◌<◌, ℕ, ◌+◌, Bool, true, false, List, [], ◌∷◌, length, refl, sym, ap, ◌∙◌, arith, inl}
use Rattle.std.specs.Prelude.{◌&&◌, not, Ok, if◌then◌else◌}
use Rattle.mj_base.specs.declared.ids.EndId.{EndId}
use Rattle.mj_base.specs.declared.ids.SeqId.{SeqId}
use Rattle.mj_schema.specs.declared.schema.Schema.{Schema}
use Rattle.handle_table.specs.declared.thing.Thing.{Thing}
use Rattle.handle_table.specs.declared.thing.Thing.TheVariants.{End, Token}
use Rattle.handle_table.proofs.ThingsLemmas.{same_end-refl}
use Rattle.message_pipe.specs.declared.message.Message.{Message}
use Rattle.wire_encoder.specs.declared.endpoint.EndpointSide.{EndpointSide}
use Rattle.wire_model.specs.declared.target.Target.{Target}
use Rattle.bind_model.specs.declared.asked.Asked.{Asked}
use Rattle.bind_model.specs.declared.asked.Asked.TheVariants.{Bind, Associate, Attach, Call, Answer, Raw, Take, Close, Notify, Pause, Data, Flow as Move, Skip}
use Rattle.bind_model.specs.declared.asked.Closing.{Closing}
use Rattle.bind_model.specs.declared.asked.Closing.TheVariants as closings
use Rattle.bind_model.specs.declared.endpoint.Endpoint.{Endpoint}
use Rattle.bind_model.specs.declared.endpoint.ResponderId.{ResponderId}
use Rattle.bind_model.specs.declared.event.Event.{Event}
use Rattle.control_bytes.specs.declared.control.Control.{Control as ControlType}
use Rattle.control_bytes.specs.declared.control.Control.TheVariants as says
use Rattle.bind_model.specs.declared.told.Noted.TheVariants as noted
use Rattle.handle_table.specs.Things.{same_end}
use Rattle.std.specs.Prelude.{Some, None}
use Rattle.bind_model.specs.declared.told.Got.{Got}
use Rattle.bind_model.specs.declared.told.Told.{Told}
use Rattle.bind_model.specs.declared.told.Told.TheVariants.{Made, Bound, Associated, Attached, Sent, Wrote, Taken, Dropped, Control, Bad, Closed, Notified as Informed, Pausing, Flowed, Skipped, No}
use Rattle.bind_model.specs.Machine.{control_of, ids_in, peer}
use Rattle.bind_model.specs.Replies.{answer, got, is_response, legal, responders_handed, tokens}
use Rattle.bind_model.specs.Wire.{Wire, Header, Content}
use Rattle.bind_model.specs.WireOf.{wire_of}
use Rattle.bind_model.proofs.Controls.{controls_of}
use Rattle.bind_model.proofs.Outcomes.{Outcome, Gets, outcome, joins, mints, binds, associates, attaches, calls, answers, writes, gets, drops, controls, spoils, closes, closes_pending, closes_responder, closes_end, closes_endpoint, notifies, pauses, pipes, flows, skips, refuses}
use Rattle.event_counts.specs.Counts.{asks, asks_by, handed, is_asking, requested}
use Rattle.event_counts.proofs.Loads.{load}
use Rattle.event_counts.proofs.Reading.{asking, control_asks}
use Rattle.event_counts.proofs.Waiting.{AtOne, at_none, falls, grows, pending}
use Rattle.event_counts.proofs.Written.{closed_writes, dropped_writes, got_writes, heard_writes, lands_few}

-- 1 where its flags are those of a request with a response
abbrev weight : Message → ℕ
weight m = asks m.bytes

-- what is read as a request with a response has its flags
abbrev KnowsRequests : Wire → Type 0
KnowsRequests wire = (side : EndpointSide) (interface : ℕ) (bytes : List ℕ) (n : ℕ) (c : Content) → wire.stands side interface bytes n ≡ Ok c
    → is_response c.target.side ≡ false → wire.responds c.target.interface c.target.method ≡ true → is_asking bytes ≡ true

module _ (wire : Wire) (knows : KnowsRequests wire) (quiet : (c : ControlType) → is_asking (wire.control c) ≡ false) where
  -- controls weigh nothing
  controls_weigh : (ids : List ℕ) → load weight (controls_of wire ids) ≡ 0
  controls_weigh [] = refl
  controls_weigh (id ∷ ids) =
      let light : asks (wire.control (says.Closed id)) ≡ 0 = rw (quiet (says.Closed id)) refl in omega (arith, light, controls_weigh ids)

  none_weigh : (n : ℕ) (ids : List ℕ) → length ids ≤ n → load weight (controls_of wire ids) ≤ 0
  none_weigh n ids le = omega (arith, controls_weigh ids)

  -- what is got with a responder had them
  got_asks : (past : List Event) (seq : SeqId) (y : EndId) (m : Message) (hd : Header) (r : Endpoint) (c : Content) (g : Got)
      → Gets wire past seq y m hd r c → Taken g ≡ got wire past y m hd c → length (responders_handed wire (Taken g) (Take y)) ≤ asks m.bytes
  got_asks past seq y m hd r c g f e =
      go (is_response g.target.side) (wire.responds g.target.interface g.target.method) refl refl
    where
      target_told : Told → Target
      target_told (Taken other) = other.target
      target_told told = c.target

      target : g.target ≡ c.target
      target = ap target_told e

      go : (a b : Bool) → is_response g.target.side ≡ a → wire.responds g.target.interface g.target.method ≡ b
          → length {A = ResponderId}
          (if (not a && b)
          then record { end = y; id = g.id; request = g.request; interface = g.target.interface; method = g.target.method } ∷ [] else [])
          ≤ asks m.bytes
      go true b side responds = omega arith
      go false false side responds = omega arith
      go false true side responds =
          let request : is_response c.target.side ≡ false = ap (λ (t : Target). is_response t.side) (sym target) ∙ side in
          let has : wire.responds c.target.interface c.target.method ≡ true =
          ap (λ (t : Target). wire.responds t.interface t.method) (sym target) ∙ responds in
          rw (knows r.side r.interface m.bytes (length m.handles) c f.stands request has) (omega arith)

  module _ (seqs : ℕ) (past : List Event) (h : legal wire seqs past) (seq : SeqId) (within : seq.0 < seqs) where
    -- what is written is more than what is handed out, and what comes to be unread
    record Balances (asked : Asked) (told : Told) : Type 0 where
      holds : length (responders_handed wire told asked) + pending weight wire (record { seq = seq; asked = asked; told = told } ∷ past)
          ≤ pending weight wire past + asks_by told asked

    still : (asked : Asked) (told : Told) → told ≡ answer wire seqs past seq asked → AtOne weight wire past told asked 0
        → length (responders_handed wire told asked) ≡ 0 → Balances asked told
    still asked told is one none = record { holds = omega (arith, grows weight wire seqs past h seq within asked told is 0 one, none) }

    wrote : (asked : Asked) (told : Told) → told ≡ answer wire seqs past seq asked → (k : ℕ) → AtOne weight wire past told asked k
        → length (responders_handed wire told asked) ≡ 0 → asks_by told asked ≡ k → Balances asked told
    wrote asked told is k one none e = record { holds = omega (arith, grows weight wire seqs past h seq within asked told is k one, none, e) }

    closed : (thing : Closing) (goes : List Thing) → Closed goes ≡ answer wire seqs past seq (Close thing) → Balances (Close thing) (Closed goes)
    closed thing goes is = still (Close thing) (Closed goes) is (closed_writes weight wire past 0 (none_weigh 1) thing goes) refl

    step : {asked : Asked} {told : Told} → told ≡ answer wire seqs past seq asked → Outcome wire seqs past seq asked told → Balances asked told
    step is (joins {asked = asked} {a = a} {b = b} t j p q) =
        still asked (Made (End a ∷ End b ∷ [])) is (at_none weight wire past (Made (End a ∷ End b ∷ [])) asked (λ x. refl)) refl
    step is (mints {asked = asked}) =
        still asked (Made (Token (record { seq = seq.0; serial = tokens past seq.0 }) ∷ [])) is
        (at_none weight wire past (Made (Token (record { seq = seq.0; serial = tokens past seq.0 }) ∷ [])) asked (λ x. refl)) refl
    step is (binds {x = x} {side = side} {interface = interface} o) =
        still (Bind (End x) side interface) (Bound x) is (at_none weight wire past (Bound x) (Bind (End x) side interface) (λ x. refl)) refl
    step is (associates {y = y} {side = side} {interface = interface} {p = p} main e g q) =
        still (Associate y side interface) (Associated p) is
        (at_none weight wire past (Associated p) (Associate y side interface) (λ x. refl)) refl
    step is (attaches {p = p} {t = t} {n = n} o g l e) =
        still (Attach p t) (Attached n) is (at_none weight wire past (Attached n) (Attach p t) (λ x. refl)) refl
    step is (calls {y = y} {id = id} {s = s} {request = request} {bytes = bytes} r o ps mk e w b) =
        wrote (Call y id s) (Sent request bytes) is (asks bytes)
        (record { end = peer past y; few = lands_few weight wire past y bytes s.handles }) refl refl
    step is (answers {q = q} {s = s} {request = request} {bytes = bytes} r o rs ps e w b) =
        wrote (Answer q s) (Sent request bytes) is (asks bytes)
        (record { end = peer past q.end; few = lands_few weight wire past q.end bytes s.handles }) refl refl
    step is (writes {x = x} {bytes = bytes} {handles = handles} o w) =
        wrote (Raw (End x) bytes handles) (Wrote x) is (asks bytes)
        (record { end = peer past x; few = lands_few weight wire past x bytes handles }) refl refl
    step is (gets {y = y} m hd r c f {g = g} e) = record {
      holds = omega (
        arith,
        falls weight wire seqs past h seq within (Take y) (Taken g) is 0
            (got_writes weight wire past y m f.front.rest f.front.stands 0 (none_weigh (length (ids_in wire m))) g)
            y m f.front.rest f.front.stands (inl (rw (same_end-refl y) refl)),
        got_asks past seq y m hd r c g f e,
      );
    }
    step is (drops {y = y} {id = id} {goes = goes} m f e d) =
        still (Take y) (Dropped id goes) is
        (dropped_writes weight wire past y m f.rest f.stands 0 (none_weigh (length (ids_in wire m))) id goes) refl
    step is (controls {y = y} {c = noted.Queried n (Some v)} m f e d) =
        still (Take y) (Control (noted.Queried n (Some v))) is
        (heard_writes weight wire past y 0
        (λ id w. let light : asks (wire.control (says.Version id w)) ≡ 0 = rw (quiet (says.Version id w)) refl in omega (arith, light)) n v) refl
    step is (controls {y = y} {c = noted.Closed n} m f e d) =
        still (Take y) (Control (noted.Closed n)) is (at_none weight wire past (Control (noted.Closed n)) (Take y) (λ x. refl)) refl
    step is (controls {y = y} {c = noted.Queried n None} m f e d) =
        still (Take y) (Control (noted.Queried n None)) is (at_none weight wire past (Control (noted.Queried n None)) (Take y) (λ x. refl)) refl
    step is (controls {y = y} {c = noted.Version n v} m f e d) =
        still (Take y) (Control (noted.Version n v)) is (at_none weight wire past (Control (noted.Version n v)) (Take y) (λ x. refl)) refl
    step is (controls {y = y} {c = noted.Required n v} m f e d) =
        still (Take y) (Control (noted.Required n v)) is (at_none weight wire past (Control (noted.Required n v)) (Take y) (λ x. refl)) refl
    step is (controls {y = y} {c = noted.Flushed n} m f e d) =
        still (Take y) (Control (noted.Flushed n)) is (at_none weight wire past (Control (noted.Flushed n)) (Take y) (λ x. refl)) refl
    step is (notifies {y = y} {notice = notice} {told = told} r o e w s f p) =
        still (Notify y notice) (Informed told) is
        (record {
          end = peer past y;
          few = λ x. none (same_end (peer past y) x)
              (lands_few weight wire past y (wire.control (control_of notice told)) [] x);
        }) refl
      where
        light : asks (wire.control (control_of notice told)) ≡ 0
        light = rw (quiet (control_of notice told)) refl

        none : (b : Bool) {n : ℕ} → n ≤ (if b then asks (wire.control (control_of notice told)) else 0) → n ≤ (if b then 0 else 0)
        none true h = omega (arith, h, light)
        none false h = h
    step is (pauses {b = b} {a = a} {k = k} rb ra e f g s) =
        still (Pause b a k) Pausing is (at_none weight wire past Pausing (Pause b a k) (λ x. refl)) refl
    step is (pipes {size = size} {p = p} {q = q} z e f) =
        still (Data size) (Made (Token p ∷ Token q ∷ [])) is (at_none weight wire past (Made (Token p ∷ Token q ∷ [])) (Data size) (λ x. refl)) refl
    step is (flows {t = t} {f = f} {told = told} d o e w) =
        still (Move (Token t) f) (Flowed t told) is (at_none weight wire past (Flowed t told) (Move (Token t) f) (λ x. refl)) refl
    step is (spoils {y = y} {why = why} {goes = goes} m f e) =
        still (Take y) (Bad why goes) is (at_none weight wire past (Bad why goes) (Take y) (λ x. refl)) refl
    step is (closes {x = x} {goes = goes} o e) = closed (closings.Handle x) goes is
    step is (closes_pending {p = p} {goes = goes} o e) = closed (closings.Pending p) goes is
    step is (closes_responder {q = q} {goes = goes} e) = closed (closings.Responder q) goes is
    step is (closes_end {y = y} {id = id} {goes = goes} r i o e) = closed (closings.Endpoint y id) goes is
    step is (closes_endpoint {y = y} {id = id} {goes = goes} r i o e) = closed (closings.Endpoint y id) goes is
    step is (skips {line = line}) = still (Skip line) Skipped is (at_none weight wire past Skipped (Skip line) (λ x. refl)) refl
    step is (refuses {asked = asked} {why = why}) = still asked (No why) is (at_none weight wire past (No why) asked (λ x. refl)) refl

  -- what was handed out and what is unread is no more than what was written
  all : (seqs : ℕ) (past : List Event) → legal wire seqs past → handed wire past + pending weight wire past ≤ requested past
  all seqs [] h = omega arith
  all seqs (event ∷ past) h = omega (
    arith,
    all seqs past h.2,
    (step seqs past h.2 event.seq h.0 h.1 (outcome wire seqs past event.seq event.asked event.told h.1)).holds,
  )

pub few_handed : (schema : Schema) (seqs : ℕ) (past : List Event) → legal (wire_of schema) seqs past → handed (wire_of schema) past ≤ requested past
few_handed schema seqs past h = omega (arith, all (wire_of schema) (asking schema) (control_asks schema) seqs past h)
