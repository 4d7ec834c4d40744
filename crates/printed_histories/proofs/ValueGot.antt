-- What a take got is a value of its kind, where all that was sent and written is bytes.
use Rattle.std.proofs.Common.{◌≡◌, ◌∙◌, ℕ, Bool, true, false, List, [], ◌∷◌, ◌++◌, length, Option, Some, None, Result, Ok, Err, refl, sym, ap, subst}
use Rattle.std.proofs.Common.{arith}
use Rattle.std.specs.Prelude.{◌==◌, ◌&&◌, ◌||◌, not, map, filter, drop, if◌then◌else◌, option_and_then, All}
use Rattle.std.specs.List.{AllByRecursion}
use Rattle.std.proofs.lemmas.List.Elements.{All-nil, All-cons, All-head, All-append, All-drop, All-map}
use Rattle.mj_base.specs.declared.fault.Fault.{Fault}
use Rattle.mj_base.specs.declared.ids.EndId.{EndId}
use Rattle.mj_base.specs.declared.ids.SeqId.{SeqId}
use Rattle.mj_base.specs.Bytes.{bytes32}
use Rattle.mj_schema.specs.declared.rows.MethodRow.{MethodRow}
use Rattle.mj_schema.specs.declared.schema.Schema.{Schema}
use Rattle.wire_model.specs.Expected.{Stands, message_marks, method_marks, method_named, parameter_marks, struct_of}
use Rattle.wire_model.specs.HeaderMarks.{header_marks}
use Rattle.wire_model.specs.Stands.{IsFine}
use Rattle.wire_model.specs.declared.target.Expected.{Expected}
use Rattle.wire_model.specs.declared.target.MessageSide.{MessageSide}
use Rattle.handle_table.specs.declared.thing.Thing.{Thing}
use Rattle.handle_table.specs.Things.{same_end}
use Rattle.control_bytes.specs.Controls.{CONTROL_HEAD, long_control, short_control, written_control}
use Rattle.message_validator.proofs.WholeMessage.{message_run, stand}
use Rattle.message_pipe.specs.declared.message.Message.{Message}
use Rattle.same_messages.proofs.Fine.{fine_right}
use Rattle.message_laws.proofs.OfItsKind.{of_its_kind}
use Rattle.message_laws.specs.Filled.{AreBytes, IsFilledSchema}
use Rattle.bind_model.specs.Machine.{Endpoints, peer, is_gone, is_local, is_peer_closed, consumed, control_of, enters, closed_ids, emits, lands, puts, written}
use Rattle.bind_model.specs.Machine.{endpoint_at, unread}
use Rattle.bind_model.specs.Replies.{legal}
use Rattle.bind_model.specs.Wire.{Wire, Content}
use Rattle.bind_model.specs.WireOf.{comes_to, content_in, stands_in, struct_named, unless_fault, wire_of}
use Rattle.bind_model.specs.declared.asked.Asked.{Asked}
use Rattle.bind_model.specs.declared.asked.Asked.TheVariants.{Raw}
use Rattle.control_bytes.specs.declared.control.Control.{Control}
use Rattle.control_bytes.specs.declared.control.Control.TheVariants as says
use Rattle.bind_model.specs.declared.event.Event.{Event}
use Rattle.bind_model.specs.declared.told.Noted.TheVariants as noted
use Rattle.bind_model.specs.declared.told.Got.{Got}
use Rattle.bind_model.specs.declared.told.Told.{Told}
use Rattle.bind_model.specs.declared.told.Told.TheVariants.{Sent, Wrote, Taken, Dropped}
use Rattle.bind_model.proofs.Outcomes.{Outcome, outcome, joins, mints, binds, associates, attaches, calls, answers, writes, gets, drops, controls, spoils}
use Rattle.bind_model.proofs.Outcomes.{closes, closes_pending, closes_responder, closes_end, closes_endpoint, notifies, pauses, pipes, flows, skips, refuses}
use Rattle.printed_histories.proofs.ValueBytes.{of32, joined, of_message}
use Rattle.printed_histories.proofs.ValueSent.{HasStruct, said_of}
use Rattle.printed_histories.specs.Asked.{IsSaid}

-- ## Messages that are bytes

-- what was sent or written with an event is bytes
abbrev pub SendsBytes : Told → Asked → Type 0
SendsBytes (Sent request bytes) asked = AreBytes bytes
SendsBytes (Wrote x) (Raw y bytes handles) = AreBytes bytes
SendsBytes told asked = Unit {0}

-- so it is with each of these events
abbrev pub AllSendBytes : List Event → Type 0
AllSendBytes past = AllByRecursion (λ (event : Event). SendsBytes event.told event.asked) past

-- a message that is bytes
abbrev HasBytes : Message → Type 0
HasBytes m = AreBytes m.bytes

-- a control of one number is bytes, and so is one of two
short_is : (kind n : ℕ) → AreBytes (short_control kind n)
short_is kind n = of_message CONTROL_HEAD (bytes32 16 ++ (bytes32 0 ++ (bytes32 kind ++ bytes32 n)))
    (joined (bytes32 16) _ (of32 16) (joined (bytes32 0) _ (of32 0) (joined (bytes32 kind) (bytes32 n) (of32 kind) (of32 n))))

long_is : (kind n v : ℕ) → AreBytes (long_control kind n v)
long_is kind n v = of_message CONTROL_HEAD (bytes32 24 ++ (bytes32 0 ++ (bytes32 kind ++ (bytes32 n ++ (bytes32 v ++ bytes32 0)))))
    (joined (bytes32 24) _ (of32 24) (joined (bytes32 0) _ (of32 0) (joined (bytes32 kind) _ (of32 kind)
    (joined (bytes32 n) _ (of32 n) (joined (bytes32 v) (bytes32 0) (of32 v) (of32 0))))))

control_is : (c : Control) → AreBytes (written_control c)
control_is (says.Closed id) = short_is 1 id
control_is (says.Query id) = short_is 2 id
control_is (says.Version id v) = long_is 3 id v
control_is (says.Require id v) = long_is 4 id v
control_is (says.Flush k) = short_is 5 k

module _ (wire : Wire) (controls_are : (c : Control) → AreBytes (wire.control c)) where
  -- messages that all are
  abbrev AllHave : List Message → Type 0
  AllHave ms = All HasBytes ms

  emitted : (past : List Event) (y : EndId) (endpoints : Endpoints) (control : ℕ → Control) (ids : List ℕ) (x : EndId)
      → AllHave (emits wire past y endpoints control ids x)
  emitted past y endpoints control ids x = of (same_end (peer past y) x && not (is_gone past x))
    where
      left : List ℕ
      left = filter (λ id. not (is_peer_closed (endpoints id))) ids

      of : (b : Bool) → AllHave (if b then map (λ id. record { bytes = wire.control (control id); handles = []; emitted = true }) left else [])
      of true = All-map HasBytes (λ id. record { bytes = wire.control (control id); handles = []; emitted = true }) left (λ k d lt. controls_are _)
      of false = All-nil HasBytes

  landed : (past : List Event) (y : EndId) (bytes : List ℕ) (handles : List Thing) (x : EndId) → AreBytes bytes → AllHave (lands past y bytes handles x)
  landed past y bytes handles x h = of (same_end (peer past y) x)
    where
      of : (b : Bool) → AllHave (if b then record { bytes = bytes; handles = handles; emitted = false } ∷ [] else [])
      of true = All-cons HasBytes (record { bytes = bytes; handles = handles; emitted = false }) [] h (All-nil HasBytes)
      of false = All-nil HasBytes

  module _ (seqs : ℕ) (past : List Event) (seq : SeqId) where
    unless_shut : (b : Bool) (y : EndId) (ids : List ℕ) (x : EndId)
        → AllHave (if b then [] else emits wire past y (endpoint_at wire past y) says.Closed ids x)
    unless_shut true y ids x = All-nil HasBytes
    unless_shut false y ids x = emitted past y (endpoint_at wire past y) says.Closed ids x

    -- what an event puts at an end
    put_step : {asked : Asked} {told : Told} → Outcome wire seqs past seq asked told → SendsBytes told asked → (x : EndId)
        → AllHave (puts wire past (written wire past) (endpoint_at wire past) told asked x)
    put_step (joins t j p q) h x = All-nil HasBytes
    put_step mints h x = All-nil HasBytes
    put_step (binds o) h x = All-nil HasBytes
    put_step (associates main e g q) h x = All-nil HasBytes
    put_step (attaches o g l e) h x = All-nil HasBytes
    put_step (calls {y = y} {s = s} {bytes = bytes} r o ps mk e w b) h x = landed past y bytes s.handles x h
    put_step (answers {q = q} {s = s} {bytes = bytes} r o rs ps e w b) h x = landed past q.end bytes s.handles x h
    put_step (writes {x = z} {bytes = bytes} {handles = handles} o w) h x = landed past z bytes handles x h
    put_step (gets {y = y} m hd r c f {g = g} e) h x =
        emitted past y (endpoint_at wire past y) says.Closed
        (closed_ids (enters wire past y (written wire past y) (endpoint_at wire past y) (Taken g))) x
    put_step (drops {y = y} {id = n} {goes = goes} m f e d) h x =
        emitted past y (endpoint_at wire past y) says.Closed
        (closed_ids (enters wire past y (written wire past y) (endpoint_at wire past y) (Dropped n goes))) x
    put_step (controls {c = noted.Closed n} m f e d) h x = All-nil HasBytes
    put_step (controls {y = y} {c = noted.Queried n (Some v)} m f e d) h x =
        emitted past y (endpoint_at wire past y) (λ (k : ℕ). says.Version k v) (n ∷ []) x
    put_step (controls {c = noted.Queried n None} m f e d) h x = All-nil HasBytes
    put_step (controls {c = noted.Version n v} m f e d) h x = All-nil HasBytes
    put_step (controls {c = noted.Required n v} m f e d) h x = All-nil HasBytes
    put_step (controls {c = noted.Flushed n} m f e d) h x = All-nil HasBytes
    put_step (spoils m f e) h x = All-nil HasBytes
    put_step (closes o e) h x = All-nil HasBytes
    put_step (closes_pending {p = p} o e) h x = unless_shut (is_gone past p.end || is_local past p) p.end (p.id ∷ []) x
    put_step (closes_responder e) h x = All-nil HasBytes
    put_step (closes_end {y = y} {id = n} r i o e) h x = unless_shut (n == 0) y (n ∷ []) x
    put_step (closes_endpoint {y = y} {id = n} r i o e) h x = unless_shut (n == 0) y (n ∷ []) x
    put_step (notifies {y = y} {notice = notice} {told = told} r o e w s f p) h x =
        landed past y (wire.control (control_of notice told)) [] x (controls_are (control_of notice told))
    put_step (pauses rb ra e f g s) h x = All-nil HasBytes
    put_step (pipes z e f) h x = All-nil HasBytes
    put_step (flows d o e f) h x = All-nil HasBytes
    put_step skips h x = All-nil HasBytes
    put_step refuses h x = All-nil HasBytes

  -- what was written is bytes, and so is what is unread
  written_have : (seqs : ℕ) (past : List Event) → legal wire seqs past → AllSendBytes past → (x : EndId) → AllHave (written wire past x)
  written_have seqs [] h sent x = All-nil HasBytes
  written_have seqs (event ∷ past) h sent x =
      All-append HasBytes (written wire past x) (puts wire past (written wire past) (endpoint_at wire past) event.told event.asked x)
      (written_have seqs past h.2 sent.1 x)
      (put_step seqs past event.seq (outcome wire seqs past event.seq event.asked event.told h.1) sent.0 x)

  unread_have : (seqs : ℕ) (past : List Event) → legal wire seqs past → AllSendBytes past → (x : EndId) → AllHave (unread wire past x)
  unread_have seqs past h sent x = of (is_gone past x)
    where
      of : (b : Bool) → AllHave (if b then [] else drop (consumed past x) (written wire past x))
      of true = All-nil HasBytes
      of false = All-drop HasBytes (consumed past x) (written wire past x) (written_have seqs past h sent x)

-- ## What a message stands for

-- what a message stands for has a method with a struct of its side, and a value of that struct
pub record GotSaid (schema : Schema) (g : Got) : Type 0 where
  pub number : ℕ
  pub has : HasStruct schema g.target number
  pub said : IsSaid schema number g.parameters

-- a run that came to its end, and what was answered
passed : {A : Type 0} (r : Result A Fault) (answer c : Content) → unless_fault (elim r [ Ok after ↦ None | Err fault ↦ Some fault ]) answer ≡ Ok c
    → ((d : A) × (r ≡ Ok d)) × (answer ≡ c)
passed (Ok d) answer c e = ((d, refl), cc)
passed (Err fault) answer c e = absurd cc

module _ (schema : Schema) (side : MessageSide) (bytes : List ℕ) where
  -- a method with a struct of the side, where the tests of the method hold
  abbrev Named : Option MethodRow → Type 0
  Named o = (method : MethodRow) × (number : ℕ) × (o ≡ Some method) × (struct_of side method ≡ Some number)

  sided : (method : MethodRow) (o : Option ℕ) → struct_of side method ≡ o → IsFine (parameter_marks schema side bytes method o) → Named (Some method)
  sided method None e fine = absurd (let f : false ≡ true = fine.0 in cc)
  sided method (Some number) e fine = (method, number, refl, e)

  named : (o : Option MethodRow) → IsFine (method_marks schema side bytes o) → Named o
  named None fine = absurd (let f : false ≡ true = fine.0 in cc)
  named (Some method) fine = sided method (struct_of side method) refl fine

module _ (schema : Schema) (filled : IsFilledSchema schema) (expected : Expected) (bytes : List ℕ) (handle_count : ℕ) where
  method_fine : IsFine (message_marks schema expected bytes) → IsFine (method_marks schema expected.side bytes (method_named schema expected bytes))
  unfolding message_marks
  method_fine fine = fine_right (header_marks bytes) _ fine

  -- the content of a message that stands
  content_said : (c : Content) → AreBytes bytes → stands_in schema expected bytes handle_count ≡ Ok c
      → (number : ℕ) × HasStruct schema c.target number × IsSaid schema number c.parameters
  content_said c small e =
      let ran = passed (message_run schema expected bytes handle_count) (content_in schema expected bytes (struct_named schema expected bytes)) c e in
      let stands : Stands schema expected bytes handle_count = stand schema expected bytes handle_count ran.0.0 ran.0.1 in
      let is = named schema expected.side bytes (method_named schema expected bytes) (method_fine stands.settled.fine) in
      let number = is.1 in
      let own : option_and_then (struct_of expected.side) (method_named schema expected bytes) ≡ Some number =
      ap (option_and_then (struct_of expected.side)) is.2 ∙ is.3 in
      let same : struct_named schema expected bytes ≡ number =
      ap (λ (o : Option ℕ). elim o [ Some number ↦ number | None ↦ 0 ]) own in
      let value = of_its_kind schema expected bytes handle_count number filled small stands own in
      let content : content_in schema expected bytes number ≡ c = ap (content_in schema expected bytes) (sym same) ∙ ran.1 in
      subst (λ (c : Content). (number : ℕ) × HasStruct schema c.target number × IsSaid schema number c.parameters) content (
        number,
        record { method = is.0; found = is.2; struct = is.3 },
        said_of schema number 201 (content_in schema expected bytes number).parameters value.0 value.1 (omega arith),
      )

-- ## What was got

-- what an event got
abbrev pub TellsSaid : Schema → Told → Type 0
TellsSaid schema (Taken g) = GotSaid schema g
TellsSaid schema told = Unit {0}

-- so it is with what each event got
abbrev pub AllTellSaid : Schema → List Event → Type 0
AllTellSaid schema past = AllByRecursion (λ (event : Event). TellsSaid schema event.told) past

module _ (schema : Schema) (filled : IsFilledSchema schema) (seqs : ℕ) where
  got_step : (past : List Event) (seq : SeqId) {asked : Asked} {told : Told} → Outcome (wire_of schema) seqs past seq asked told
      → ((y : EndId) → All HasBytes (unread (wire_of schema) past y)) → TellsSaid schema told
  unfolding wire_of
  got_step past seq (gets {y = y} m hd r c f {g = g} e) have =
      let small = All-head HasBytes m f.front.rest (subst (All HasBytes) f.front.stands (have y)) in
      let said = content_said schema filled (record { interface = r.interface; side = comes_to r.side }) m.bytes (length m.handles) c small f.stands in
      subst (TellsSaid schema) (sym e) (record { number = said.0; has = said.1; said = said.2 })
  got_step past seq (joins t j p q) have = tt
  got_step past seq mints have = tt
  got_step past seq (binds o) have = tt
  got_step past seq (associates main e g q) have = tt
  got_step past seq (attaches o g l e) have = tt
  got_step past seq (calls r o ps mk e w b) have = tt
  got_step past seq (answers r o rs ps e w b) have = tt
  got_step past seq (writes o w) have = tt
  got_step past seq (drops m f e d) have = tt
  got_step past seq (controls m f e d) have = tt
  got_step past seq (spoils m f e) have = tt
  got_step past seq (closes o e) have = tt
  got_step past seq (closes_pending o e) have = tt
  got_step past seq (closes_responder e) have = tt
  got_step past seq (closes_end r i o e) have = tt
  got_step past seq (closes_endpoint r i o e) have = tt
  got_step past seq (notifies r o e w s f p) have = tt
  got_step past seq (pauses rb ra e f g s) have = tt
  got_step past seq (pipes z e f) have = tt
  got_step past seq (flows d o e f) have = tt
  got_step past seq skips have = tt
  got_step past seq refuses have = tt

  unread_bytes : (past : List Event) → legal (wire_of schema) seqs past → AllSendBytes past → (y : EndId) → All HasBytes (unread (wire_of schema) past y)
  unfolding wire_of
  unread_bytes past h sent y = unread_have (wire_of schema) control_is seqs past h sent y

  -- each take of a legal history, all whose messages are bytes, got a value of its method's struct
  pub got_values : (past : List Event) → legal (wire_of schema) seqs past → AllSendBytes past → AllTellSaid schema past
  got_values [] h sent = tt
  got_values (event ∷ past) h sent = (
    got_step past event.seq (outcome (wire_of schema) seqs past event.seq event.asked event.told h.1) (unread_bytes past h.2 sent.1),
    got_values past h.2 sent.1,
  )
