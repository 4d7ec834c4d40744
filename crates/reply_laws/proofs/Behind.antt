-- A flush that is consumed has all behind it that was written there before it.
use Rattle.std.proofs.Common.{◌≡◌, ◌≤◌, ◌<◌, ◌^◌, ℕ, ◌+◌, ◌*◌, ◌/◌, ◌%◌, Bool, true, false, List, [], ◌∷◌, length, refl, sym, ap, ◌∙◌, arith}
use Rattle.std.specs.Prelude.{Ok, if◌then◌else◌, ◌==◌}
use Rattle.std.proofs.lemmas.Bool.{eqb-true}
use Rattle.std.proofs.lemmas.List.{length-append}
use Rattle.mj_base.specs.declared.ids.EndId.{EndId}
use Rattle.mj_base.specs.declared.ids.SeqId.{SeqId}
use Rattle.mj_base.specs.declared.limits.TheConstants.{MAX_EVENTS}
use Rattle.mj_base.specs.Bytes.{bytes32, bytes64, number32}
use Rattle.mj_schema.specs.declared.schema.Schema.{Schema}
use Rattle.handle_table.specs.Things.{same_end}
use Rattle.handle_table.proofs.ThingsLemmas.{not_left, not_right}
use Rattle.message_pipe.specs.declared.message.Message.{Message}
use Rattle.wire_model.specs.HeaderMarks.{CONTROL_ID}
use Rattle.control_bytes.specs.Controls.{control_said, written_control}
use Rattle.bind_model.specs.Flushes as flushing
use Rattle.bind_model.specs.Flushes.{raw_by, raw_to, AllBehind, IsBehind, WroteFlush}
use Rattle.bind_model.specs.Machine.{consumed, control_of, peer, written}
use Rattle.bind_model.specs.Notices.{flushed, flushes}
use Rattle.bind_model.specs.Replies.{answer, ids_of, legal, told_of}
use Rattle.bind_model.specs.Wire.{Head, Header, Wire}
use Rattle.bind_model.specs.WireOf.{wire_of}
use Rattle.bind_model.specs.declared.asked.Asked.{Asked}
use Rattle.bind_model.specs.declared.asked.Asked.TheVariants.{Notify}
use Rattle.bind_model.specs.declared.asked.Notice.{Notice}
use Rattle.bind_model.specs.declared.asked.Notice.TheVariants.{Query, Require, Flush}
use Rattle.bind_model.specs.declared.asked.Outgoing.{Outgoing}
use Rattle.control_bytes.specs.declared.control.Control.{Control}
use Rattle.control_bytes.specs.declared.control.Control.TheVariants as says
use Rattle.bind_model.specs.declared.event.Event.{Event}
use Rattle.bind_model.specs.declared.told.Noted.TheVariants as noted
use Rattle.bind_model.specs.declared.told.Notified.{Notified}
use Rattle.bind_model.specs.declared.told.Notified.TheVariants.{Asking, Requiring, Flushing}
use Rattle.bind_model.specs.declared.told.Told.{Told}
use Rattle.bind_model.specs.declared.told.Told.TheVariants.{Notified as Informed}
use Rattle.bind_model.proofs.Outcomes.{Outcome, outcome, controls, notifies}
use Rattle.reply_laws.specs.Own as own
use Rattle.reply_laws.proofs.Past.{Since, same, later, since_legal, since_few, map_earlier, front_at, put_by, is_flush, Came, came, by_call, by_answer, by_raw, by_notice, by_control}
use Rattle.reply_laws.proofs.Reading.{no_fault, header_is, id_read}
use Rattle.reply_laws.proofs.Ids.{are_under}
use Rattle.reply_laws.proofs.Sends.{call_sent, answer_sent}

-- ## What is read of a control that was written

digits : (n : ℕ) → n % 256 + 2 ^ 8 * (n / 256 % 256) + 2 ^ 16 * (n / 65536 % 256) + 2 ^ 24 * (n / 16777216 % 256) ≡ n % 2 ^ 32
digits n = omega arith

-- what is said of bytes
said_is : (schema : Schema) (bytes : List ℕ) (c : Control) → (wire_of schema).says bytes ≡ Ok c → c ≡ control_said bytes
unfolding wire_of
said_is schema bytes c e = (no_fault _ (control_said bytes) c e).1

written_is : (schema : Schema) (c : Control) → (wire_of schema).control c ≡ written_control c
unfolding wire_of
written_is schema c = refl

kind_said : (c : Control) → is_flush (control_said (written_control c)) ≡ is_flush c
unfolding number32 bytes32 bytes64
kind_said (says.Closed id) = refl
kind_said (says.Query id) = refl
kind_said (says.Version id v) = refl
kind_said (says.Require id v) = refl
kind_said (says.Flush k) = refl

number_said : (k : ℕ) → control_said (written_control (says.Flush k)) ≡ says.Flush (k % 2 ^ 32)
unfolding number32 bytes32 bytes64
number_said k = ap says.Flush (digits k)

-- ## Few flushes

few_flushed : (past : List Event) (x : EndId) → length (flushed past x) ≤ length past
few_flushed [] x = omega arith
few_flushed (event ∷ past) x =
    let before = few_flushed past x in
    let all = length-append (flushed past x) (flushes event.told event.asked x) in
    omega (arith, before, all, one event.told event.asked)
  where
    of_flush : (y : EndId) (k : ℕ) → length (if same_end y x then k ∷ [] else []) ≤ 1
    of_flush y k = go (same_end y x)
      where
        go : (b : Bool) → length {A = ℕ} (if b then k ∷ [] else []) ≤ 1
        go true = omega arith
        go false = omega arith

    one : (told : Told) (asked : Asked) → length (flushes told asked x) ≤ 1
    one (Informed (Flushing k)) (Notify y Flush) = of_flush y k
    one told asked = omega arith

-- ## The event that wrote it

since_plain : {old past : List Event} → Since old past → (x : EndId) → raw_to past x ≡ false → raw_to old x ≡ false
since_plain same x h = h
since_plain (later {event = event} {past = past} s) x h = since_plain s x (not_left (raw_to past x) (raw_by past event.told x) h)

told_right : {wire : Wire} {seqs : ℕ} {past : List Event} {told : Notified} {y : EndId} {notice : Notice} (event : Event)
    → Outcome wire seqs past event.seq (Notify y notice) (Informed told) → told ≡ told_of past y notice
told_right event (notifies r o e w s f p) = e

turned : {holds : List Event → Told → Asked → Type 0} {past : List Event} → own.Earlier holds past → flushing.Earlier holds past
turned (own.latest h) = flushing.latest h
turned (own.before e) = flushing.before (turned e)

module _ (schema : Schema) (seqs : ℕ) (past : List Event) (h : legal (wire_of schema) seqs past) (few : length past ≤ MAX_EVENTS) (a : EndId)
    (unraw : raw_to past a ≡ false) (k n : ℕ) (m : Message) (hd : Header) (header : (wire_of schema).header m.bytes ≡ Ok hd)
    (control : (hd.id == CONTROL_ID) ≡ true) (say : (wire_of schema).says m.bytes ≡ Ok (says.Flush k)) where
  abbrev wire : Wire
  wire = wire_of schema

  number : number32 m.bytes 8 ≡ CONTROL_ID
  number = sym (ap (λ (x : Header). x.id) (header_is schema m.bytes hd header).1) ∙ eqb-true hd.id CONTROL_ID control

  said : says.Flush k ≡ control_said m.bytes
  said = said_is schema m.bytes (says.Flush k) say

  -- a sealed message is for an endpoint
  not_sealed : (s : Outgoing) (id request : ℕ)
      → m.bytes ≡ wire.sealed s.target s.parameters (record { id = id; request = request; ids = ids_of s.pendings; moment = s.moment }) → id < CONTROL_ID → ⊥
  not_sealed s id request e under =
      let small : id < 2 ^ 32 = omega (arith, under) in
      let head : Head = record { id = id; request = request; ids = ids_of s.pendings; moment = s.moment } in
      let read = id_read schema s.target s.parameters head m.bytes e small in
      omega (arith, under, read, number)

  as_written : (c : Control) → m.bytes ≡ wire.control c → says.Flush k ≡ control_said (written_control c)
  as_written c e = said ∙ ap control_said (e ∙ written_is schema c)

  not_other : (c : Control) → m.bytes ≡ wire.control c → is_flush c ≡ false → ⊥
  not_other c e none = let f : true ≡ false = ap is_flush (as_written c e) ∙ (kind_said c ∙ none) in cc

  abbrev flush_number : Control → ℕ
  flush_number (says.Flush j) = j
  flush_number c = 0

  -- what was noticed was this flush
  of_notice : (old : List Event) (y : EndId) (notice : Notice) (told : Notified) → length old ≤ MAX_EVENTS → told ≡ told_of old y notice
      → same_end (peer old y) a ≡ true → m.bytes ≡ wire.control (control_of notice told) → length (written wire old a) ≡ n
      → WroteFlush wire a k n old (Informed told) (Notify y notice)
  of_notice old y (Query id) told fewer t at e place = absurd (not_other (says.Query id) e refl)
  of_notice old y (Require id v) told fewer t at e place = absurd (not_other (says.Require id v) e refl)
  of_notice old y Flush (Flushing j) fewer t at e place =
      let is : k ≡ j % 2 ^ 32 = ap flush_number (as_written (says.Flush j) e ∙ number_said j) in
      let j_is : j ≡ length (flushed old y) + 1 = ap of_told t in
      let some = few_flushed old y in
      (at, omega (arith, is, j_is, some, fewer), place)
    where
      of_told : Notified → ℕ
      of_told (Flushing i) = i
      of_told told = 0
  of_notice old y Flush Asking fewer t at e place = absurd (let no : Asking ≡ Flushing (length (flushed old y) + 1) = t in cc)
  of_notice old y Flush Requiring fewer t at e place = absurd (let no : Requiring ≡ Flushing (length (flushed old y) + 1) = t in cc)

  by_came : (event : Event) {old : List Event} → Since (event ∷ old) past → {told : Told} {asked : Asked} → event.told ≡ told → event.asked ≡ asked
      → Came wire old a m n told asked → WroteFlush wire a k n old told asked
  by_came event {old} s t e (by_call {request = request} {bytes = bytes} {y = y} {id = id} {s = o} at is place) =
      let hn = since_legal wire seqs s h in
      let shorter = since_few s in
      let fewer : length old ≤ MAX_EVENTS = omega (arith, shorter, few) in
      let c = call_sent wire seqs old event.seq y id o request bytes (sym t ∙ hn.1 ∙ ap (answer wire seqs old event.seq) e) in
      absurd (not_sealed o id request (ap (λ (w : Message). w.bytes) is ∙ c.sealed) (are_under schema seqs old hn.2 fewer y id c.r c.here))
  by_came event {old} s t e (by_answer {request = request} {bytes = bytes} {r = q} {s = o} at is place) =
      let hn = since_legal wire seqs s h in
      let shorter = since_few s in
      let fewer : length old ≤ MAX_EVENTS = omega (arith, shorter, few) in
      let c = answer_sent wire seqs old event.seq q o request bytes (sym t ∙ hn.1 ∙ ap (answer wire seqs old event.seq) e) in
      absurd (not_sealed o q.id q.request (ap (λ (w : Message). w.bytes) is ∙ c.sealed) (are_under schema seqs old hn.2 fewer q.end q.id c.r c.here))
  by_came event {old} s t e (by_raw at) = absurd (
      let none : raw_by old event.told a ≡ false = not_right (raw_to old a) (raw_by old event.told a) (since_plain s a unraw) in
      let no : false ≡ true = sym none ∙ (ap (λ (x : Told). raw_by old x a) t ∙ at) in
      cc)
  by_came event {old} s t e (by_notice {told = told} {y = y} {notice = notice} at is place) =
      let hn = since_legal wire seqs s h in
      let shorter = since_few s in
      let fewer : length old ≤ MAX_EVENTS = omega (arith, shorter, few) in
      let o = outcome wire seqs old event.seq (Notify y notice) (Informed told) (sym t ∙ hn.1 ∙ ap (answer wire seqs old event.seq) e) in
      of_notice old y notice told fewer (told_right event o) at is place
  by_came event s t e (by_control c is none) = absurd (not_other c is none)

behind_step : (schema : Schema) (seqs : ℕ) (past : List Event) (seq : SeqId) → legal (wire_of schema) seqs past → length past ≤ MAX_EVENTS
    → {asked : Asked} {told : Told} → Outcome (wire_of schema) seqs past seq asked told → IsBehind (wire_of schema) past told asked
behind_step schema seqs past seq h few (controls {y = y} {c = noted.Flushed k} m f e d) = λ unraw. turned (
    map_earlier (put_by (wire_of schema) past y m (consumed past y) (front_at (wire_of schema) past y m f.rest f.open_here f.stands))
    (λ event old s i. by_came schema seqs past h few y unraw k (consumed past y) m d.h d.header d.control d.is event s refl refl
    (came (wire_of schema) old y m (consumed past y) event.told event.asked i)))
behind_step schema seqs past seq h few (controls {c = noted.Closed i} m f e d) = tt
behind_step schema seqs past seq h few (controls {c = noted.Queried i v} m f e d) = tt
behind_step schema seqs past seq h few (controls {c = noted.Version i v} m f e d) = tt
behind_step schema seqs past seq h few (controls {c = noted.Required i v} m f e d) = tt
behind_step schema seqs past seq h few o = tt

-- each flush that is consumed
pub all_behind : (schema : Schema) (seqs : ℕ) (past : List Event) → legal (wire_of schema) seqs past → length past ≤ MAX_EVENTS
    → AllBehind (wire_of schema) past
all_behind schema seqs [] h few = tt
all_behind schema seqs (event ∷ past) h few =
    let fewer : length past ≤ MAX_EVENTS = omega (arith, few) in (
      behind_step schema seqs past event.seq h.2 fewer (outcome (wire_of schema) seqs past event.seq event.asked event.told h.1),
      all_behind schema seqs past h.2 fewer,
    )
