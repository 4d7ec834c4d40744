-- The ids of endpoints, other than 0, can be named by controls: an end makes few, and the others came with headers that were read.
use Rattle.bind_model.specs.declared.told.Noted.TheVariants as noted
use Rattle.std.proofs.Common.{◌≡◌, ◌<◌, ◌≤◌, ℕ, zero, suc, ◌+◌, Bool, true, false, List, [], ◌∷◌, length, refl, ap, ◌∙◌, arith, inl, inr, cond}
use Rattle.std.specs.Prelude.{if◌then◌else◌, ◌||◌, ◌&&◌, ◌==◌, nat_lt, Option, Some, None, Result, Ok, Err, is_some}
use Rattle.std.specs.Option.{option_map}
use Rattle.std.proofs.lemmas.Bool.{eqb-true}
use Rattle.std.proofs.lemmas.Bool.Decides.{nat_tests}
use Rattle.mj_base.specs.declared.fault.Fault.{Fault}
use Rattle.mj_base.specs.declared.ids.EndId.{EndId}
use Rattle.mj_base.specs.declared.ids.SeqId.{SeqId}
use Rattle.mj_base.specs.declared.limits.TheConstants.{MAX_EVENTS}
use Rattle.mj_base.specs.Bytes.{number32, number64}
use Rattle.mj_schema.specs.declared.schema.Schema.{Schema}
use Rattle.handle_table.specs.Things.{same_end}
use Rattle.handle_table.proofs.ThingsLemmas.{and_right, or_cases, or_left, or_right}
use Rattle.message_header.specs.FirstFailed.{first_failed}
use Rattle.message_header.proofs.Fine.{header_tests, passing_is_fine}
use Rattle.message_pipe.specs.declared.message.Message.{Message}
use Rattle.message_pipe.specs.Mail.{front_of}
use Rattle.wire_model.specs.HeaderMarks.{CONTROL_ID, header_marks, id_marks, ids_marks, payload_marks}
use Rattle.wire_model.specs.Marks.{Mark}
use Rattle.wire_model.specs.Message.{ids_from, ids_read}
use Rattle.wire_model.specs.Stands.{IsFine}
use Rattle.bind_model.specs.declared.asked.Asked.{Asked}
use Rattle.bind_model.specs.declared.endpoint.Endpoint.{Endpoint}
use Rattle.bind_model.specs.declared.endpoint.State.TheVariants as states
use Rattle.bind_model.specs.declared.event.Event.{Event}
use Rattle.bind_model.specs.declared.told.Got.{Got}
use Rattle.bind_model.specs.declared.told.Told.{Told}
use Rattle.bind_model.specs.declared.told.Told.TheVariants.{Dropped, Taken}
use Rattle.bind_model.specs.Laws.{has_number}
use Rattle.bind_model.specs.Machine.{Endpoints, Entry, changes, endpoint_at, endpoint_named, enters_from, entries_of, entry_in, ids_in, is_local}
use Rattle.bind_model.specs.Machine.{is_strange, only_at, unread_of, with_peer_closed, with_state, written}
use Rattle.bind_model.specs.Replies.{legal}
use Rattle.bind_model.specs.Tables.{ids_of_entries}
use Rattle.bind_model.specs.Wire.{Header, Named}
use Rattle.bind_model.specs.WireOf.{unless_fault, wire_of}
use Rattle.bind_model.proofs.Outcomes.{Outcome, outcome, joins, mints, binds, associates, attaches, calls, answers, writes, gets, drops, controls, spoils}
use Rattle.bind_model.proofs.Outcomes.{closes, closes_pending, closes_responder, closes_end, closes_endpoint, notifies, pauses, pipes, flows, skips}
use Rattle.bind_model.proofs.Outcomes.{refuses}
use Rattle.bind_model.proofs.PendingFacts.{next_below}
use Rattle.core_state.specs.Emitting.{IsNamed}

-- ## The ids that a header carries

both : (a b : Bool) → (a && b) ≡ true → (a ≡ true) × (b ≡ true)
both true true e = (refl, refl)
both true false e = absurd cc
both false b e = absurd cc

each_named : (bytes : List ℕ) (p n j : ℕ) → IsFine (id_marks bytes p n) → has_number (ids_from bytes p n) j ≡ true → IsNamed j
each_named bytes p zero j fine h = absurd cc
each_named bytes p (suc n) j fine h = elim (or_cases (number32 bytes p == j) (has_number (ids_from bytes (p + 4) n) j) h) [
  | inl s ↦ at s
  | inr s ↦ each_named bytes (p + 4) n j fine.1 s
]
  where
    at : (number32 bytes p == j) ≡ true → IsNamed j
    at s =
        let is : number32 bytes p ≡ j = eqb-true (number32 bytes p) j s in
        let two = both (nat_lt 0 (number32 bytes p)) (nat_lt (number32 bytes p) CONTROL_ID) fine.0 in
        let low : 0 < number32 bytes p = grind (arith, nat_tests, two.0) in
        let high : number32 bytes p < CONTROL_ID = grind (arith, nat_tests, two.1) in
        record { some = omega (arith, is, low); other = rw (← is) high }

behind_true : (b : Bool) (xs ys : List Mark) → b ≡ false → IsFine (cond b xs ys) → IsFine ys
behind_true true xs ys e fine = absurd cc
behind_true false xs ys e fine = fine

not_null : (b : Bool) (x : Mark) (ys : List Mark) → (IsFine (x ∷ []) → ⊥) → IsFine (cond b (x ∷ []) ys) → IsFine ys
not_null true x ys never fine = absurd (never fine)
not_null false x ys never fine = fine

-- each id in the array that a payload points to
carried_named : (bytes : List ℕ) (start j : ℕ) → (number64 bytes 40 == 0) ≡ false → IsFine (ids_marks bytes start)
    → has_number (ids_from bytes (40 + number64 bytes 40 + 8) (number32 bytes (40 + number64 bytes 40 + 4))) j ≡ true → IsNamed j
unfolding ids_marks
carried_named bytes start j some fine h =
    let there = behind_true (number64 bytes 40 == 0) _ _ some fine in
    each_named bytes (40 + number64 bytes 40 + 8) (number32 bytes (40 + number64 bytes 40 + 4)) j there.1.1.1.1.1 h

pointed_fine : (bytes : List ℕ) → IsFine (payload_marks bytes) → IsFine (ids_marks bytes (32 + number64 bytes 32))
unfolding payload_marks
pointed_fine bytes fine =
    let there = not_null (number64 bytes 32 == 0) _ _ (λ f. let no : false ≡ true = f.0 in absurd cc) fine in
    there.1.1.1

started_fine : (bytes : List ℕ) → IsFine (header_marks bytes) → IsFine (cond (nat_lt (number32 bytes 4) 2) [] (payload_marks bytes))
unfolding header_marks
started_fine bytes (a, (b, (c, (d, (e, (f, rest)))))) = rest

pub read_named : (bytes : List ℕ) (j : ℕ) → IsFine (header_marks bytes) → has_number (ids_read bytes) j ≡ true → IsNamed j
read_named bytes j fine h = go (nat_lt (number32 bytes 4) 2) (number64 bytes 40 == 0) refl refl h
  where
    go : (a b : Bool) → nat_lt (number32 bytes 4) 2 ≡ a → (number64 bytes 40 == 0) ≡ b
        → has_number (if a then [] else (if b then [] else ids_from bytes (40 + number64 bytes 40 + 8) (number32 bytes (40 + number64 bytes 40 + 4)))) j
        ≡ true → IsNamed j
    go true b e f g = absurd cc
    go false true e f g = absurd cc
    go false false e f g =
        carried_named bytes (32 + number64 bytes 32) j f
        (pointed_fine bytes (behind_true (nat_lt (number32 bytes 4) 2) [] (payload_marks bytes) e (started_fine bytes fine))) g

module _ (schema : Schema) where
  -- a header that is read
  pub header_named : (bytes : List ℕ) (h : Header) (j : ℕ) → (wire_of schema).header bytes ≡ Ok h → has_number h.ids j ≡ true → IsNamed j
  unfolding wire_of
  header_named bytes h j e i = go (first_failed (header_marks bytes)) refl e
    where
      go : (o : Option Fault) → first_failed (header_marks bytes) ≡ o → unless_fault o (record { id = number32 bytes 8; ids = ids_read bytes }) ≡ Ok h
          → IsNamed j
      go (Some fault) f g = absurd cc
      go None f g =
          let same : record { id = number32 bytes 8; ids = ids_read bytes } ≡ h = cc in
          read_named bytes j (passing_is_fine (header_marks bytes) (header_tests bytes) f)
          (ap (λ (k : Header). has_number k.ids j) same ∙ i)

  pub ids_named : (m : Message) (j : ℕ) → has_number (ids_in (wire_of schema) m) j ≡ true → IsNamed j
  ids_named m j i = go ((wire_of schema).header m.bytes) refl i
    where
      go : (r : Result Header Fault) → (wire_of schema).header m.bytes ≡ r → has_number (elim r [ Ok h ↦ h.ids | Err fault ↦ [] ]) j ≡ true → IsNamed j
      go (Ok h) e g = header_named m.bytes h j e g
      go (Err fault) e g = absurd cc

-- ## The endpoints of a legal history

entries_within : (endpoints : Endpoints) (named : List Named) (k : ℕ) (earlier ids : List ℕ) (j : ℕ)
    → has_number (ids_of_entries (entries_of endpoints named k earlier ids)) j ≡ true → has_number ids j ≡ true
entries_within endpoints named k earlier [] j h = h
entries_within endpoints named k earlier (id ∷ ids) j h =
    go (is_strange endpoints earlier id) (entries_within endpoints named (suc k) (id ∷ earlier) ids j) h
  where
    go : (b : Bool) → (has_number (ids_of_entries (entries_of endpoints named (suc k) (id ∷ earlier) ids)) j ≡ true → has_number ids j ≡ true)
        → has_number (ids_of_entries (if b then entries_of endpoints named (suc k) (id ∷ earlier) ids
        else (record { id = id; endpoint = endpoint_named named k } ∷ entries_of endpoints named (suc k) (id ∷ earlier) ids))) j ≡ true
        → ((id == j) || has_number ids j) ≡ true
    go true rest g = or_right (id == j) (has_number ids j) (rest g)
    go false rest g = elim (or_cases (id == j) (has_number (ids_of_entries (entries_of endpoints named (suc k) (id ∷ earlier) ids)) j) g) [
      | inl s ↦ or_left (id == j) (has_number ids j) s
      | inr s ↦ or_right (id == j) (has_number ids j) (rest s)
    ]

entered : (es : List Entry) (id : ℕ) (o : Option Endpoint) → is_some (entry_in es id o) ≡ true → (has_number (ids_of_entries es) id ≡ true → id < CONTROL_ID)
    → (is_some o ≡ true → id < CONTROL_ID) → id < CONTROL_ID
entered [] id o h new before = before h
entered (e ∷ es) id o h new before =
    go (e.id == id) refl (λ g. entered es id o g (λ i. new (or_right (e.id == id) (has_number (ids_of_entries es) id) i)) before) h
  where
    go : (b : Bool) → (e.id == id) ≡ b → (is_some (entry_in es id o) ≡ true → id < CONTROL_ID)
        → is_some (if b then Some e.endpoint else entry_in es id o) ≡ true → id < CONTROL_ID
    go true f rest g = new (or_left (e.id == id) (has_number (ids_of_entries es) id) f)
    go false f rest g = rest g

some_still : (b : Bool) (f : Endpoint → Endpoint) (o : Option Endpoint) → is_some (if b then option_map f o else o) ≡ true → is_some o ≡ true
some_still true f None h = h
some_still true f (Some e) h = refl
some_still false f o h = h

one_new : (y x : EndId) (n id : ℕ) (e : Endpoint) (o : Option Endpoint) → n < CONTROL_ID → is_some (only_at y n x id (Some e) o) ≡ true
    → (is_some o ≡ true → id < CONTROL_ID) → id < CONTROL_ID
one_new y x n id e o few h before = go (same_end y x && (n == id)) refl h
  where
    go : (b : Bool) → (same_end y x && (n == id)) ≡ b → is_some (if b then Some e else o) ≡ true → id < CONTROL_ID
    go true f g = let is : n ≡ id = eqb-true n id (and_right (same_end y x) (n == id) f) in rw (← is) few
    go false f g = before g

module _ (schema : Schema) (seqs : ℕ) where
  abbrev AreBelow : List Event → Type 0
  AreBelow past = (x : EndId) (id : ℕ) → is_some (endpoint_at (wire_of schema) past x id) ≡ true → id < CONTROL_ID

  enters_got : (endpoints : Endpoints) (g : Got) (o : Option Message) (j : ℕ)
      → has_number (ids_of_entries (enters_from (wire_of schema) endpoints (Taken g) o)) j ≡ true → j < CONTROL_ID
  enters_got endpoints g None j h = absurd cc
  enters_got endpoints g (Some m) j h = (ids_named schema m j (entries_within endpoints _ 0 [] (ids_in (wire_of schema) m) j h)).other

  enters_dropped : (endpoints : Endpoints) (n : ℕ) (gone : List _) (o : Option Message) (j : ℕ)
      → has_number (ids_of_entries (enters_from (wire_of schema) endpoints (Dropped n gone) o)) j ≡ true → j < CONTROL_ID
  enters_dropped endpoints n gone None j h = absurd cc
  enters_dropped endpoints n gone (Some m) j h = (ids_named schema m j (entries_within endpoints [] 0 [] (ids_in (wire_of schema) m) j h)).other

  if_here : (b : Bool) (es : List Entry) (id : ℕ) (o : Option Endpoint) → is_some (if b then entry_in es id o else o) ≡ true
      → (has_number (ids_of_entries es) id ≡ true → id < CONTROL_ID) → (is_some o ≡ true → id < CONTROL_ID) → id < CONTROL_ID
  if_here true es id o h new before = entered es id o h new before
  if_here false es id o h new before = before h

  module _ (past : List Event) (few : length past ≤ MAX_EVENTS) (b : AreBelow past) (x : EndId) (id : ℕ) where
    before : is_some (endpoint_at (wire_of schema) past x id) ≡ true → id < CONTROL_ID
    before = b x id

    abbrev after : SeqId → Told → Asked → Option Endpoint
    after seq told asked = changes (wire_of schema) past (written (wire_of schema) past) (endpoint_at (wire_of schema) past) seq told asked x id

    step : {seq : SeqId} {asked : Asked} {told : Told} → Outcome (wire_of schema) seqs past seq asked told → is_some (after seq told asked) ≡ true
        → id < CONTROL_ID
    step (joins t j p q) h = before h
    step mints h = before h
    step (binds {x = z} o) h = one_new z x 0 id _ (endpoint_at (wire_of schema) past x id) (omega arith) h before
    step (associates {y} {side} {interface} {p} main e g q) h =
        let n : p.id < CONTROL_ID = rw q (next_below (wire_of schema) past few y) in
        one_new p.end x p.id id _ (endpoint_at (wire_of schema) past x id) n h before
    step (attaches {p} {t} o g l e) h =
        before (some_still (same_end p.end x && (p.id == id)) (with_state (states.Bound t)) (endpoint_at (wire_of schema) past x id) h)
    step (calls r o ps mk e w b) h = before h
    step (answers r o rs ps e w b) h = before h
    step (writes o w) h = before h
    step (gets {y} m hd r c f {g} e) h =
        if_here (same_end y x) _ id (endpoint_at (wire_of schema) past x id) h
        (enters_got (endpoint_at (wire_of schema) past y) g (front_of (unread_of past y (written (wire_of schema) past y))) id) before
    step (drops {y} {id = n} {goes} m f e d) h =
        if_here (same_end y x) _ id (endpoint_at (wire_of schema) past x id) h
        (enters_dropped (endpoint_at (wire_of schema) past y) n goes (front_of (unread_of past y (written (wire_of schema) past y))) id) before
    step (controls {c = noted.Queried n v} m f e d) h = before h
    step (controls {c = noted.Version n v} m f e d) h = before h
    step (controls {c = noted.Required n v} m f e d) h = before h
    step (controls {c = noted.Flushed n} m f e d) h = before h
    step (controls {y} {c = noted.Closed n} m f e d) h =
        before (some_still (same_end y x && (n == id)) with_peer_closed (endpoint_at (wire_of schema) past x id) h)
    step (spoils m f e) h = before h
    step (closes o e) h = before h
    step (closes_pending {p} o e) h = before (go (same_end p.end x && (p.id == id)) (is_local past p) (endpoint_at (wire_of schema) past x id) h)
      where
        go : (a l : Bool) (o : Option Endpoint)
            → is_some (if a then (if l then option_map with_peer_closed o else option_map (with_state states.Closed) o) else o) ≡ true → is_some o ≡ true
        go true true None h = h
        go true true (Some e) h = refl
        go true false None h = h
        go true false (Some e) h = refl
        go false l o h = h
    step (closes_responder e) h = before h
    step (closes_end {y} {id = n} r i o e) h =
        before (some_still (same_end y x && (n == id)) (with_state states.Closed) (endpoint_at (wire_of schema) past x id) h)
    step (closes_endpoint {y} {id = n} r i o e) h =
        before (some_still (same_end y x && (n == id)) (with_state states.Closed) (endpoint_at (wire_of schema) past x id) h)
    step (notifies r o e w s f p) h = before h
    step (pauses rb ra e f g s) h = before h
    step (pipes e p q) h = before h
    step (flows d o e f) h = before h
    step skips h = before h
    step refuses h = before h

  pub ids_below : (past : List Event) → legal (wire_of schema) seqs past → length past ≤ MAX_EVENTS → AreBelow past
  ids_below [] h few x id e = absurd cc
  ids_below (event ∷ past) h few x id e =
      step past (omega (arith, few)) (ids_below past h.2 (omega (arith, few))) x id
      (outcome (wire_of schema) seqs past event.seq event.asked event.told h.1) e
