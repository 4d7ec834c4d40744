-- A message that arrives: it is got with the ids that its value names.
use Rattle.std.proofs.Common.{◌≡◌, ℕ, suc, Bool, true, false, List, [], ◌∷◌, length, refl, sym, ap, ◌∙◌, subst}
use Rattle.std.specs.Prelude.{◌||◌, ◌==◌, if◌then◌else◌, map, filter, Option, Some, None, Ok}
use Rattle.std.specs.List.{list_any}
use Rattle.mj_base.specs.declared.header.Header.{Header as Read}
use Rattle.mj_base.specs.declared.ids.EndId.{EndId}
use Rattle.mj_base.specs.Bytes.{number32}
use Rattle.message_pipe.specs.declared.message.Message.{Message}
use Rattle.handle_table.specs.declared.thing.Thing.{Thing}
use Rattle.mj_schema.specs.declared.schema.Schema.{Schema}
use Rattle.wire_model.specs.Expected.{message_value}
use Rattle.wire_model.specs.Indexes.{handles_of}
use Rattle.wire_model.specs.Message.{ids_read, payload_start}
use Rattle.wire_model.specs.Tight.{value_of}
use Rattle.wire_model.specs.Trees.{Tree}
use Rattle.wire_model.specs.declared.target.Expected.{Expected}
use Rattle.wire_model.specs.declared.target.Target.{Target}
use Rattle.bind_model.specs.Machine.{Endpoints, Entry, content_at, endpoint_at, endpoint_named, entries_of, first_strange, is_strange, pending_as}
use Rattle.bind_model.specs.Replies.{got_known, picked, unpicked}
use Rattle.bind_model.specs.Wire.{Content, Named, Wire}
use Rattle.bind_model.specs.declared.endpoint.Endpoint.{Endpoint}
use Rattle.bind_model.specs.declared.event.Event.{Event}
use Rattle.bind_model.proofs.Entering.{indexes_of}
use Rattle.core_state.specs.Agreement.{Holds, past_of, wire_in}
use Rattle.core_state.specs.Routers.{found_at}
use Rattle.core_taking.specs.declared.admit.Admitted.{Admitted}
use Rattle.core_taking.specs.declared.reading.Arrived.{Arrived}
use Rattle.core_state.specs.declared.state.State.{State}
use Rattle.core_taking.specs.Admits.{Admits}
use Rattle.core_taking.specs.Founds.{IsArriving, IsGot, header_of, is_pending, pending_ids}
use Rattle.core_state.proofs.Steady.{found_is}

-- ## The ids that are got

-- a named id is pending
named_pending : (named : List Named) (k : ℕ) → is_pending (endpoint_named named k) ≡ list_any (λ n. n == k) (indexes_of named)
named_pending [] k = refl
named_pending (n ∷ named) k = go (n.index == k) (named_pending named k)
  where
    go : (b : Bool) → is_pending (endpoint_named named k) ≡ list_any (λ i. i == k) (indexes_of named)
        → is_pending (if b then pending_as n.endpoint else endpoint_named named k) ≡ (b || list_any (λ i. i == k) (indexes_of named))
    go true rest = refl
    go false rest = rest

-- where none is strange, those that the value names enter as pending
pub pending_picked : (endpoints : Endpoints) (named : List Named) (k : ℕ) (earlier ids : List ℕ) → first_strange endpoints earlier ids ≡ None
    → pending_ids (entries_of endpoints named k earlier ids) ≡ picked (indexes_of named) k ids
pending_picked endpoints named k earlier [] h = refl
pending_picked endpoints named k earlier (id ∷ ids) h =
    go (pending_picked endpoints named (suc k) (id ∷ earlier) ids) (is_strange endpoints earlier id) h
  where
    others : List Entry
    others = entries_of endpoints named (suc k) (id ∷ earlier) ids

    picks : List ℕ
    picks = picked (indexes_of named) (suc k) ids

    one : (c d : Bool) → c ≡ d → pending_ids others ≡ picks
        → map (λ (e : Entry). e.id) (if c then record { id = id; endpoint = endpoint_named named k } ∷ filter (λ (e : Entry). is_pending e.endpoint) others
        else filter (λ (e : Entry). is_pending e.endpoint) others) ≡ (if d then id ∷ picks else picks)
    one true true e rest = ap (λ (js : List ℕ). id ∷ js) rest
    one true false e rest = absurd cc
    one false true e rest = absurd cc
    one false false e rest = rest

    go : (first_strange endpoints (id ∷ earlier) ids ≡ None → pending_ids others ≡ picks) → (b : Bool)
        → (if b then Some id else first_strange endpoints (id ∷ earlier) ids) ≡ None
        → pending_ids (if b then others else (record { id = id; endpoint = endpoint_named named k } ∷ others))
        ≡ (if list_any (λ n. n == k) (indexes_of named) then id ∷ picks else picks)
    go rest true h = absurd cc
    go rest false h = one (is_pending (endpoint_named named k)) (list_any (λ n. n == k) (indexes_of named)) (named_pending named k) (rest h)

-- ## The message

-- what it stands for, by the endpoint that it is for
pub content_stands : (wire : Wire) (past : List Event) (y : EndId) (id : ℕ) (e : Endpoint) (m : Message) (c : Content)
    → endpoint_at wire past y id ≡ Some e → wire.stands e.side e.interface m.bytes (length m.handles) ≡ Ok c
    → content_at wire (endpoint_at wire past y id) m ≡ Ok c
content_stands wire past y id e m c there stands =
    ap (λ (o : Option Endpoint). content_at wire o m) there
    ∙ rw (stands, content_at) refl

-- its parameters, by what was read
pub read_value : (schema : Schema) (read bytes : List ℕ) (number : ℕ) → read ≡ bytes
    → (message_value schema read number).value ≡ value_of schema bytes (payload_start bytes) number
read_value schema read bytes number f = rw f refl

-- its method, by what was read of it
pub target_is : (expected : Expected) (method : ℕ) (read bytes : List ℕ) → method ≡ number32 read 12 → read ≡ bytes
    → ◌≡◌ {A = Target} (record { interface = expected.interface; method = method; side = expected.side })
    (record { interface = expected.interface; method = number32 bytes 12; side = expected.side })
target_is expected method read bytes e f = rw (e, f) refl

-- the handles that are named, of other names for the parameters and the things
pub picked_same : (t u : Tree) (xs ys : List Thing) → t ≡ u → xs ≡ ys → picked (handles_of t) 0 xs ≡ picked (handles_of u) 0 ys
picked_same t u xs ys e f = rw (e, f) refl

pub unpicked_same : (t u : Tree) (xs ys : List Thing) → t ≡ u → xs ≡ ys → unpicked (handles_of t) 0 xs ≡ unpicked (handles_of u) 0 ys
unpicked_same t u xs ys e f = rw (e, f) refl

-- what the ids are to the end, as the machine has it
pub admits_read : (s : State) → Holds s → (y : EndId) (m : Message) (ids : List ℕ) (named same : List Named) (a : Admitted) → ids ≡ ids_read m.bytes
    → named ≡ same → Admits (found_at s.endpoints y) named ids a → Admits (endpoint_at (wire_in s) (past_of s) y) same (ids_read m.bytes) a
admits_read s h y m ids named same a e f admits =
    subst (λ (js : List ℕ). Admits (endpoint_at (wire_in s) (past_of s) y) same js a) e
    (subst (λ (ns : List Named). Admits (endpoint_at (wire_in s) (past_of s) y) ns ids a) f
    (subst (λ (es : Endpoints). Admits es named ids a) (λ i n. found_is h.agrees y n i) admits))

-- it is got with what its value names
pub arrives : (wire : Wire) (past : List Event) (y : EndId) (m : Message) (header : Read) (c : Content) (a : Arrived)
    → IsArriving wire past y m header c a.admitted → a.admitted.strange ≡ None → a.id ≡ header.interface_id → a.target ≡ c.target
    → a.parameters ≡ c.parameters → a.request ≡ c.request → a.named ≡ picked c.handles 0 m.handles → a.left ≡ unpicked c.handles 0 m.handles
    → a.moment ≡ c.moment → IsGot wire past y a (got_known wire past y m (header_of m header) c (first_strange (endpoint_at wire past y) [] (ids_read m.bytes)))
arrives wire past y m header c a i none id target parameters request named left moment = record {
  m = m;
  h = header_of m header;
  c = c;
  front = i.read.front;
  reads = i.read.says;
  at = id;
  stands = i.stands;
  known = known;
  admits = i.admits;
  is = ap (got_known wire past y m (header_of m header) c) known
      ∙ rw (id, target, parameters, request, named, left, pendings, moment) refl;
}
  where
    known : first_strange (endpoint_at wire past y) [] (ids_read m.bytes) ≡ None
    known = sym i.admits.strange ∙ none

    pendings : pending_ids a.admitted.entries.items ≡ picked (indexes_of c.ids) 0 (ids_read m.bytes)
    pendings =
        ap (λ (es : List Entry). pending_ids es) i.admits.entries
        ∙ pending_picked (endpoint_at wire past y) c.ids 0 [] (ids_read m.bytes) known
