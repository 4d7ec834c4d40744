-- What a schema's wire reads of bytes: which are those of a request with a response, and how many ids they carry.
use Rattle.std.proofs.Common.{◌≡◌, ◌≤◌, ◌<◌, ℕ, ℤ, zero, suc, ◌+◌, ◌-◌, ◌*◌, ◌%◌, ◌^◌, Bool, true, false, List, [], ◌∷◌, ◌++◌, length, refl, sym, ap, ◌∙◌, subst, arith}
use Rattle.std.specs.Prelude.{◌==◌, nat_lt, Option, Some, None, Result, Ok, Err, is_some, if◌then◌else◌}
use Rattle.std.proofs.lemmas.Bool.Decides.{nat_tests}
use Rattle.std.proofs.lemmas.List.{get_or_append_left, get_or-append-add}
use Rattle.mj_base.specs.Bytes.{bytes16, bytes32, bytes64, number32, number64, rounded8}
use Rattle.mj_base.specs.declared.fault.Fault.{Fault}
use Rattle.mj_base.specs.declared.fault.FaultKind.{FaultKind}
use Rattle.mj_schema.specs.Lookups.{method_in}
use Rattle.mj_schema.specs.declared.rows.MethodRow.{MethodRow}
use Rattle.mj_schema.specs.declared.schema.Schema.{Schema}
use Rattle.hex.specs.Hex.{IsBytes}
use Rattle.wire_model.specs.Cells.{zeros}
use Rattle.wire_model.specs.Expected.{flags_of, method_marks, method_named, message_marks}
use Rattle.wire_model.specs.HeaderMarks.{HEADER_BYTES_2, HEADER_BYTES_3, header_marks}
use Rattle.wire_model.specs.Marks.{Mark, Test}
use Rattle.wire_model.specs.Message.{Head, back_of, basic, front, id_bytes, ids_from, ids_read, is_plain, message, moment_bytes, plain_front, written_request}
use Rattle.wire_model.specs.Stands.{IsFine}
use Rattle.wire_model.specs.Tight.{MAX_PAYLOAD_BYTES}
use Rattle.wire_model.specs.Trees.{Tree}
use Rattle.wire_model.specs.declared.target.Expected.{Expected}
use Rattle.wire_model.specs.declared.target.MessageSide.{MessageSide}
use Rattle.wire_model.specs.declared.target.MessageSide.TheVariants.{Request, Response}
use Rattle.wire_model.specs.declared.target.Target.{Target}
use Rattle.wire_laws.proofs.Bytes.{Holds, Holds-left, Holds-right, number32_is, number32_low, number64_is}
use Rattle.wire_encoder.specs.Prepared.{flags_for, method_of, payload_for}
use Rattle.wire_encoder.specs.declared.endpoint.EndpointSide.{EndpointSide}
use Rattle.bounds_claims.specs.Runs.{run, step, first_fault, ◌>>=◌}
use Rattle.bounds_claims.specs.declared.claims.Claims.{Claims}
use Rattle.bounds_claims.proofs.Steps.{run_append}
use Rattle.control_bytes.specs.Controls.{control_marks, control_said, written_control}
use Rattle.control_bytes.specs.declared.control.Control.{Control}
use Rattle.control_bytes.specs.declared.control.Control.TheVariants as says
use Rattle.message_header.specs.FirstFailed.{first_failed}
use Rattle.message_header.specs.Said.{IsPlaced, header_said, ids_at, no_ids}
use Rattle.message_header.proofs.Facts.{placed}
use Rattle.message_header.proofs.Fine.{header_tests, passing_is_fine}
use Rattle.message_validator.specs.Before.{before_payload}
use Rattle.bind_model.specs.Replies.{is_response}
use Rattle.bind_model.specs.Wire as machine
use Rattle.bind_model.specs.Wire.{Content, Header}
use Rattle.bind_model.specs.WireOf.{wire_of, comes_to, has_response, sealed, stands_in, unless_fault}
use Rattle.event_counts.specs.Counts.{carries, is_asking, query_headed, query_in, query_of, query_said}
use Rattle.wire_model.specs.HeaderMarks.{CONTROL_ID}

-- ## Requests with a response

test_holds : (c d : Claims) (b : Bool) (kind : FaultKind) (at : ℕ) (ms : List Mark) → run c (Test b kind at ∷ ms) ≡ Ok d → b ≡ true
unfolding run step
test_holds c d true kind at ms e = refl
test_holds c d false kind at ms e = absurd cc

part_runs : (c d : Claims) (xs ys : List Mark) → run c (xs ++ ys) ≡ Ok d → (e : Claims) × (run e ys ≡ Ok d)
part_runs c d xs ys e = go (run c xs) (sym (run_append c xs ys) ∙ e)
  where
    go : (r : Result Claims Fault) → (r >>= λ a. run a ys) ≡ Ok d → (e : Claims) × (run e ys ≡ Ok d)
    go (Ok a) f = (a, f)
    go (Err fault) f = absurd cc

no_fault : (o : Option Fault) (answer c : Content) → unless_fault o answer ≡ Ok c → (o ≡ None) × (c ≡ answer)
no_fault None answer c e = (refl, cc)
no_fault (Some fault) answer c e = absurd cc

runs : (claims : Claims) (ms : List Mark) → first_fault claims ms ≡ None → (d : Claims) × (run claims ms ≡ Ok d)
runs claims ms e = go (run claims ms) e
  where
    go : (r : Result Claims Fault) → ◌≡◌ {A = Option Fault} (elim r [ Ok after ↦ None | Err fault ↦ Some fault ]) None → (d : Claims) × (r ≡ Ok d)
    go (Ok d) f = (d, refl)
    go (Err fault) f = absurd cc

method_asks : (schema : Schema) (bytes : List ℕ) (o : Option MethodRow) (c d : Claims) → has_response o ≡ true
    → run c (method_marks schema Request bytes o) ≡ Ok d → is_asking bytes ≡ true
method_asks schema bytes None c d has e = absurd cc
method_asks schema bytes (Some row) c d has e = go row.response has (test_holds c d _ _ _ _ e)
  where
    go : (o : Option ℕ) → is_some o ≡ true → (number32 bytes 16 % 4 == flags_of Request o) ≡ true → is_asking bytes ≡ true
    go None has f = absurd cc
    go (Some n) has f = f

-- a message that stands for a request with a response asks for it
stands_asks : (schema : Schema) (expected : Expected) (bytes : List ℕ) (n : ℕ) (c : Content) → stands_in schema expected bytes n ≡ Ok c
    → is_response c.target.side ≡ false → has_response (method_in schema.interfaces c.target.interface c.target.method) ≡ true → is_asking bytes ≡ true
unfolding message_marks
stands_asks schema expected bytes n c e side has =
    let passed = no_fault (first_fault (before_payload bytes n) (message_marks schema expected bytes)) _ c e in
    let ran = runs (before_payload bytes n) (message_marks schema expected bytes) passed.0 in
    let rest = part_runs (before_payload bytes n) ran.0 (header_marks bytes)
    (method_marks schema expected.side bytes (method_named schema expected bytes)) ran.1 in
    let side_is : c.target.side ≡ expected.side = ap (λ (x : Content). x.target.side) passed.1 in
    let interface_is : c.target.interface ≡ expected.interface = ap (λ (x : Content). x.target.interface) passed.1 in
    let method_is : c.target.method ≡ number32 bytes 12 = ap (λ (x : Content). x.target.method) passed.1 in
    let request : expected.side ≡ Request = request_side expected.side (ap is_response (sym side_is) ∙ side) in
    method_asks schema bytes (method_named schema expected bytes) rest.0 ran.0 (rw (interface_is, method_is) at has)
    (subst (λ (s : MessageSide). run rest.0 (method_marks schema s bytes (method_named schema expected bytes)) ≡ Ok ran.0) request rest.1)
  where
    request_side : (s : MessageSide) → is_response s ≡ false → s ≡ Request
    request_side Request e = refl
    request_side Response e = absurd cc

pub asking : (schema : Schema) (side : EndpointSide) (interface : ℕ) (bytes : List ℕ) (n : ℕ) (c : Content)
    → (wire_of schema).stands side interface bytes n ≡ Ok c → is_response c.target.side ≡ false
    → (wire_of schema).responds c.target.interface c.target.method ≡ true → is_asking bytes ≡ true
unfolding wire_of
asking schema side interface bytes n c e request has =
    stands_asks schema (record { interface = interface; side = comes_to side }) bytes n c e request has

-- ## Responses

-- the bytes of a message with these ids
abbrev bytes_of : Schema → Target → Tree → machine.Head → List ℕ → List ℕ
bytes_of schema target parameters head ids = message
    (record {
      interface = head.id;
      name = target.method;
      flags = flags_for (method_of schema target) target;
      nonce = 0;
      request = head.request;
      moment = head.moment;
      ids = ids;
    })
    (payload_for schema target parameters)

-- the head of a message without ids
abbrev plain_head : Option ℤ → ℕ → ℕ → ℕ → ℕ → ℕ → Head
plain_head moment interface name flags nonce request =
    record { interface = interface; name = name; flags = flags; nonce = nonce; request = request; moment = moment; ids = [] }

flags_zero : (moment : Option ℤ) (interface name flags nonce request : ℕ) (payload : List ℕ) → flags ≡ 0
    → number32 (message (plain_head moment interface name flags nonce request) payload) 16 ≡ 0
unfolding number32 bytes32 bytes64
flags_zero None interface name flags nonce request payload e =
    subst (λ (f : ℕ). number32 (message (plain_head None interface name f nonce request) payload) 16 ≡ 0) (sym e) refl
flags_zero (Some moment) interface name flags nonce request payload e =
    subst (λ (f : ℕ). number32 (message (plain_head (Some moment) interface name f nonce request) payload) 16 ≡ 0) (sym e) refl

flags_two : (moment : Option ℤ) (interface name flags nonce request : ℕ) (payload : List ℕ) → flags ≡ 2
    → number32 (message (plain_head moment interface name flags nonce request) payload) 16 ≡ 2
unfolding number32 bytes32 bytes64
flags_two None interface name flags nonce request payload e =
    subst (λ (f : ℕ). number32 (message (plain_head None interface name f nonce request) payload) 16 ≡ 2) (sym e) refl
flags_two (Some moment) interface name flags nonce request payload e =
    subst (λ (f : ℕ). number32 (message (plain_head (Some moment) interface name f nonce request) payload) 16 ≡ 2) (sym e) refl

sealed_light : (schema : Schema) (target : Target) (parameters : Tree) (head : machine.Head) → head.ids ≡ [] → target.side ≡ Response
    → is_asking (sealed schema target parameters head) ≡ false
sealed_light schema target parameters head none side = go (method_of schema target) refl
  where
    by_number : (n : ℕ) → number32 (bytes_of schema target parameters head []) 16 ≡ n → (n % 4 == 1) ≡ false
        → is_asking (sealed schema target parameters head) ≡ false
    by_number n e f = ap (λ (ids : List ℕ). is_asking (bytes_of schema target parameters head ids)) none ∙ (ap (λ (k : ℕ). k % 4 == 1) e ∙ f)

    go : (o : Option MethodRow) → method_of schema target ≡ o → is_asking (sealed schema target parameters head) ≡ false
    go None e =
        by_number 0
        (flags_zero head.moment head.id target.method (flags_for (method_of schema target) target) 0 head.request (payload_for schema target parameters)
        (ap (λ (o : Option MethodRow). flags_for o target) e)) refl
    go (Some row) e =
        by_number 2
        (flags_two head.moment head.id target.method (flags_for (method_of schema target) target) 0 head.request (payload_for schema target parameters)
        (ap (λ (o : Option MethodRow). flags_for o target) e ∙ ap (λ (s : MessageSide). flags_of s row.response) side)) refl

-- a response without ids asks for no response
pub response_light : (schema : Schema) (target : Target) (parameters : Tree) (head : machine.Head) → head.ids ≡ [] → target.side ≡ Response
    → is_asking ((wire_of schema).sealed target parameters head) ≡ false
unfolding wire_of
response_light schema target parameters head none side = sealed_light schema target parameters head none side

-- ## Controls

control_flags : (c : Control) → is_asking (written_control c) ≡ false
unfolding number32 bytes32 bytes64
control_flags (says.Closed id) = refl
control_flags (says.Query id) = refl
control_flags (says.Version id v) = refl
control_flags (says.Require id v) = refl
control_flags (says.Flush k) = refl

-- a control asks for no response
pub control_asks : (schema : Schema) (c : Control) → is_asking ((wire_of schema).control c) ≡ false
unfolding wire_of
control_asks schema c = control_flags c

control_ids : (c : Control) → ids_read (written_control c) ≡ []
unfolding number32 bytes32 bytes64
control_ids (says.Closed id) = refl
control_ids (says.Query id) = refl
control_ids (says.Version id v) = refl
control_ids (says.Require id v) = refl
control_ids (says.Flush k) = refl

-- ## Ids

-- what carries ids passes the tests of a header, and carries those that are read
pub carries_read : (schema : Schema) (bytes : List ℕ) → carries (wire_of schema) bytes ≤ length (ids_read bytes)
unfolding wire_of
carries_read schema bytes = go (first_failed (header_marks bytes))
  where
    go : (o : Option Fault)
        → length {A = ℕ} (elim (unless_fault {A = Header} o (record { id = number32 bytes 8; ids = ids_read bytes })) [ Ok h ↦ h.ids | Err fault ↦ [] ])
        ≤ length (ids_read bytes)
    go None = omega arith
    go (Some fault) = omega arith

-- a control carries none
pub control_carries : (schema : Schema) (c : Control) → carries (wire_of schema) ((wire_of schema).control c) ≡ 0
unfolding wire_of
control_carries schema c = omega (arith, carries_read schema (written_control c), ap (λ (ids : List ℕ). length ids) (control_ids c))

-- ## Versions that are asked for

query_few : (o : Result Control Fault) → query_said o ≤ 1
query_few (Ok (says.Query id)) = omega arith
query_few (Ok (says.Closed id)) = omega arith
query_few (Ok (says.Version id v)) = omega arith
query_few (Ok (says.Require id v)) = omega arith
query_few (Ok (says.Flush k)) = omega arith
query_few (Err fault) = omega arith

-- bytes ask for one at most
pub query_one : (schema : Schema) (bytes : List ℕ) → query_in (wire_of schema) bytes ≤ 1
query_one schema bytes = go ((wire_of schema).header bytes)
  where
    by : (b : Bool) → (if b then query_said ((wire_of schema).says bytes) else 0) ≤ 1
    by true = query_few ((wire_of schema).says bytes)
    by false = omega arith

    go : (r : Result Header Fault) → query_headed (wire_of schema) bytes r ≤ 1
    go (Ok h) = by (h.id == CONTROL_ID)
    go (Err fault) = omega arith

kind_said : (c : Control) → query_of (control_said (written_control c)) ≡ query_of c
unfolding number32 bytes32 bytes64
kind_said (says.Closed id) = refl
kind_said (says.Query id) = refl
kind_said (says.Version id v) = refl
kind_said (says.Require id v) = refl
kind_said (says.Flush k) = refl

said_few : (schema : Schema) (c : Control) → query_said ((wire_of schema).says (written_control c)) ≤ query_of c
unfolding wire_of
said_few schema c = go (first_failed (control_marks (written_control c)))
  where
    go : (o : Option Fault) → query_said (unless_fault o (control_said (written_control c))) ≤ query_of c
    go None = omega (arith, kind_said c)
    go (Some fault) = omega arith

-- no control but a query is read as one
pub control_queries : (schema : Schema) (c : Control) → query_in (wire_of schema) ((wire_of schema).control c) ≤ query_of c
unfolding wire_of
control_queries schema c = go ((wire_of schema).header (written_control c))
  where
    by : (b : Bool) → (if b then query_said ((wire_of schema).says (written_control c)) else 0) ≤ query_of c
    by true = said_few schema c
    by false = omega arith

    go : (r : Result Header Fault) → query_headed (wire_of schema) (written_control c) r ≤ query_of c
    go (Ok h) = by (h.id == CONTROL_ID)
    go (Err fault) = omega arith

-- numbers of bytes
small32 : (bytes : List ℕ) → IsBytes bytes → (at : ℕ) → number32 bytes at < 2 ^ 32
unfolding number32
small32 bytes are at = omega (arith, are at, are (at + 1), are (at + 2), are (at + 3))

-- where the header's tests hold, its ids lie within the message
fine_few : (bytes : List ℕ) → IsBytes bytes → IsFine (header_marks bytes) → length (ids_read bytes) ≤ length bytes
fine_few bytes are fine =
    let p : IsPlaced bytes (header_said bytes) = placed bytes fine (short (nat_lt (number32 bytes 4) 2) (number64 bytes 40 == 0)) in
    omega (arith, p.within, p.counted)
  where
    short : (a b : Bool) → (if a then no_ids bytes else (if b then no_ids bytes else ids_at bytes (40 + number64 bytes 40))).len < 2 ^ 34
    short true b = omega arith
    short false true = omega arith
    short false false = omega (arith, small32 bytes are (40 + number64 bytes 40 + 4))

-- each id has four bytes
pub raw_carries : (schema : Schema) (bytes : List ℕ) → IsBytes bytes → carries (wire_of schema) bytes ≤ length bytes
unfolding wire_of
raw_carries schema bytes are = go (first_failed (header_marks bytes)) refl
  where
    go : (o : Option Fault) → first_failed (header_marks bytes) ≡ o
        → length {A = ℕ} (elim (unless_fault {A = Header} o (record { id = number32 bytes 8; ids = ids_read bytes })) [ Ok h ↦ h.ids | Err fault ↦ [] ])
        ≤ length bytes
    go None e = fine_few bytes are (passing_is_fine (header_marks bytes) (header_tests bytes) e)
    go (Some fault) e = omega arith

-- ## Ids of what was sealed

in_front : (front rest : List ℕ) → Holds (front ++ rest) 0 front
in_front front rest = record { each = λ i lt. let e : 0 + i ≡ i = omega arith in rw e (get_or_append_left front rest 0 i lt) }

in_back : (front mid back : List ℕ) → Holds (front ++ (mid ++ back)) (length front + length mid) back
in_back front mid back = record {
  each = λ i lt.
      let e : length front + length mid + i ≡ length front + (length mid + i) = omega arith in
      rw e (get_or-append-add front (mid ++ back) (length mid + i) 0 ∙ get_or-append-add mid back i 0);
}

from_length : (bytes : List ℕ) (p n : ℕ) → length (ids_from bytes p n) ≡ n
from_length bytes p zero = refl
from_length bytes p (suc n) = ap suc (from_length bytes (p + 4) n)

-- a message without a moment has no more ids than were written
some_read : (i : ℕ) (is : List ℕ) (h : Head) (payload : List ℕ) → length payload ≤ MAX_PAYLOAD_BYTES
    → length (ids_read (front None (i ∷ is) h (length payload) ++ (payload ++ back_of (i ∷ is)))) ≤ length (i ∷ is)
unfolding bytes16 bytes32 bytes64
some_read i is h payload small =
    let n = length payload in
    let k = length (i ∷ is) in
    let request = written_request (is_plain h.flags) h.request in
    let pointers : List ℕ = bytes64 16 ++ bytes64 (8 + n) in
    let rest : List ℕ = bytes64 request ++ pointers in
    let basics : List ℕ = basic HEADER_BYTES_2 2 h in
    let front : List ℕ = basics ++ rest in
    let pad : List ℕ = zeros (rounded8 (4 * k) - 4 * k) in
    let back : List ℕ = bytes32 (8 + 4 * k) ++ (bytes32 k ++ (id_bytes (i ∷ is) ++ pad)) in
    let bytes : List ℕ = front ++ (payload ++ back) in
    let there = in_front front (payload ++ back) in
    let r4 = Holds-right bytes 0 (bytes32 HEADER_BYTES_2)
    (bytes32 2 ++ (bytes32 h.interface ++ (bytes32 h.name ++ (bytes32 h.flags ++ bytes32 h.nonce)))) (Holds-left bytes 0 basics rest there) in
    let version : number32 bytes 4 ≡ 2 = number32_is bytes 4 2 (omega arith) (Holds-left bytes 4 (bytes32 2)
    (bytes32 h.interface ++ (bytes32 h.name ++ (bytes32 h.flags ++ bytes32 h.nonce))) r4) in
    let r24 = Holds-right bytes 0 basics rest there in
    let r32 = Holds-right bytes 24 (bytes64 request) pointers r24 in
    let pointer : number64 bytes 40 ≡ 8 + n = number64_is bytes 40 (8 + n) (omega (arith, small)) (Holds-right bytes 32 (bytes64 16) (bytes64 (8 + n)) r32) in
    let q : ℕ = 40 + (8 + n) in
    let place : 48 + n ≡ q = omega arith in
    let at_ids : Holds bytes q back = subst (λ x. Holds bytes x back) place (in_back front payload back) in
    let second = Holds-right bytes q (bytes32 (8 + 4 * k)) (bytes32 k ++ (id_bytes (i ∷ is) ++ pad)) at_ids in
    let count : number32 bytes (q + 4) ≡ k % 2 ^ 32 =
    number32_low bytes (q + 4) k (Holds-left bytes (q + 4) (bytes32 k) (id_bytes (i ∷ is) ++ pad) second) in
    let some : (8 + n == 0) ≡ false = grind (arith, nat_tests) in
    let read : length (ids_read bytes) ≡ k % 2 ^ 32 = rw (version, pointer, some, count) (from_length bytes (q + 8) (k % 2 ^ 32)) in
    omega (arith, read)

-- nor has one with a moment
timed_read : (moment : ℤ) (i : ℕ) (is : List ℕ) (h : Head) (payload : List ℕ) → length payload ≤ MAX_PAYLOAD_BYTES
    → length (ids_read (front (Some moment) (i ∷ is) h (length payload) ++ (payload ++ back_of (i ∷ is)))) ≤ length (i ∷ is)
unfolding bytes16 bytes32 bytes64
timed_read moment i is h payload small =
    let n = length payload in
    let k = length (i ∷ is) in
    let request = written_request (is_plain h.flags) h.request in
    let behind : List ℕ = bytes64 (16 + n) ++ moment_bytes moment in
    let pointers : List ℕ = bytes64 24 ++ behind in
    let rest : List ℕ = bytes64 request ++ pointers in
    let basics : List ℕ = basic HEADER_BYTES_3 3 h in
    let front : List ℕ = basics ++ rest in
    let pad : List ℕ = zeros (rounded8 (4 * k) - 4 * k) in
    let back : List ℕ = bytes32 (8 + 4 * k) ++ (bytes32 k ++ (id_bytes (i ∷ is) ++ pad)) in
    let bytes : List ℕ = front ++ (payload ++ back) in
    let there = in_front front (payload ++ back) in
    let r4 = Holds-right bytes 0 (bytes32 HEADER_BYTES_3)
    (bytes32 3 ++ (bytes32 h.interface ++ (bytes32 h.name ++ (bytes32 h.flags ++ bytes32 h.nonce)))) (Holds-left bytes 0 basics rest there) in
    let version : number32 bytes 4 ≡ 3 = number32_is bytes 4 3 (omega arith) (Holds-left bytes 4 (bytes32 3)
    (bytes32 h.interface ++ (bytes32 h.name ++ (bytes32 h.flags ++ bytes32 h.nonce))) r4) in
    let r24 = Holds-right bytes 0 basics rest there in
    let r32 = Holds-right bytes 24 (bytes64 request) pointers r24 in
    let r40 = Holds-right bytes 32 (bytes64 24) behind r32 in
    let pointer : number64 bytes 40 ≡ 16 + n =
    number64_is bytes 40 (16 + n) (omega (arith, small)) (Holds-left bytes 40 (bytes64 (16 + n)) (moment_bytes moment) r40) in
    let q : ℕ = 40 + (16 + n) in
    let place : 56 + n ≡ q = omega arith in
    let at_ids : Holds bytes q back = subst (λ x. Holds bytes x back) place (in_back front payload back) in
    let second = Holds-right bytes q (bytes32 (8 + 4 * k)) (bytes32 k ++ (id_bytes (i ∷ is) ++ pad)) at_ids in
    let count : number32 bytes (q + 4) ≡ k % 2 ^ 32 =
    number32_low bytes (q + 4) k (Holds-left bytes (q + 4) (bytes32 k) (id_bytes (i ∷ is) ++ pad) second) in
    let some : (16 + n == 0) ≡ false = grind (arith, nat_tests) in
    let read : length (ids_read bytes) ≡ k % 2 ^ 32 = rw (version, pointer, some, count) (from_length bytes (q + 8) (k % 2 ^ 32)) in
    omega (arith, read)

-- without ids none are read
none_read : (b : Bool) (h : Head) (payload : List ℕ) → length (ids_read (plain_front b h ++ (payload ++ []))) ≤ 0
unfolding number32 bytes32 bytes64
none_read true h payload = omega arith
none_read false h payload = omega arith

timed_none : (moment : ℤ) (h : Head) (payload : List ℕ) → length (ids_read (front (Some moment) [] h (length payload) ++ (payload ++ []))) ≤ 0
unfolding number32 number64 bytes32 bytes64
timed_none moment h payload = omega arith

by_ids : (moment : Option ℤ) (is : List ℕ) (h : Head) (payload : List ℕ) → length payload ≤ MAX_PAYLOAD_BYTES
    → length (ids_read (front moment is h (length payload) ++ (payload ++ back_of is))) ≤ length is
by_ids None [] h payload small = none_read (is_plain h.flags) h payload
by_ids None (i ∷ is) h payload small = some_read i is h payload small
by_ids (Some moment) [] h payload small = timed_none moment h payload
by_ids (Some moment) (i ∷ is) h payload small = timed_read moment i is h payload small

pub sealed_carries : (schema : Schema) (target : Target) (parameters : Tree) (head : machine.Head)
    → length (payload_for schema target parameters) ≤ MAX_PAYLOAD_BYTES
    → carries (wire_of schema) ((wire_of schema).sealed target parameters head) ≤ length head.ids
unfolding wire_of
sealed_carries schema target parameters head small =
    omega (
      arith,
      carries_read schema (sealed schema target parameters head),
      by_ids head.moment head.ids
          (record {
            interface = head.id;
            name = target.method;
            flags = flags_for (method_of schema target) target;
            nonce = 0;
            request = head.request;
            moment = head.moment;
            ids = head.ids;
          })
          (payload_for schema target parameters) small,
    )
