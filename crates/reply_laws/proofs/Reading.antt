-- What a schema's wire reads of bytes, and what it says of a message that was sealed.
use Rattle.std.proofs.Common.{◌≡◌, ℕ, ◌%◌, ◌^◌, ◌<◌, Bool, true, false, List, ◌∷◌, ◌++◌, refl, sym, ap, ◌∙◌, arith}
use Rattle.std.specs.Prelude.{◌==◌, Option, Some, None, Result, Ok, Err, if◌then◌else◌, is_some, option_and_then}
use Rattle.std.proofs.lemmas.Bool.{eqb-true}
use Rattle.mj_base.specs.declared.fault.Fault.{Fault}
use Rattle.mj_base.specs.declared.fault.FaultKind.{FaultKind}
use Rattle.mj_base.specs.Bytes.{number32}
use Rattle.mj_schema.specs.Lookups.{method_in}
use Rattle.mj_schema.specs.declared.rows.MethodRow.{MethodRow}
use Rattle.mj_schema.specs.declared.schema.Schema.{Schema}
use Rattle.wire_model.specs.Expected.{flags_of, message_marks, method_marks, method_named, parameter_marks, struct_of}
use Rattle.wire_model.specs.HeaderMarks.{CONTROL_ID, header_marks}
use Rattle.wire_model.specs.Marks.{Mark, Test}
use Rattle.wire_model.specs.Message as messages
use Rattle.wire_model.specs.Message.{ids_read, is_plain, message, request_read}
use Rattle.wire_model.specs.Trees.{Tree}
use Rattle.wire_model.specs.declared.target.Expected.{Expected}
use Rattle.wire_model.specs.declared.target.MessageSide.{MessageSide}
use Rattle.wire_model.specs.declared.target.MessageSide.TheVariants.{Request, Response}
use Rattle.wire_model.specs.declared.target.Target.{Target}
use Rattle.message_header.specs.FirstFailed.{first_failed}
use Rattle.wire_encoder.specs.Prepared.{flags_for, method_of, payload_for}
use Rattle.wire_encoder.specs.declared.endpoint.EndpointSide.{EndpointSide}
use Rattle.bounds_claims.specs.Runs.{run, step, first_fault, ◌>>=◌}
use Rattle.bounds_claims.specs.declared.claims.Claims.{Claims}
use Rattle.bounds_claims.proofs.Steps.{run_append}
use Rattle.message_validator.specs.Before.{before_payload}
use Rattle.control_bytes.specs.declared.control.Control.{Control}
use Rattle.bind_model.specs.Replies.{is_response}
use Rattle.bind_model.specs.Wire.{Content, Head, Header}
use Rattle.bind_model.specs.WireOf.{wire_of, comes_to, content_in, has_response, stands_in, struct_named, unless_fault}
use Rattle.reply_laws.proofs.Heads.{said_id, said_name, said_flags, said_request, request_as, control_says, control_request}

-- ## What is read

pub no_fault : {A : Type 0} (o : Option Fault) (answer a : A) → unless_fault o answer ≡ Ok a → (o ≡ None) × (a ≡ answer)
no_fault {A} None answer a e = (refl, ap value (sym e))
  where
    value : Result A Fault → A
    value (Ok b) = b
    value (Err fault) = a
no_fault (Some fault) answer a e = absurd cc

-- a header that is read
pub header_is : (schema : Schema) (bytes : List ℕ) (h : Header) → (wire_of schema).header bytes ≡ Ok h
    → (first_failed (header_marks bytes) ≡ None) × (h ≡ record { id = number32 bytes 8; ids = ids_read bytes })
unfolding wire_of
header_is schema bytes h e = no_fault (first_failed (header_marks bytes)) (record { id = number32 bytes 8; ids = ids_read bytes }) h e

test_holds : (c d : Claims) (b : Bool) (kind : FaultKind) (at : ℕ) (ms : List Mark) → run c (Test b kind at ∷ ms) ≡ Ok d → b ≡ true
unfolding run step
test_holds c d true kind at ms e = refl
test_holds c d false kind at ms e = absurd cc

part_runs : (c d : Claims) (xs ys : List Mark) → run c (xs ++ ys) ≡ Ok d → (e : Claims) × (run e ys ≡ Ok d)
part_runs c d xs ys e = go (run c xs) (sym (run_append c xs ys) ∙ e)
  where
    go : (r : Result Claims Fault) → (r >>= λ a. run a ys) ≡ Ok d → (e : Claims) × (run e ys ≡ Ok d)
    go (Ok a) f = (a, f)
    go (Err fault) f = absurd cc

runs : (claims : Claims) (ms : List Mark) → first_fault claims ms ≡ None → (d : Claims) × (run claims ms ≡ Ok d)
runs claims ms e = go (run claims ms) e
  where
    go : (r : Result Claims Fault) → ◌≡◌ {A = Option Fault} (elim r [ Ok after ↦ None | Err fault ↦ Some fault ]) None → (d : Claims) × (r ≡ Ok d)
    go (Ok d) f = (d, refl)
    go (Err fault) f = absurd cc

-- the method of a message that stands, and its struct
record Marked (side : MessageSide) (bytes : List ℕ) (o : Option MethodRow) : Type 0 where
  row : MethodRow
  number : ℕ
  named : o ≡ Some row
  struct : struct_of side row ≡ Some number
  flags : (number32 bytes 16 % 4 == flags_of side row.response) ≡ true

marked : (schema : Schema) (side : MessageSide) (bytes : List ℕ) (o : Option MethodRow) (c d : Claims) → run c (method_marks schema side bytes o) ≡ Ok d
    → Marked side bytes o
marked schema side bytes None c d e = absurd (let no : false ≡ true = test_holds c d _ _ _ _ e in cc)
marked schema side bytes (Some row) c d e = by_struct (struct_of side row) refl e
  where
    by_struct : (n : Option ℕ) → struct_of side row ≡ n → run c (parameter_marks schema side bytes row n) ≡ Ok d → Marked side bytes (Some row)
    by_struct None f e = absurd (let no : false ≡ true = test_holds c d _ _ _ _ e in cc)
    by_struct (Some number) f e = record { row = row; number = number; named = refl; struct = f; flags = test_holds c d _ _ _ _ e }

-- what comes to an endpoint of this side and interface
abbrev pub coming : EndpointSide → ℕ → Expected
coming side interface = record { interface = interface; side = comes_to side }

-- what is known of a message that stands for this
pub record Stood (schema : Schema) (side : EndpointSide) (interface : ℕ) (bytes : List ℕ) (c : Content) : Type 0 where
  pub row : MethodRow
  pub number : ℕ
  pub named : method_in schema.interfaces interface (number32 bytes 12) ≡ Some row
  pub struct : struct_of (comes_to side) row ≡ Some number
  pub flags : number32 bytes 16 % 4 ≡ flags_of (comes_to side) row.response
  pub content : c ≡ content_in schema (coming side interface) bytes number

stood_in : (schema : Schema) (side : EndpointSide) (interface : ℕ) (bytes : List ℕ) (n : ℕ) (c : Content)
    → stands_in schema (coming side interface) bytes n ≡ Ok c → Stood schema side interface bytes c
unfolding message_marks
stood_in schema side interface bytes n c e =
    let expected = coming side interface in
    let passed = no_fault (first_fault (before_payload bytes n) (message_marks schema expected bytes))
    (content_in schema expected bytes (struct_named schema expected bytes)) c e in
    let ran = runs (before_payload bytes n) (message_marks schema expected bytes) passed.0 in
    let rest = part_runs (before_payload bytes n) ran.0 (header_marks bytes)
    (method_marks schema expected.side bytes (method_named schema expected bytes)) ran.1 in
    let m = marked schema expected.side bytes (method_named schema expected bytes) rest.0 ran.0 rest.1 in
    let found : option_and_then (struct_of expected.side) (method_named schema expected bytes) ≡ Some m.number =
    ap (λ (o : Option MethodRow). option_and_then (struct_of expected.side) o) m.named ∙ m.struct in
    let number : struct_named schema expected bytes ≡ m.number = ap (λ (o : Option ℕ). elim o [ Some k ↦ k | None ↦ 0 ]) found in
    record {
      row = m.row;
      number = m.number;
      named = m.named;
      struct = m.struct;
      flags = eqb-true (number32 bytes 16 % 4) (flags_of expected.side m.row.response) m.flags;
      content = passed.1 ∙ ap (λ (k : ℕ). content_in schema expected bytes k) number;
    }

pub stood : (schema : Schema) (side : EndpointSide) (interface : ℕ) (bytes : List ℕ) (n : ℕ) (c : Content)
    → (wire_of schema).stands side interface bytes n ≡ Ok c → Stood schema side interface bytes c
unfolding wire_of
stood schema side interface bytes n c e = stood_in schema side interface bytes n c e

-- ## What was sealed

-- the head of a message that is sent
abbrev pub head_for : Schema → Target → Head → messages.Head
head_for schema target head = record {
  interface = head.id;
  name = target.method;
  flags = flags_for (method_of schema target) target;
  nonce = 0;
  request = head.request;
  moment = head.moment;
  ids = head.ids;
}

pub sealed_is : (schema : Schema) (target : Target) (parameters : Tree) (head : Head)
    → (wire_of schema).sealed target parameters head ≡ message (head_for schema target head) (payload_for schema target parameters)
unfolding wire_of
sealed_is schema target parameters head = refl

pub responds_is : (schema : Schema) (target : Target) → (wire_of schema).responds target.interface target.method ≡ has_response (method_of schema target)
unfolding wire_of
responds_is schema target = refl

-- a control is for no endpoint
pub control_is : (schema : Schema) (c : Control) → number32 ((wire_of schema).control c) 8 ≡ CONTROL_ID
unfolding wire_of
control_is schema c = control_says c

-- and its request number has 64 bits
pub control_numbers : (schema : Schema) (c : Control) (bytes : List ℕ) → bytes ≡ (wire_of schema).control c → request_read bytes < 2 ^ 64
unfolding wire_of
control_numbers schema c bytes e =
    let none : request_read bytes ≡ 0 = ap request_read e ∙ control_request c in
    omega (arith, none)

-- ## Flags

-- the flags of a request
pub data AsksFlags : ℕ → ℕ → ℕ → Type 0 where
  none : {n : ℕ} → AsksFlags 0 n 0
  one : {n : ℕ} → AsksFlags 1 n n

pub asks_flags : (o : Option MethodRow) (target : Target) (n : ℕ) → is_response target.side ≡ false
    → AsksFlags (flags_for o target) n (if has_response o then n else 0)
asks_flags None target n side = none
asks_flags (Some row) target n side = go target.side row.response side
  where
    go : (s : MessageSide) (r : Option ℕ) → is_response s ≡ false → AsksFlags (flags_of s r) n (if is_some r then n else 0)
    go Request None e = none
    go Request (Some k) e = one
    go Response r e = absurd cc

-- those of a response
pub answer_flags : (o : Option MethodRow) (target : Target) → has_response o ≡ true → is_response target.side ≡ true → flags_for o target ≡ 2
answer_flags None target has side = absurd cc
answer_flags (Some row) target has side = go target.side row.response side
  where
    go : (s : MessageSide) (r : Option ℕ) → is_response s ≡ true → flags_of s r ≡ 2
    go Request r e = absurd cc
    go Response r e = refl

-- a request's flags aren't a response's
asks_few : (f n k : ℕ) → AsksFlags f n k → f < 2
asks_few f n k none = omega arith
asks_few f n k one = omega arith

-- whose flags ask for a response has one
one_asks : (f k : ℕ) → AsksFlags f 1 k → f ≡ 1 → k ≡ 1
one_asks f k none e = absurd (omega (arith, e))
one_asks f k one e = refl

asked_one : (s : MessageSide) (r : Option ℕ) → is_response s ≡ false → is_some r ≡ true → flags_of s r ≡ 1
asked_one Request None e h = absurd cc
asked_one Request (Some n) e h = refl
asked_one Response r e h = absurd cc

-- what came as a request of a method with a response asks for one
pub asks_one : (schema : Schema) (side : EndpointSide) (interface : ℕ) (bytes : List ℕ) (c : Content) → Stood schema side interface bytes c
    → is_response c.target.side ≡ false → (wire_of schema).responds c.target.interface c.target.method ≡ true → number32 bytes 16 % 4 ≡ 1
asks_one schema side interface bytes c q request responds =
    let side_is : c.target.side ≡ comes_to side = ap (λ (x : Content). x.target.side) q.content in
    let interface_is : c.target.interface ≡ interface = ap (λ (x : Content). x.target.interface) q.content in
    let method_is : c.target.method ≡ number32 bytes 12 = ap (λ (x : Content). x.target.method) q.content in
    let moved : method_of schema c.target ≡ method_in schema.interfaces interface (number32 bytes 12) =
    λ i. method_in schema.interfaces (interface_is i) (method_is i) in
    let some : is_some q.row.response ≡ true = sym (ap has_response (moved ∙ q.named)) ∙ (sym (responds_is schema c.target) ∙ responds) in
    q.flags ∙ asked_one (comes_to side) q.row.response (ap is_response (sym side_is) ∙ request) some

-- the request number that a request's header says
asks_request : (f n k : ℕ) → AsksFlags f n k → request_as (is_plain f) k ≡ k % 2 ^ 64
asks_request f n k none = refl
asks_request f n k one = refl

came_few : (s : MessageSide) (r : Option ℕ) → is_response s ≡ false → flags_of s r < 2
came_few Request None e = omega arith
came_few Request (Some n) e = omega arith
came_few Response r e = absurd cc

came_two : (s : MessageSide) (r : Option ℕ) → is_response s ≡ true → flags_of s r ≡ 2
came_two Request r e = absurd cc
came_two Response r e = refl

-- ## The numbers of what was sealed

module _ (schema : Schema) (target : Target) (parameters : Tree) (head : Head) (bytes : List ℕ)
    (is : bytes ≡ (wire_of schema).sealed target parameters head) where
  whole : bytes ≡ message (head_for schema target head) (payload_for schema target parameters)
  whole = is ∙ sealed_is schema target parameters head

  pub id_read : head.id < 2 ^ 32 → number32 bytes 8 ≡ head.id
  id_read small =
      let r = said_id (head_for schema target head) (payload_for schema target parameters) in
      let e : number32 bytes 8 ≡ head.id % 2 ^ 32 = ap (λ (bs : List ℕ). number32 bs 8) whole ∙ r in
      omega (arith, e, small)

  pub method_read : target.method < 2 ^ 32 → number32 bytes 12 ≡ target.method
  method_read small =
      let r = said_name (head_for schema target head) (payload_for schema target parameters) in
      let e : number32 bytes 12 ≡ target.method % 2 ^ 32 = ap (λ (bs : List ℕ). number32 bs 12) whole ∙ r in
      omega (arith, e, small)

  flags_read : number32 bytes 16 ≡ flags_for (method_of schema target) target % 2 ^ 32
  flags_read = ap (λ (bs : List ℕ). number32 bs 16) whole ∙ said_flags (head_for schema target head) (payload_for schema target parameters)

  number_read : request_read bytes ≡ request_as (is_plain (flags_for (method_of schema target) target)) head.request
  number_read = ap request_read whole ∙ said_request (head_for schema target head) (payload_for schema target parameters)

  -- what was called comes as no response, under its number
  pub called_request : is_response target.side ≡ false → (n : ℕ) → head.request ≡ (if has_response (method_of schema target) then n else 0) → n < 2 ^ 64
      → request_read bytes ≡ head.request
  called_request side n e small =
      let f = asks_flags (method_of schema target) target n side in
      let k : ℕ = if has_response (method_of schema target) then n else 0 in
      let r : request_as (is_plain (flags_for (method_of schema target) target)) k ≡ k % 2 ^ 64 =
      asks_request (flags_for (method_of schema target) target) n k f in
      let all : request_read bytes ≡ k % 2 ^ 64 =
      number_read ∙ ap (λ (m : ℕ). request_as (is_plain (flags_for (method_of schema target) target)) m) e ∙ r in
      let less : k < 2 ^ 64 = choose (has_response (method_of schema target)) in
      let bare : k % 2 ^ 64 ≡ k = omega (arith, less) in
      all ∙ bare ∙ sym e
    where
      choose : (b : Bool) → (if b then n else 0) < 2 ^ 64
      choose true = small
      choose false = omega arith

  pub called_side : is_response target.side ≡ false → (s : MessageSide) (r : Option ℕ) → number32 bytes 16 % 4 ≡ flags_of s r → is_response s ≡ true → ⊥
  called_side side s r e response =
      let f = asks_few (flags_for (method_of schema target) target) 0 (if has_response (method_of schema target) then 0 else 0)
      (asks_flags (method_of schema target) target 0 side) in
      omega (arith, flags_read, f, e, came_two s r response)

  -- a call that asks for a response is of a method with one
  pub called_asks : is_response target.side ≡ false → number32 bytes 16 % 4 ≡ 1 → has_response (method_of schema target) ≡ true
  called_asks side e =
      let flags = asks_flags (method_of schema target) target 1 side in
      let small = asks_few (flags_for (method_of schema target) target) 1 (if has_response (method_of schema target) then 1 else 0) flags in
      let is : flags_for (method_of schema target) target ≡ 1 = omega (arith, flags_read, small, e) in
      go (has_response (method_of schema target))
      (one_asks (flags_for (method_of schema target) target) (if has_response (method_of schema target) then 1 else 0) flags is)
    where
      go : (b : Bool) → ◌≡◌ {A = ℕ} (if b then 1 else 0) 1 → b ≡ true
      go true e = refl
      go false e = absurd (omega (arith, e))

  -- what was answered comes as a response, under its number
  module _ (has : has_response (method_of schema target) ≡ true) (side : is_response target.side ≡ true) where
    two : flags_for (method_of schema target) target ≡ 2
    two = answer_flags (method_of schema target) target has side

    pub answered_request : head.request < 2 ^ 64 → request_read bytes ≡ head.request
    answered_request small =
        let all : request_read bytes ≡ head.request % 2 ^ 64 =
        number_read ∙ ap (λ (f : ℕ). request_as (is_plain f) head.request) two in
        omega (arith, all, small)

    pub answered_side : (s : MessageSide) (r : Option ℕ) → number32 bytes 16 % 4 ≡ flags_of s r → is_response s ≡ false → ⊥
    answered_side s r e request = omega (arith, flags_read, two, e, came_few s r request)

  -- whatever it is, its number has 64 bits
  pub request_small : request_read bytes < 2 ^ 64
  request_small = small (is_plain (flags_for (method_of schema target) target)) number_read
    where
      small : (b : Bool) → request_read bytes ≡ request_as b head.request → request_read bytes < 2 ^ 64
      small true e = omega (arith, e)
      small false e = omega (arith, e)
