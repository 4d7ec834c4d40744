-- What bytes stand for at a schema's wire, by what the reader and the validator answer.
use Rattle.std.proofs.Common.{◌≡◌, ℕ, true, List, refl, sym, ap, ◌∙◌, subst}
use Rattle.std.specs.Prelude.{Option, Some, None, Result, Ok, Err, is_ok, option_and_then}
use Rattle.bounds_claims.specs.Runs.{first_fault, run, passes}
use Rattle.bounds_claims.specs.declared.claims.Claims.{Claims}
use Rattle.mj_base.specs.declared.fault.Fault.{Fault}
use Rattle.mj_base.specs.declared.header.Header.{Header as Read}
use Rattle.mj_schema.specs.declared.schema.Schema.{Schema}
use Rattle.control_bytes.specs.Controls.{control_marks, control_said}
use Rattle.control_bytes.specs.declared.control.Control.{Control}
use Rattle.message_header.specs.FirstFailed.{first_failed}
use Rattle.message_header.specs.Said.{header_said}
use Rattle.message_header.proofs.Fine.{fine_passes}
use Rattle.message_validator.specs.Before.{before_payload}
use Rattle.wire_encoder.specs.declared.endpoint.EndpointSide.{EndpointSide}
use Rattle.wire_model.specs.Expected.{message_marks, method_named, struct_of}
use Rattle.wire_model.specs.HeaderMarks.{header_marks}
use Rattle.wire_model.specs.Marks.{Mark}
use Rattle.wire_model.specs.Message.{ids_read}
use Rattle.wire_model.specs.Stands.{IsFine}
use Rattle.wire_model.specs.declared.target.Expected.{Expected}
use Rattle.wire_model.specs.declared.target.MessageSide.{MessageSide}
use Rattle.bind_model.specs.WireOf.{wire_of, content_in, comes_to, struct_named, unless_fault}

-- a header of which a test fails, and one of which each holds
pub header_fails : (schema : Schema) (bytes : List ℕ) (fault : Fault) → first_failed (header_marks bytes) ≡ Some fault
    → (wire_of schema).header bytes ≡ Err fault
unfolding wire_of
header_fails schema bytes fault h = rw h refl

pub header_reads : (schema : Schema) (bytes : List ℕ) (header : Read) → IsFine (header_marks bytes) → header ≡ header_said bytes
    → (wire_of schema).header bytes ≡ Ok (record { id = header.interface_id; ids = ids_read bytes })
unfolding wire_of
header_reads schema bytes header fine e = rw (fine_passes (header_marks bytes) fine, e) refl

-- a control of which a test fails, and one of which each holds
pub control_fails : (schema : Schema) (bytes : List ℕ) (fault : Fault) → first_failed (control_marks bytes) ≡ Some fault
    → (wire_of schema).says bytes ≡ Err fault
unfolding wire_of
control_fails schema bytes fault h = rw h refl

pub control_reads : (schema : Schema) (bytes : List ℕ) (c : Control) → IsFine (control_marks bytes) → c ≡ control_said bytes
    → (wire_of schema).says bytes ≡ Ok c
unfolding wire_of
control_reads schema bytes c fine e = rw (fine_passes (control_marks bytes) fine, e) refl

-- what comes to an endpoint of this side and interface
abbrev pub coming : EndpointSide → ℕ → Expected
coming side interface = record { interface = interface; side = comes_to side }

-- where all tests pass none fails
no_fault : (claims : Claims) (ms : List Mark) → passes claims ms ≡ true → first_fault claims ms ≡ None
no_fault claims ms h = go (run claims ms) h
  where
    go : (r : Result Claims Fault) → is_ok r ≡ true → ◌≡◌ {A = Option Fault} (elim r [ Ok after ↦ None | Err fault ↦ Some fault ]) None
    go (Ok after) h = refl
    go (Err fault) h = absurd cc

module _ (schema : Schema) (side : EndpointSide) (interface : ℕ) (bytes : List ℕ) (handles : ℕ) where
  -- a message of which a test fails, and one of which all pass
  pub stands_fails : (fault : Fault) → first_fault (before_payload bytes handles) (message_marks schema (coming side interface) bytes) ≡ Some fault
      → (wire_of schema).stands side interface bytes handles ≡ Err fault
  unfolding wire_of
  stands_fails fault h = rw h refl

  pub stands_reads : (number : ℕ) → passes (before_payload bytes handles) (message_marks schema (coming side interface) bytes) ≡ true
      → option_and_then (struct_of (comes_to side)) (method_named schema (coming side interface) bytes) ≡ Some number
      → (wire_of schema).stands side interface bytes handles ≡ Ok (content_in schema (coming side interface) bytes number)
  unfolding wire_of
  stands_reads number h e =
      let named : struct_named schema (coming side interface) bytes ≡ number = ap (λ (o : Option ℕ). elim o [ Some n ↦ n | None ↦ 0 ]) e in
      ap (λ (o : Option Fault). unless_fault o (content_in schema (coming side interface) bytes (struct_named schema (coming side interface) bytes)))
      (no_fault (before_payload bytes handles) (message_marks schema (coming side interface) bytes) h)
      ∙ ap (λ (n : ℕ). Ok (content_in schema (coming side interface) bytes n)) named

  -- the same, of other names for the bytes and the numbers
  pub failed : (read : List ℕ) (many : ℕ) (asked : MessageSide) (fault : Fault) → read ≡ bytes → many ≡ handles → asked ≡ comes_to side
      → first_fault (before_payload read many) (message_marks schema (record { interface = interface; side = asked }) read) ≡ Some fault
      → (wire_of schema).stands side interface bytes handles ≡ Err fault
  failed read many asked fault e f g h = stands_fails fault (rw (← e, ← f, ← g) h)

  pub passed : (known : Schema) (expected : Expected) (read : List ℕ) (many number : ℕ) → known ≡ schema → expected ≡ coming side interface → read ≡ bytes
      → many ≡ handles → passes (before_payload read many) (message_marks known expected read) ≡ true
      → option_and_then (struct_of expected.side) (method_named known expected read) ≡ Some number
      → (wire_of schema).stands side interface bytes handles ≡ Ok (content_in known expected bytes number)
  passed known expected read many number e f g k =
      subst (λ (x : Expected). passes (before_payload read many) (message_marks known x read) ≡ true
      → option_and_then (struct_of x.side) (method_named known x read) ≡ Some number
      → (wire_of schema).stands side interface bytes handles ≡ Ok (content_in known x bytes number)) (sym f)
      (subst (λ (s : Schema). passes (before_payload read many) (message_marks s (coming side interface) read) ≡ true
      → option_and_then (struct_of (comes_to side)) (method_named s (coming side interface) read) ≡ Some number
      → (wire_of schema).stands side interface bytes handles ≡ Ok (content_in s (coming side interface) bytes number)) (sym e)
      (λ h n. stands_reads number (rw (← g, ← k) h) (rw (← g) n)))
