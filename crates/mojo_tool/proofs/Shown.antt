-- The value of a message that stands, and its first fault where it doesn't.
use Rattle.std.proofs.Common.{◌≡◌, ℕ, List, length, Ok, Err, Some, None, refl, sym, subst, ap, ◌∙◌}
use Rattle.std.specs.Prelude.{Result, Option, option_and_then}
use Rattle.bounds_claims.specs.Runs.{first_fault, run}
use Rattle.bounds_claims.specs.declared.claims.Claims.{Claims}
use Rattle.bounds_claims.proofs.Settles.{runs_where_settled}
use Rattle.mj_schema.specs.declared.rows.MethodRow.{MethodRow}
use Rattle.mj_schema.specs.declared.schema.Schema.{Schema}
use Rattle.hex.specs.Hex.{decode_of}
use Rattle.hex.specs.declared.error.FromHexError.{FromHexError}
use Rattle.mj_schema.specs.KindTrees.{KindTree}
use Rattle.mj_schema.specs.Lookups.{method_in}
use Rattle.wire_model.specs.Expected.{Stands, message_marks, method_named, struct_of}
use Rattle.wire_model.specs.Message.{payload_start, payload_end, ids_read, request_read}
use Rattle.wire_model.specs.Tight.{value_of}
use Rattle.wire_model.specs.Trees.{Tree}
use Rattle.mj_base.specs.declared.fault.Fault.{Fault}
use Rattle.wire_model.specs.declared.target.Expected.{Expected}
use Rattle.message_validator.specs.Before.{before_payload}
use Rattle.message_validator.proofs.Answered.{ended}
use Rattle.wire_model.specs.Marks.{Mark}
use Rattle.message_validator.specs.declared.validate.Checked.{Checked}
use Rattle.value_text.specs.Spelling.{spell}
use Rattle.message_laws.specs.Filled.{AreBytes}
use Rattle.message_laws.proofs.FilledSchemas.{filled}
use Rattle.message_laws.proofs.OfItsKind.{read_back}
use Rattle.mojo_tool.specs.Lines.{shown_line}
use Rattle.mojo_tool.specs.Work.{Work, BadHex, Faulty, Decodes, Judged, Judging, IsReadBack, IsShown, Unhexing, parameters_kind}
use Rattle.mojo_tool.specs.steps.Messages.{IsTextOfWork}
use Rattle.mojo_tool.proofs.Messages.{work_text}

-- where all marks pass there is no first fault
none_where_runs : (c : Claims) (ms : List Mark) (d : Claims) → run c ms ≡ Ok d → (found : Option Fault) → first_fault c ms ≡ found → found ≡ None
none_where_runs c ms d ran None e = refl
none_where_runs c ms d ran (Some fault) e = let failed : run c ms ≡ Err fault = ended c ms fault e in absurd cc

-- a message that stands has no first fault
pub no_fault : (schema : Schema) (expected : Expected) (bytes : List ℕ) (handles : ℕ) → Stands schema expected bytes handles
    → first_fault (before_payload bytes handles) (message_marks schema expected bytes) ≡ None
no_fault schema expected bytes handles stands =
    let ran = runs_where_settled (message_marks schema expected bytes) (payload_start bytes) (payload_end bytes) handles (length (ids_read bytes))
    stands.settled in
    none_where_runs (before_payload bytes handles) (message_marks schema expected bytes) ran.0 ran.1
    (first_fault (before_payload bytes handles) (message_marks schema expected bytes)) refl

-- a message that stands is shown
pub shown_work : (schema : Schema) (expected : Expected) (name bytes : List ℕ) (handles : ℕ) (work : Work) → Stands schema expected bytes handles
    → IsShown schema expected name bytes work → Judging schema expected name handles bytes work
shown_work schema expected name bytes handles work stands shown =
    subst (λ (fault : Option Fault). Judged schema expected name handles bytes fault work) (sym (no_fault schema expected bytes handles stands)) (stands, shown)

-- its first fault is said
pub faulty_work : (schema : Schema) (expected : Expected) (name bytes : List ℕ) (handles : ℕ) (fault : Fault)
    → first_fault (before_payload bytes handles) (message_marks schema expected bytes) ≡ Some fault
    → Judging schema expected name handles bytes (Faulty fault)
faulty_work schema expected name bytes handles fault first =
    subst (λ (found : Option Fault). Judged schema expected name handles bytes found (Faulty fault)) (sym first) refl

-- the struct of a method that was found
pub struct_is : (named : Option MethodRow) (take : MethodRow → Option ℕ) (method : MethodRow) (number : ℕ) → named ≡ Some method
    → option_and_then take named ≡ Some number → take method ≡ Some number
struct_is None take method number named all = absurd cc
struct_is (Some found) take method number named all = let e : found ≡ method = cc in subst (λ (m : MethodRow). take m ≡ Some number) e all

-- the struct that a message names, by the method that was found
pub struct_by : (named : Option MethodRow) (take : MethodRow → Option ℕ) (method : MethodRow) (number : ℕ) → named ≡ Some method
    → take method ≡ Some number → option_and_then take named ≡ Some number
struct_by None take method number named one = absurd cc
struct_by (Some found) take method number named one =
    let e : found ≡ method = cc in subst (λ (m : MethodRow). take m ≡ Some number) (sym e) one

-- the text of the value of a message that stands is read back, by the law of all messages
pub text_read : (schema : Schema) (expected : Expected) (bytes : List ℕ) (number : ℕ)
    → option_and_then (struct_of expected.side) (method_named schema expected bytes) ≡ Some number → (handles : ℕ) → AreBytes bytes
    → Stands schema expected bytes handles → IsReadBack schema number (value_of schema bytes (payload_start bytes) number)
text_read schema expected bytes number named handles small stands read told =
    read_back schema expected bytes handles number read (filled schema) small stands named told

-- the text of a message that was checked
pub shown_value : (v : Checked) (name : List ℕ) (method : MethodRow) (kind : KindTree) (tree : Tree) (text line : List ℕ)
    → Some method ≡ method_in v.schema.now.interfaces v.expected.interface v.method
    → tree ≡ value_of v.schema.now v.bytes.now (payload_start v.bytes.now) v.number → kind ≡ parameters_kind v.number → text ≡ spell v.schema.now kind tree
    → line ≡ shown_line name method.name v.request text → IsTextOfWork (IsShown v.schema.now v.expected name v.bytes.now) line
shown_value v name method kind tree text line found decoded kinded spelled whole =
    let named : method_named v.schema.now v.expected v.bytes.now ≡ Some method =
    ap (λ (ordinal : ℕ). method_in v.schema.now.interfaces v.expected.interface ordinal) (sym v.named) ∙ sym found in
    let said : text ≡ spell v.schema.now (parameters_kind v.number) (value_of v.schema.now v.bytes.now (payload_start v.bytes.now) v.number) =
    spelled ∙ ap (λ (k : KindTree). spell v.schema.now k tree) kinded ∙ ap (spell v.schema.now (parameters_kind v.number)) decoded in
    record {
      work = Decodes name method.name v.request text;
      asked = record {
        method = method;
        number = v.number;
        named = named;
        parameters = struct_is (method_named v.schema.now v.expected v.bytes.now) (struct_of v.expected.side) method v.number named v.parameters;
        whole = ap (λ (request : ℕ). Decodes name method.name request text) v.asked
            ∙ ap (Decodes name method.name (request_read v.bytes.now)) said;
        reads = text_read v.schema.now v.expected v.bytes.now v.number v.parameters;
      };
      text_of = whole;
    }

-- a message that was checked, of what it was checked for
pub shown_here : (v : Checked) (schema : Schema) (expected : Expected) (name bytes : List ℕ) (handles : ℕ) (line : List ℕ) → v.schema.now ≡ schema
    → v.expected ≡ expected → v.bytes.now ≡ bytes → Stands schema expected bytes handles
    → IsTextOfWork (IsShown v.schema.now v.expected name v.bytes.now) line → IsTextOfWork (Judging schema expected name handles bytes) line
shown_here v schema expected name bytes handles line s e b stands is =
    work_text (IsShown v.schema.now v.expected name v.bytes.now) (Judging schema expected name handles bytes) line
    (λ work shown. shown_work schema expected name bytes handles work stands
    (subst (λ (x : List ℕ). IsShown schema expected name x work) b
    (subst (λ (x : Expected). IsShown schema x name v.bytes.now work) e
    (subst (λ (x : Schema). IsShown x v.expected name v.bytes.now work) s shown))))
    is

-- hexadecimal leads on to its bytes, and what is none leads nowhere
pub unhexed : (next : List ℕ → Work → Type 0) (digits bytes : List ℕ) (work : Work) → decode_of digits ≡ Ok bytes → next bytes work
    → Unhexing next (decode_of digits) work
unhexed next digits bytes work e asked = subst (λ (r : Result (List ℕ) FromHexError). Unhexing next r work) (sym e) asked

pub no_hex : (next : List ℕ → Work → Type 0) (digits : List ℕ) (error : FromHexError) → decode_of digits ≡ Err error
    → Unhexing next (decode_of digits) BadHex
no_hex next digits error e = subst (λ (r : Result (List ℕ) FromHexError). Unhexing next r BadHex) (sym e) refl
