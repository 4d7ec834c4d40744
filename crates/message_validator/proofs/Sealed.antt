-- The tight bytes of a value that fits stand behind a header of the method, the side and the flags that are expected.
use Rattle.std.proofs.Common.{◌≡◌, ℕ, ◌%◌, Bool, true, false, List, ◌∷◌, length, Option, Some, None, refl, ap, ◌∙◌}
use Rattle.std.specs.Prelude.{◌==◌}
use Rattle.mj_base.specs.declared.fault.FaultKind.TheVariants.{MessageHeaderInvalidFlags}
use Rattle.mj_base.specs.Bytes.{number32}
use Rattle.mj_schema.specs.Lookups.{method_in}
use Rattle.mj_schema.specs.declared.rows.MethodRow.{MethodRow}
use Rattle.mj_schema.specs.declared.schema.Schema.{Schema}
use Rattle.wire_model.specs.Expected.{Stands, method_marks, method_named, parameter_marks, struct_of, flags_of}
use Rattle.wire_model.specs.Marks.{Mark, Test}
use Rattle.wire_model.specs.Message.{Head, IsHead, payload_start, payload_end, ids_read}
use Rattle.wire_model.specs.Stands.{IsSettled}
use Rattle.wire_model.specs.Tight.{IsEncodable, MessageStandsFor, marks_of, tight_message}
use Rattle.wire_model.specs.Trees.{Trees}
use Rattle.wire_model.specs.declared.target.Expected.{Expected}
use Rattle.wire_model.specs.declared.target.MessageSide.{MessageSide}
use Rattle.wire_model.specs.declared.target.MessageSide.TheVariants.{Request, Response}
use Rattle.wire_laws.proofs.Whole.{message_stands}
use Rattle.bounds_claims.specs.declared.claims.Claims.{Claims}
use Rattle.bounds_claims.specs.Runs.{run, step}
use Rattle.bounds_claims.proofs.Settles.{runs_where_settled}
use Rattle.bounds_claims.proofs.Steps.{run_first}
use Rattle.message_validator.specs.Before.{before_payload}
use Rattle.message_validator.proofs.Tests.{header_passes}
use Rattle.message_validator.proofs.WholeMessage.{stand}

-- the flags of a side are below 4
flags_small : (side : MessageSide) (response : Option ℕ) → (flags_of side response % 4 == flags_of side response) ≡ true
flags_small Request None = refl
flags_small Request (Some n) = refl
flags_small Response response = refl

-- a test of flags that holds
flags_pass : (c : Claims) (holds : Bool) (ms : List Mark) → holds ≡ true → run c (Test holds MessageHeaderInvalidFlags 16 ∷ ms) ≡ run c ms
unfolding step
flags_pass c true ms e = run_first c c (Test true MessageHeaderInvalidFlags 16) ms refl
flags_pass c false ms e = absurd cc

-- a payload that is settled by the numbers of its head is so by those that are read of the header
settled_as_read : (schema : Schema) (bytes : List ℕ) (number handles start end ids start' end' ids' : ℕ)
    → start' ≡ start → end' ≡ end → ids' ≡ ids
    → IsSettled (marks_of schema bytes start number) start end handles ids → IsSettled (marks_of schema bytes start' number) start' end' handles ids'
settled_as_read schema bytes number handles start end ids start' end' ids' s e i h = rw (s, e, i) h

-- a message that stands for a head and a value stands where its method, its side and its flags are those that are expected
stands_as_expected : (schema : Schema) (expected : Expected) (bytes : List ℕ) (number handles : ℕ) (ts : Trees) (head : Head) (method : MethodRow)
    → MessageStandsFor schema bytes head number ts handles
    → method_in schema.interfaces expected.interface head.name ≡ Some method
    → struct_of expected.side method ≡ Some number
    → head.flags ≡ flags_of expected.side method.response
    → Stands schema expected bytes handles
stands_as_expected schema expected bytes number handles ts head method m found parameters flags =
    let c = before_payload bytes handles in
    let start = payload_start bytes in
    let end = payload_end bytes in
    let ids = length (ids_read bytes) in
    let wanted = flags_of expected.side method.response in
    let named : method_named schema expected bytes ≡ Some method =
    ap (λ (n : ℕ). method_in schema.interfaces expected.interface n) m.heads.name ∙ found in
    let fits : (number32 bytes 16 % 4 == wanted) ≡ true =
    ap (λ (n : ℕ). n % 4 == wanted) (m.heads.flags ∙ flags) ∙ flags_small expected.side method.response in
    let marks =
    ap (λ (o : Option MethodRow). method_marks schema expected.side bytes o) named
    ∙ ap (λ (o : Option ℕ). parameter_marks schema expected.side bytes method o) parameters in
    let settled : IsSettled (marks_of schema bytes start number) start end handles ids =
    settled_as_read schema bytes number handles m.start m.end (length head.ids) start end ids m.heads.starts m.heads.ends (ap length m.heads.ids)
    m.stands.settled in
    let r = runs_where_settled (marks_of schema bytes start number) start end handles ids settled in
    stand schema expected bytes handles r.0
    (header_passes c schema expected bytes m.heads.fine
    ∙ ap (λ (ms : List Mark). run c ms) marks
    ∙ flags_pass c (number32 bytes 16 % 4 == wanted) (marks_of schema bytes start number) fits
    ∙ r.1)

-- for the law `tight_stands`
pub tight_stands : (schema : Schema) (expected : Expected) (number handles : ℕ) (ts : Trees) (head : Head) (method : MethodRow)
    → IsHead head → IsEncodable schema number ts handles (length head.ids)
    → method_in schema.interfaces expected.interface head.name ≡ Some method
    → struct_of expected.side method ≡ Some number
    → head.flags ≡ flags_of expected.side method.response
    → Stands schema expected (tight_message schema number ts head) handles
tight_stands schema expected number handles ts head method is_head encodable found parameters flags =
    stands_as_expected schema expected (tight_message schema number ts head) number handles ts head method
    (message_stands schema number ts handles head is_head encodable) found parameters flags
