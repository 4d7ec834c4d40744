-- What a message stands for is a value of its kind, and its text is read back.
use Rattle.std.proofs.Common.{◌≡◌, ℕ, suc, ◌+◌, ◌≤◌, false, List, Option, Some, None, Result, subst, arith}
use Rattle.std.specs.Prelude.{option_and_then}
use Rattle.mj_schema.specs.KindTrees.{StructKind}
use Rattle.mj_schema.specs.declared.rows.MethodRow.{MethodRow}
use Rattle.mj_schema.specs.declared.schema.Schema.{Schema}
use Rattle.wire_model.specs.Depth.{IsOfKind, levels}
use Rattle.wire_model.specs.Expected.{Stands, message_marks, message_value, method_marks, method_named, parameter_marks, struct_of}
use Rattle.wire_model.specs.HeaderMarks.{header_marks}
use Rattle.wire_model.specs.Message.{payload_start}
use Rattle.wire_model.specs.Stands.{IsFine}
use Rattle.wire_model.specs.Tight.{MAX_DEPTH, marks_of, value_of}
use Rattle.wire_model.specs.declared.target.Expected.{Expected}
use Rattle.wire_model.specs.declared.target.MessageSide.{MessageSide}
use Rattle.wire_model.specs.declared.value.Value.{Value}
use Rattle.value_text.specs.Brackets.{MAX_BRACKETS}
use Rattle.value_text.specs.Rules as rules
use Rattle.value_text.specs.Spelling.{spell}
use Rattle.value_text.specs.Texts.{Tells, ReadsBack}
use Rattle.value_text.specs.declared.text_error.TextError.{TextError}
use Rattle.value_text.proofs.RoundTrip.{reads_back}
use Rattle.message_laws.specs.Filled.{AreBytes, IsFilledSchema}
use Rattle.same_messages.proofs.Fine.{fine_right}
use Rattle.message_laws.proofs.KindedObjects.{visited_kinded}
use Rattle.message_laws.specs.steps.Kinded.{IsValue}
use Rattle.message_laws.proofs.Open.{open_behind}
use Rattle.message_laws.proofs.RowsThere.{parameters_there}

module _ (schema : Schema) (bytes : List ℕ) where
  side_fine : (side : MessageSide) (method : MethodRow) (o : Option ℕ) (number : ℕ) → o ≡ Some number
      → IsFine (parameter_marks schema side bytes method o) → IsFine (marks_of schema bytes (payload_start bytes) number)
  side_fine side method None number e fine = absurd cc
  side_fine side method (Some n) number e fine =
      let same : n ≡ number = cc in
      subst (λ (m : ℕ). IsFine (marks_of schema bytes (payload_start bytes) m)) same fine.1

  named_fine : (side : MessageSide) (o : Option MethodRow) (number : ℕ) → option_and_then (struct_of side) o ≡ Some number
      → IsFine (method_marks schema side bytes o) → IsFine (marks_of schema bytes (payload_start bytes) number)
  named_fine side None number e fine = absurd cc
  named_fine side (Some method) number e fine = side_fine side method (struct_of side method) number e fine

  -- the marks of a message are fine, and so are those of its parameters
  pub parameters_fine : (expected : Expected) (number : ℕ) → option_and_then (struct_of expected.side) (method_named schema expected bytes) ≡ Some number
      → IsFine (message_marks schema expected bytes) → IsFine (marks_of schema bytes (payload_start bytes) number)
  unfolding message_marks
  parameters_fine expected number e fine =
      named_fine expected.side (method_named schema expected bytes) number e (fine_right (header_marks bytes) _ fine)

  -- the value of a message
  value_kinded : (expected : Expected) (handle_count number : ℕ) → IsFilledSchema schema → AreBytes bytes → Stands schema expected bytes handle_count
      → option_and_then (struct_of expected.side) (method_named schema expected bytes) ≡ Some number
      → IsValue schema false (StructKind number false) (value_of schema bytes (payload_start bytes) number) (suc MAX_DEPTH)
  value_kinded expected handle_count number filled small stands e =
      visited_kinded schema filled bytes small MAX_DEPTH (payload_start bytes) (payload_start bytes) (StructKind number false) tt
      (parameters_there schema expected bytes number e) (parameters_fine expected number e stands.settled.fine)

-- for the law `of_its_kind`
pub of_its_kind : (schema : Schema) (expected : Expected) (bytes : List ℕ) (handle_count number : ℕ) → IsFilledSchema schema → AreBytes bytes
    → Stands schema expected bytes handle_count
    → option_and_then (struct_of expected.side) (method_named schema expected bytes) ≡ Some number
    → IsOfKind schema (StructKind number false) (message_value schema bytes number).value
    × (levels false (message_value schema bytes number).value ≤ MAX_DEPTH + 1)
of_its_kind schema expected bytes handle_count number filled small stands e =
    let v = value_kinded schema bytes expected handle_count number filled small stands e in
    let deep = v.deep in
    (v.kind, omega (arith, deep))

-- for the law `decoded_text_is_read_back`
pub read_back : (schema : Schema) (expected : Expected) (bytes : List ℕ) (handle_count number : ℕ) (read : Result Value TextError)
    → IsFilledSchema schema → AreBytes bytes → Stands schema expected bytes handle_count
    → option_and_then (struct_of expected.side) (method_named schema expected bytes) ≡ Some number
    → Tells (rules.value schema MAX_BRACKETS (StructKind number false)) (spell schema (StructKind number false) (message_value schema bytes number).value) read
    → ReadsBack (message_value schema bytes number).value read
read_back schema expected bytes handle_count number read filled small stands e told =
    let v = value_kinded schema bytes expected handle_count number filled small stands e in
    let t = value_of schema bytes (payload_start bytes) number in
    let deep = v.deep in
    let few = open_behind t in
    reads_back schema MAX_BRACKETS (StructKind number false) t read v.kind (omega (arith, deep, few)) told
