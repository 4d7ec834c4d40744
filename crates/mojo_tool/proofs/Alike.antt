-- A message is shown as another that has the same bytes where it is read.
use Rattle.std.proofs.Common.{◌≡◌, ℕ, List, Some, None, sym, subst, ap, ◌∙◌}
use Rattle.std.specs.Prelude.{Option, option_and_then}
use Rattle.mj_base.specs.declared.fault.Fault.{Fault}
use Rattle.mj_schema.specs.Lookups.{method_in}
use Rattle.mj_schema.specs.declared.schema.Schema.{Schema}
use Rattle.wire_model.specs.Expected.{Message, Stands, message_value, method_named, struct_of}
use Rattle.wire_model.specs.declared.target.Expected.{Expected}
use Rattle.value_text.specs.Spelling.{spell}
use Rattle.same_messages.specs.Agree.{AgreesWhereRead}
use Rattle.same_messages.proofs.SameMessages.{independent}
use Rattle.mojo_tool.specs.Work.{Work, Decodes, IsShown, Judged, Judging, parameters_kind}
use Rattle.mojo_tool.proofs.Shown.{no_fault, shown_work, struct_by, text_read}

-- what is shown of a message that stands is shown of any other that agrees where it is read
pub shown_alike : (schema : Schema) (expected : Expected) (name : List ℕ) (handles : ℕ) (bytes other : List ℕ) (work : Work)
    → Stands schema expected bytes handles → AgreesWhereRead schema expected bytes other
    → Judging schema expected name handles bytes work → Judging schema expected name handles other work
shown_alike schema expected name handles bytes other work stands agrees asked =
    let said : Judged schema expected name handles bytes None work =
    subst (λ (fault : Option Fault). Judged schema expected name handles bytes fault work) (no_fault schema expected bytes handles stands) asked in
    let is : IsShown schema expected name bytes work = said.1 in
    let both = independent schema expected bytes other handles stands agrees in
    let found : option_and_then (struct_of expected.side) (method_named schema expected bytes) ≡ Some is.number =
    struct_by (method_named schema expected bytes) (struct_of expected.side) is.method is.number is.named is.parameters in
    let same : message_value schema other is.number ≡ message_value schema bytes is.number = both.1 is.number found in
    let named : method_named schema expected other ≡ Some is.method =
    ap (λ (m : Message). method_in schema.interfaces expected.interface m.method) same ∙ is.named in
    let found_there : option_and_then (struct_of expected.side) (method_named schema expected other) ≡ Some is.number =
    struct_by (method_named schema expected other) (struct_of expected.side) is.method is.number named is.parameters in
    let shown : IsShown schema expected name other work =
    record {
      method = is.method;
      number = is.number;
      named = named;
      parameters = is.parameters;
      whole = is.whole ∙ sym (ap (λ (m : Message). Decodes name is.method.name m.request (spell schema (parameters_kind is.number) m.value)) same);
      reads = text_read schema expected other is.number found_there;
    } in
    shown_work schema expected name other handles work both.0 shown
