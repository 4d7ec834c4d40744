-- The wire of a schema: messages as its tables say.
use Rattle.std.specs.Prelude.{ℕ, Bool, false, List, [], ◌∷◌, length, Option, Some, None, Result, Ok, Err, is_some, option_and_then, slice_get}
use Rattle.std.specs.Option.{option_map_or}
use Rattle.bounds_claims.specs.Runs.{first_fault}
use Rattle.mj_base.specs.declared.fault.Fault.{Fault}
use Rattle.mj_base.specs.Bytes.{number32}
use Rattle.mj_schema.specs.KindTrees.{StructKind}
use Rattle.mj_schema.specs.Lookups.{method_in}
use Rattle.mj_schema.specs.declared.rows.InterfaceRow.{InterfaceRow}
use Rattle.mj_schema.specs.declared.rows.MethodRow.{MethodRow}
use Rattle.mj_schema.specs.declared.schema.Schema.{Schema}
use Rattle.control_bytes.specs.Controls.{control_marks, control_said, written_control}
use Rattle.control_bytes.specs.declared.control.Control.{Control}
use Rattle.message_header.specs.FirstFailed.{first_failed}
use Rattle.message_validator.specs.Before.{before_payload}
use Rattle.wire_encoder.specs.Checks.{Check, Test, HandleAt, EndpointAt, checks}
use Rattle.wire_encoder.specs.FirstFailed.{Met, Refusal}
use Rattle.wire_encoder.specs.Prepared.{flags_for, method_of, payload_for, verdict}
use Rattle.wire_encoder.specs.declared.endpoint.EndpointSide.{EndpointSide}
use Rattle.wire_encoder.specs.declared.endpoint.EndpointSide.TheVariants.{Remote, Receiver}
use Rattle.wire_encoder.specs.declared.endpoint.WantedEndpoint.{WantedEndpoint}
use Rattle.wire_model.specs.Expected.{message_marks, method_named, struct_of}
use Rattle.wire_model.specs.HeaderMarks.{header_marks}
use Rattle.wire_model.specs.Indexes.{handles_of}
use Rattle.wire_model.specs.Message.{ids_read, message, moment_read, payload_start, request_read}
use Rattle.wire_model.specs.Tight.{value_of}
use Rattle.wire_model.specs.Trees.{Tree}
use Rattle.wire_model.specs.declared.target.Expected.{Expected}
use Rattle.wire_model.specs.declared.target.MessageSide.{MessageSide}
use Rattle.wire_model.specs.declared.target.MessageSide.TheVariants.{Request, Response}
use Rattle.wire_model.specs.declared.target.Target.{Target}
use Rattle.bind_model.specs.Wire.{Wire, Header, Named, Content, Head}

-- this, unless there is a fault
abbrev pub unless_fault : {A : Type 0} → Option Fault → A → Result A Fault
unless_fault None answer = Ok answer
unless_fault (Some fault) answer = Err fault

-- ## What is sent

-- whether there is such a method and it has a response
abbrev pub has_response : Option MethodRow → Bool
has_response None = false
has_response (Some method) = is_some method.response

-- the version of an interface, 0 where there is none of this number
abbrev pub version_in : Schema → ℕ → ℕ
version_in schema interface = option_map_or (λ (row : InterfaceRow). row.version) (slice_get schema.interfaces interface) 0

-- how many handles parameters name, where they fit
abbrev pub handles_met : Result Met Refusal → ℕ
handles_met (Ok met) = met.handles
handles_met (Err refusal) = 0

-- the endpoints that parameters name, where they fit
abbrev pub endpoints_met : Result Met Refusal → List WantedEndpoint
endpoints_met (Ok met) = met.endpoints
endpoints_met (Err refusal) = []

-- the tight bytes of parameters, behind the header of their method
abbrev pub sealed : Schema → Target → Tree → Head → List ℕ
sealed schema target parameters head = message
    (record {
      interface = head.id;
      name = target.method;
      flags = flags_for (method_of schema target) target;
      nonce = 0;
      request = head.request;
      moment = head.moment;
      ids = head.ids;
    })
    (payload_for schema target parameters)

-- ## What is received

-- the header of a message, or its first fault
abbrev pub header_in : List ℕ → Result Header Fault
header_in bytes = unless_fault (first_failed (header_marks bytes)) (record { id = number32 bytes 8; ids = ids_read bytes })

-- what a control says, or its first fault
abbrev pub says_in : List ℕ → Result Control Fault
says_in bytes = unless_fault (first_failed (control_marks bytes)) (control_said bytes)

-- a receiver gets requests, and a remote responses
abbrev pub comes_to : EndpointSide → MessageSide
comes_to Receiver = Request
comes_to Remote = Response

-- the places of the endpoints that parameters name, in order, each with what it is by its kind
abbrev pub endpoints_named : List Check → List Named
endpoints_named [] = []
endpoints_named (Test holds flaw path ∷ cs) = endpoints_named cs
endpoints_named (HandleAt index path ∷ cs) = endpoints_named cs
endpoints_named (EndpointAt index wanted path ∷ cs) = record { index = index; endpoint = wanted } ∷ endpoints_named cs

-- parameters of the struct of a number
abbrev pub content_of : Schema → Expected → List ℕ → ℕ → Tree → Content
content_of schema expected bytes number parameters = record {
  target = record { interface = expected.interface; method = number32 bytes 12; side = expected.side };
  request = request_read bytes;
  parameters = parameters;
  handles = handles_of parameters;
  ids = endpoints_named (checks schema 0 false (StructKind number false) parameters);
  moment = moment_read bytes;
}

-- the number of the struct of a message's parameters; meaningful where the message stands
abbrev pub struct_named : Schema → Expected → List ℕ → ℕ
struct_named schema expected bytes =
    elim (option_and_then (struct_of expected.side) (method_named schema expected bytes)) [ Some number ↦ number | None ↦ 0 ]

-- what a message stands for whose parameters are of the struct of a number
abbrev pub content_in : Schema → Expected → List ℕ → ℕ → Content
content_in schema expected bytes number = content_of schema expected bytes number (value_of schema bytes (payload_start bytes) number)

-- what a message stands for, or its first fault
abbrev pub stands_in : Schema → Expected → List ℕ → ℕ → Result Content Fault
stands_in schema expected bytes handles =
    unless_fault (first_fault (before_payload bytes handles) (message_marks schema expected bytes))
    (content_in schema expected bytes (struct_named schema expected bytes))

-- the wire of a schema
unfoldable pub wire_of : Schema → Wire
wire_of schema = record {
  interfaces = length schema.interfaces;
  responds = λ interface method. has_response (method_in schema.interfaces interface method);
  handles = λ target parameters. handles_met (verdict schema target parameters);
  wants = λ target parameters. endpoints_met (verdict schema target parameters);
  sealed = sealed schema;
  version = version_in schema;
  control = written_control;
  header = header_in;
  says = says_in;
  stands = λ side interface bytes handles. stands_in schema (record { interface = interface; side = comes_to side }) bytes handles;
}
