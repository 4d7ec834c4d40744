-- What sequences ask that a text can say: numbers of their widths, and names and values that are the schema's.
use Rattle.std.specs.Int.{w64}
use Rattle.std.specs.List.{AllByRecursion}
use Rattle.std.specs.Prelude.{FitsSigned, IfSome, ℕ, ◌≡◌, ◌<◌, ◌≤◌, ◌^◌, false, List, length, Some, Ok}
use Rattle.mj_schema.specs.KindTrees.{StructKind}
use Rattle.mj_schema.specs.Lookups.{interface_named}
use Rattle.mj_schema.specs.declared.schema.Schema.{Schema}
use Rattle.wire_model.specs.Depth.{IsOfKind}
use Rattle.wire_model.specs.Tight.{MAX_PAYLOAD_BYTES}
use Rattle.wire_model.specs.Trees.{Tree}
use Rattle.wire_model.specs.declared.target.MessageSide.{MessageSide}
use Rattle.wire_model.specs.declared.target.MessageSide.TheVariants.{Request, Response}
use Rattle.wire_model.specs.declared.target.Target.{Target}
use Rattle.wire_encoder.specs.FirstFailed.{Met}
use Rattle.wire_encoder.specs.Prepared.{parameters_of, payload_for, verdict}
use Rattle.value_text.specs.Brackets.{MAX_BRACKETS, brackets}
use Rattle.message_laws.specs.Filled as filled
use Rattle.bind_model.specs.WireOf.{endpoints_met}
use Rattle.bind_model.specs.declared.asked.Asked.{Asked}
use Rattle.bind_model.specs.declared.asked.Asked.TheVariants as asks
use Rattle.bind_model.specs.declared.asked.Closing.{Closing}
use Rattle.bind_model.specs.declared.asked.Closing.TheVariants as closings
use Rattle.bind_model.specs.declared.asked.Outgoing.{Outgoing}
use Rattle.bind_model.specs.declared.endpoint.ResponderId.{ResponderId}
use Rattle.bind_model.specs.declared.event.Event.{Event}
use Rattle.line_parts.specs.Printable.{IsSmall, IsWide, IsMoment, IsSequence, IsEnd, IsThing, IsPending, AreAll, AreBytes}
use Rattle.history_reader.specs.Printable.{IsFlow, IsNotice}

-- ## Numbers

-- a responder, but for its interface, which no text says
abbrev pub IsSmallResponder : ResponderId → Type 0
IsSmallResponder r = IsEnd r.end × IsSmall r.id × IsWide r.request × IsSmall r.method

-- handles, endpoints, parameters of which this holds, and a moment
abbrev pub IsSmallOut : (Target → Tree → Type 0) → Outgoing → Type 0
IsSmallOut F o = AreAll IsThing o.handles × AreAll IsPending o.pendings × F o.target o.parameters × IsMoment o.moment

-- what is closed, by numbers of their widths
abbrev pub IsSmallClosing : Closing → Type 0
IsSmallClosing (closings.Handle x) = IsThing x
IsSmallClosing (closings.Pending p) = IsPending p
IsSmallClosing (closings.Responder r) = IsSmallResponder r
IsSmallClosing (closings.Endpoint y id) = IsEnd y × IsSmall id

-- what is asked has numbers of their widths, bytes, and parameters of which this holds
abbrev pub IsSmallAsked : (Target → Tree → Type 0) → Asked → Type 0
IsSmallAsked F asks.Pipe = Unit {0}
IsSmallAsked F (asks.Join t) = IsSequence t
IsSmallAsked F (asks.Mint sort) = Unit {0}
IsSmallAsked F (asks.Bind x side interface) = IsThing x
IsSmallAsked F (asks.Associate y side interface) = IsEnd y
IsSmallAsked F (asks.Attach p t) = IsPending p × IsSequence t
IsSmallAsked F (asks.Call y id o) = IsEnd y × IsSmall id × IsSmallOut F o
IsSmallAsked F (asks.Answer r o) = IsSmallResponder r × IsSmallOut F o
IsSmallAsked F (asks.Raw x bytes handles) = IsThing x × AreBytes bytes × AreAll IsThing handles
IsSmallAsked F (asks.Take y) = IsEnd y
IsSmallAsked F (asks.Close closing) = IsSmallClosing closing
IsSmallAsked F (asks.Notify y notice) = IsEnd y × IsNotice notice
IsSmallAsked F (asks.Pause b a flush) = IsEnd b × (IsEnd a × IsSmall flush)
IsSmallAsked F (asks.Data size) = IsSmall size
IsSmallAsked F (asks.Flow x flow) = IsThing x × IsFlow flow
IsSmallAsked F (asks.Skip line) = IsSmall line

-- parameters that become bytes, not too many, and that name no more endpoints than a message carries
abbrev pub BecomeBytes : Schema → Target → Tree → Type 0
BecomeBytes schema target parameters =
    AreBytes (payload_for schema target parameters) × (length (payload_for schema target parameters) < 2 ^ 61)
    × (length (endpoints_met (verdict schema target parameters)) ≤ 64)

-- ## Names and values

-- a value of the struct of a number, with at most 512 brackets open at once
pub record IsSaid (schema : Schema) (number : ℕ) (t : Tree) : Type 0 where
  pub kind : IsOfKind schema (StructKind number false) t
  pub few : brackets t ≤ MAX_BRACKETS

-- what is sent for a target of a side: a value of the struct of its parameters, which passes all checks, in few bytes
pub record IsSending (schema : Schema) (side : MessageSide) (target : Target) (t : Tree) : Type 0 where
  pub number : ℕ
  pub sided : target.side ≡ side
  pub parameters : parameters_of schema target ≡ Some number
  pub said : IsSaid schema number t
  pub met : Met
  pub passes : verdict schema target t ≡ Ok met
  pub short : length (payload_for schema target t) ≤ MAX_PAYLOAD_BYTES

-- some word names an interface
abbrev pub IsNamedInterface : Schema → ℕ → Type 0
IsNamedInterface schema n = (word : List ℕ) × (interface_named schema.interfaces word ≡ Some n)

-- what is sent is such a value, and its moment has 64 bits
abbrev pub Sends : Schema → MessageSide → Outgoing → Type 0
Sends schema side o = IsSending schema side o.target o.parameters × IfSome o.moment (FitsSigned w64)

-- what an event calls or answers is sent so, what it binds or makes an endpoint as is named, and what it writes raw is bytes
abbrev pub AsksSaid : Schema → Asked → Type 0
AsksSaid schema (asks.Call y id o) = Sends schema Request o
AsksSaid schema (asks.Answer r o) = Sends schema Response o
AsksSaid schema (asks.Bind x side interface) = IsNamedInterface schema interface
AsksSaid schema (asks.Associate x side interface) = IsNamedInterface schema interface
AsksSaid schema (asks.Raw x bytes handles) = filled.AreBytes bytes
AsksSaid schema asked = Unit {0}

-- so it is with what each event asks
abbrev pub AllAskSaid : Schema → List Event → Type 0
AllAskSaid schema past = AllByRecursion (λ (event : Event). AsksSaid schema event.asked) past

-- ## Both

-- what each of these events asks can be said
abbrev pub AllAskPrintable : Schema → List Event → Type 0
AllAskPrintable schema past = AreAll (λ (event : Event). IsSmallAsked (BecomeBytes schema) event.asked) past × AllAskSaid schema past
