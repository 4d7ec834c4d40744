-- What the parts of a line can be: numbers of their widths, and names and values that are the schema's.
use Rattle.std.specs.Prelude.{◌≡◌, ℕ, ℤ, pos, negsuc, ◌<◌, ◌^◌, false, List, [], ◌∷◌, Option, Some, None}
use Rattle.mj_base.specs.declared.ids.EndId.{EndId}
use Rattle.mj_base.specs.declared.ids.SeqId.{SeqId}
use Rattle.mj_schema.specs.KindTrees.{StructKind}
use Rattle.mj_schema.specs.declared.schema.Schema.{Schema}
use Rattle.handle_table.specs.declared.thing.Thing.{Thing}
use Rattle.handle_table.specs.declared.thing.Thing.TheVariants.{End, Token}
use Rattle.handle_table.specs.declared.thing.TokenId.{TokenId}
use Rattle.wire_model.specs.Trees.{Tree}
use Rattle.wire_model.specs.declared.target.MessageSide.{MessageSide}
use Rattle.wire_model.specs.declared.target.Target.{Target}
use Rattle.bind_model.specs.declared.asked.Outgoing.{Outgoing}
use Rattle.bind_model.specs.declared.endpoint.PendingId.{PendingId}
use Rattle.bind_model.specs.declared.endpoint.ResponderId.{ResponderId}
use Rattle.byte_rules.specs.Judged.{Spells}
use Rattle.value_text.specs.Brackets.{MAX_BRACKETS}
use Rattle.value_text.specs.Rules.{value}
use Rattle.history_text.specs.History.{parameters_text}
use Rattle.history_text.specs.Names.{interface_name, method_text}
use Rattle.line_parts.specs.Names.{names_of, messages_of, meaning}

-- a number of 32 bits
abbrev pub IsSmall : ℕ → Type 0
IsSmall n = n < 2 ^ 32

-- a number of 64 bits
abbrev pub IsWide : ℕ → Type 0
IsWide n = n < 2 ^ 64

-- an integer of 64 bits, one of them its sign
abbrev pub IsLong : ℤ → Type 0
IsLong (pos n) = n < 2 ^ 63
IsLong (negsuc n) = n < 2 ^ 63

-- a moment, where there is one
abbrev pub IsMoment : Option ℤ → Type 0
IsMoment None = Unit {0}
IsMoment (Some moment) = IsLong moment

-- a sequence whose number has 32 bits
abbrev pub IsSequence : SeqId → Type 0
IsSequence seq = IsSmall seq.0

-- an end of a message pipe: its sequence and its number there have 32 bits
abbrev pub IsEnd : EndId → Type 0
IsEnd x = IsSmall x.seq × IsSmall x.serial

-- a token: its sequence and its number there have 32 bits
abbrev pub IsToken : TokenId → Type 0
IsToken t = IsSmall t.seq × IsSmall t.serial

-- an end or a token, whose numbers have 32 bits
abbrev pub IsThing : Thing → Type 0
IsThing (End x) = IsEnd x
IsThing (Token t) = IsToken t

-- a pending endpoint: the numbers of its end and its id have 32 bits
abbrev pub IsPending : PendingId → Type 0
IsPending p = IsEnd p.end × IsSmall p.id

-- the text doesn't say the interface of a responder's endpoint
abbrev pub IsResponder : ResponderId → Type 0
IsResponder r = IsEnd r.end × IsSmall r.id × IsWide r.request × IsSmall r.method × (r.interface ≡ 0)

-- all of a list
abbrev pub AreAll : {A : Type 0} → (A → Type 0) → List A → Type 0
AreAll Is [] = Unit {0}
AreAll Is (x ∷ xs) = Is x × AreAll Is xs

-- numbers that bytes can be, all of them
abbrev pub AreBytes : List ℕ → Type 0
AreBytes bytes = AreAll (λ (b : ℕ). b < 256) bytes

-- an interface whose name means it
abbrev pub IsInterface : Schema → ℕ → Type 0
IsInterface schema n = meaning (names_of schema).interfaces (interface_name schema n) ≡ Some n

-- a message whose method's word means it, and whose parameters are a value that their text spells
pub record IsMessage (schema : Schema) (side : MessageSide) (target : Target) (parameters : Tree) : Type 0 where
  pub number : ℕ
  pub means : meaning (messages_of (names_of schema) side) (method_text schema target.interface target.method) ≡ Some
      (record { target = target; parameters = number })
  pub spells : Spells (value schema MAX_BRACKETS (StructKind number false)) parameters (parameters_text schema target parameters)

-- what is sent: a message of this side, and handles, pending endpoints and a moment whose numbers are of their widths
abbrev pub IsOutgoing : Schema → MessageSide → Outgoing → Type 0
IsOutgoing schema side o =
    IsMessage schema side o.target o.parameters × AreAll IsThing o.handles × AreAll IsPending o.pendings × IsMoment o.moment
