-- How messages stand in a line: the method's word, the parameters, and what goes with them.
use Rattle.std.specs.Prelude.{ℤ, false, List, Option, Some, None}
use Rattle.mj_schema.specs.KindTrees.{KindTree, StructKind}
use Rattle.mj_schema.specs.declared.schema.Schema.{Schema}
use Rattle.handle_table.specs.declared.thing.Thing.{Thing}
use Rattle.wire_model.specs.Trees.{Tree}
use Rattle.wire_model.specs.Trees as values
use Rattle.wire_model.specs.declared.target.MessageSide.{MessageSide}
use Rattle.wire_model.specs.declared.target.Target.{Target}
use Rattle.bind_model.specs.declared.endpoint.PendingId.{PendingId}
use Rattle.bind_model.specs.declared.asked.Outgoing.{Outgoing}
use Rattle.byte_rules.specs.Lang.{Lang, as_value, closed, never, ◌then◌, ◌▸◌}
use Rattle.value_text.specs.Brackets.{MAX_BRACKETS}
use Rattle.value_text.specs.Rules.{value}
use Rattle.line_parts.specs.Signs.{blank}
use Rattle.line_parts.specs.Names.{named, messages_of}
use Rattle.line_parts.specs.Lists.{tokens}
use Rattle.line_parts.specs.declared.names.Message.{Message}
use Rattle.line_parts.specs.declared.names.Names.{Names}

-- a value of a kind, with no more brackets open at once than a text may have, and a blank
unfoldable pub value_and_blank : Schema → KindTree → Lang Tree
value_and_blank schema kind = value schema MAX_BRACKETS kind then λ v. closed blank v

-- the parameters of a message, between blanks: a value of its struct
abbrev pub parameters_of : Schema → Message → Lang (Target × Tree)
parameters_of schema m = blank ▸ as_value (λ v. (m.target, v)) (value_and_blank schema (StructKind m.parameters false))

-- those of the message that a word means
abbrev pub parameters : Schema → Target → Option Message → Lang (Target × Tree)
parameters schema other None = never (other, values.Null)
parameters schema other (Some m) = parameters_of schema m

-- stands where there is no message
abbrev pub no_target : MessageSide → Target
no_target side = record { interface = 0; method = 0; side = side }

-- a message of this side: its method and its parameters, and a blank
unfoldable pub message : Schema → Names → MessageSide → Lang (Target × Tree)
message schema names side = named (messages_of names side) then λ found. parameters schema (no_target side) found

-- what a call or an answer sends
abbrev pub outgoing_of : Option ℤ → Target × Tree → List Thing × List PendingId → Outgoing
outgoing_of moment (target, v) (handles, pendings) =
    record { target = target; parameters = v; handles = handles; pendings = pendings; moment = moment }

-- the same at this moment, which stands before it
unfoldable pub outgoing : Schema → Names → MessageSide → Option ℤ → Lang Outgoing
outgoing schema names side moment = message schema names side then λ m. as_value (outgoing_of moment m) tokens
