-- The laws of how messages stand in a line.
use Rattle.std.proofs.Common.{ℤ, ◌==◌, Option, Some, None, false, refl}
use Rattle.mj_schema.specs.KindTrees.{KindTree, StructKind}
use Rattle.mj_schema.specs.declared.schema.Schema.{Schema}
use Rattle.wire_model.specs.Trees as values
use Rattle.wire_model.specs.Trees.{Tree}
use Rattle.wire_model.specs.declared.target.MessageSide.{MessageSide}
use Rattle.wire_model.specs.declared.target.Target.{Target}
use Rattle.byte_rules.proofs.Good.{Good, nothing, good_value, good_closed, good_never, good_then, good_before, good_wider}
use Rattle.value_text.specs.Brackets.{MAX_BRACKETS}
use Rattle.value_text.proofs.KindLaws.{value_starts, good_kind}
use Rattle.line_parts.specs.Signs.{blank}
use Rattle.line_parts.specs.Names.{messages_of}
use Rattle.line_parts.specs.Messages.{value_and_blank, parameters, no_target, message, outgoing_of, outgoing}
use Rattle.line_parts.specs.declared.names.Message.{Message}
use Rattle.line_parts.specs.declared.names.Names.{Names}
use Rattle.line_parts.proofs.IdLaws.{blank_no_digit}
use Rattle.line_parts.proofs.ListLaws.{good_tokens}
use Rattle.line_parts.proofs.NameLaws.{is_not_blank, blank_apart, AreWords, messages_are_words, good_named}

pub good_value_and_blank : (schema : Schema) (kind : KindTree) → Good value_starts nothing (value_and_blank schema kind)
unfolding value_and_blank
good_value_and_blank schema kind = good_then _ (good_kind schema MAX_BRACKETS kind) (λ v. good_closed blank v) blank_no_digit

good_parameters : (schema : Schema) (other : Target) (found : Option Message) → Good (λ b. b == blank) nothing (parameters schema other found)
good_parameters schema other None = good_wider (λ b. b == blank) nothing (good_never (other, values.Null)) (λ b e. absurd (cc)) (λ b e. refl)
good_parameters schema other (Some m) =
    good_before blank (good_value (λ (v : Tree). (m.target, v)) (good_value_and_blank schema (StructKind m.parameters false)))

pub good_message : (schema : Schema) (names : Names) (side : MessageSide) → AreWords names → Good is_not_blank nothing (message schema names side)
unfolding message
good_message schema names side w =
    good_then _ (good_named (messages_of names side) (messages_are_words names side w)) (good_parameters schema (no_target side)) blank_apart

pub good_outgoing : (schema : Schema) (names : Names) (side : MessageSide) (moment : Option ℤ) → AreWords names
    → Good is_not_blank nothing (outgoing schema names side moment)
unfolding outgoing
good_outgoing schema names side moment w =
    good_then _ (good_message schema names side w) (λ m. good_value (outgoing_of moment m) good_tokens) (λ b e. refl)
