-- How the reasons of refusals, and those of bad messages, stand in a line.
use Rattle.std.specs.Prelude.{ℕ, List, [], ◌∷◌, codes}
use Rattle.mj_base.specs.declared.fault.FaultKind.{FaultKind}
use Rattle.mj_base.specs.declared.fault.FaultKind.TheVariants as faults
use Rattle.bind_model.specs.declared.told.BadWhy.{BadWhy}
use Rattle.bind_model.specs.declared.told.BadWhy.TheVariants as bads
use Rattle.bind_model.specs.declared.told.Told.{Told}
use Rattle.bind_model.specs.declared.told.Told.TheVariants as tells
use Rattle.bind_model.specs.declared.told.Why.TheVariants as whys
use Rattle.byte_rules.specs.Lang.{Lang, as_value, closed, ◌then◌, ◌▸◌}
use Rattle.value_text.specs.Numbers.{index}
use Rattle.line_parts.specs.Signs.{line_end, blank}
use Rattle.line_parts.specs.Keywords.{keyword}
use Rattle.line_parts.specs.Ids.{wide, sequence, end, token}
use Rattle.history_reader.specs.declared.reasons.BadWord.{BadWord}
use Rattle.history_reader.specs.declared.reasons.BadWord.TheVariants.{Fault, Unasked, StrangeId, TooOld}
use Rattle.history_reader.specs.declared.reasons.WhyPart.{WhyPart}
use Rattle.history_reader.specs.declared.reasons.WhyPart.TheVariants as parts
use Rattle.history_reader.specs.declared.reasons.WhyWord.{WhyWord}
use Rattle.history_reader.specs.declared.reasons.WhyWord.TheVariants.{Plain, Of}

-- the words of refusals
abbrev pub why_words : List (WhyWord × List ℕ)
why_words =
    (Plain whys.NoName, codes "no-name") ∷ (Plain whys.NotPipe, codes "not-pipe") ∷ (Plain whys.Disconnected, codes "disconnected")
    ∷ (Of parts.Unbound, codes "unbound") ∷ (Of parts.Elsewhere, codes "elsewhere") ∷ (Plain whys.WrongSide, codes "wrong-side")
    ∷ (Plain whys.WrongMethod, codes "wrong-method") ∷ (Plain whys.WrongTokens, codes "wrong-tokens") ∷ (Of parts.WrongPipe, codes "wrong-pipe")
    ∷ (Plain whys.SelfSend, codes "self-send") ∷ (Plain whys.TooLong, codes "too-long") ∷ (Plain whys.TooManyHandles, codes "too-many-handles")
    ∷ (Plain whys.Full, codes "full") ∷ (Plain whys.Empty, codes "empty") ∷ (Plain whys.PeerClosed, codes "peer-closed")
    ∷ (Of parts.Paused, codes "paused") ∷ (Plain whys.SelfPause, codes "self-pause") ∷ (Of parts.BadSize, codes "bad-size")
    ∷ (Plain whys.NotData, codes "not-data") ∷ (Of parts.Busy, codes "busy") ∷ (Plain whys.Idle, codes "idle") ∷ (Of parts.Short, codes "short") ∷ []

-- the words of what is bad in a message
abbrev pub bad_words : List (BadWord × List ℕ)
bad_words =
    (Unasked, codes "unasked") ∷ (StrangeId, codes "strange-id") ∷ (TooOld, codes "too-old") ∷ (Fault faults.MisalignedObject, codes "MISALIGNED_OBJECT")
    ∷ (Fault faults.IllegalMemoryRange, codes "ILLEGAL_MEMORY_RANGE") ∷ (Fault faults.UnexpectedStructHeader, codes "UNEXPECTED_STRUCT_HEADER")
    ∷ (Fault faults.UnexpectedArrayHeader, codes "UNEXPECTED_ARRAY_HEADER") ∷ (Fault faults.IllegalHandle, codes "ILLEGAL_HANDLE")
    ∷ (Fault faults.UnexpectedInvalidHandle, codes "UNEXPECTED_INVALID_HANDLE") ∷ (Fault faults.IllegalPointer, codes "ILLEGAL_POINTER")
    ∷ (Fault faults.UnexpectedNullPointer, codes "UNEXPECTED_NULL_POINTER") ∷ (Fault faults.IllegalInterfaceId, codes "ILLEGAL_INTERFACE_ID")
    ∷ (Fault faults.UnexpectedInvalidInterfaceId, codes "UNEXPECTED_INVALID_INTERFACE_ID")
    ∷ (Fault faults.MessageHeaderInvalidFlags, codes "MESSAGE_HEADER_INVALID_FLAGS")
    ∷ (Fault faults.MessageHeaderMissingRequestId, codes "MESSAGE_HEADER_MISSING_REQUEST_ID")
    ∷ (Fault faults.MessageHeaderUnknownMethod, codes "MESSAGE_HEADER_UNKNOWN_METHOD")
    ∷ (Fault faults.DifferentSizedArraysInMap, codes "DIFFERENT_SIZED_ARRAYS_IN_MAP") ∷ (Fault faults.UnexpectedNullUnion, codes "UNEXPECTED_NULL_UNION")
    ∷ (Fault faults.UnknownUnionTag, codes "UNKNOWN_UNION_TAG") ∷ (Fault faults.UnknownEnumValue, codes "UNKNOWN_ENUM_VALUE")
    ∷ (Fault faults.MaxRecursionDepth, codes "MAX_RECURSION_DEPTH") ∷ (Fault faults.BadUtf8, codes "BAD_UTF8") ∷ []

-- what was told, and the line's end
abbrev pub line : {A : Type 0} → (A → Told) → Lang A → Lang Told
line tell one = one then λ x. closed line_end (tell x)

-- what a refusal says behind its word and a blank, and the line's end
unfoldable pub part_after : WhyPart → Lang Told
part_after parts.Unbound = line (λ id. tells.No (whys.Unbound id)) index
part_after parts.Elsewhere = line (λ t. tells.No (whys.Elsewhere t)) sequence
part_after parts.WrongPipe = line (λ id. tells.No (whys.WrongPipe id)) index
part_after parts.Paused = line (λ x. tells.No (whys.Paused x)) end
part_after parts.BadSize = line (λ size. tells.No (whys.BadSize size)) index
part_after parts.Busy = line (λ t. tells.No (whys.Busy t)) token
part_after parts.Short = line (λ n. tells.No (whys.Short n)) index

-- why a command is refused, and the line's end
unfoldable pub why_after : WhyWord → Lang Told
why_after (Plain why) = closed line_end (tells.No why)
why_after (Of part) = blank ▸ part_after part

-- a refusal behind its word: why, and the line's end
unfoldable pub refusal : Lang Told
refusal = blank ▸ keyword why_words then why_after

-- a fault at a place, as why a message is bad
abbrev pub fault_at : FaultKind → ℕ → BadWhy
fault_at kind at = bads.Message (record { kind = kind; at = at })

-- what stands behind the word of why a message is bad
unfoldable pub bad_after : BadWord → Lang BadWhy
bad_after (Fault kind) = blank ▸ as_value (fault_at kind) wide
bad_after Unasked = blank ▸ as_value bads.Unasked wide
bad_after StrangeId = blank ▸ as_value bads.StrangeId index
bad_after TooOld = blank ▸ as_value bads.TooOld index

-- why a message is bad
unfoldable pub bad : Lang BadWhy
bad = keyword bad_words then bad_after
