-- The words for sides, sorts, fates of callbacks, and causes.
use Rattle.std.specs.Prelude.{ℕ, List, codes}
use Rattle.handle_table.specs.declared.thing.TokenSort.{TokenSort}
use Rattle.handle_table.specs.declared.thing.TokenSort.TheVariants.{SharedBuffer, Platform}
use Rattle.mj_base.specs.declared.fault.FaultKind.{FaultKind}
use Rattle.mj_base.specs.declared.fault.FaultKind.TheVariants as faults
use Rattle.wire_encoder.specs.declared.endpoint.EndpointSide.{EndpointSide}
use Rattle.wire_encoder.specs.declared.endpoint.EndpointSide.TheVariants.{Remote, Receiver}
use Rattle.wire_model.specs.declared.target.MessageSide.{MessageSide}
use Rattle.wire_model.specs.declared.target.MessageSide.TheVariants.{Request, Response}
use Rattle.history_text.specs.declared.notes.Fate.{Fate}
use Rattle.history_text.specs.declared.notes.Fate.TheVariants.{Ran, Dropped}

-- the word for a side of an endpoint
abbrev pub side_word : EndpointSide → List ℕ
side_word Remote = codes "remote"
side_word Receiver = codes "receiver"

-- the word for a sort of token
abbrev pub sort_word : TokenSort → List ℕ
sort_word SharedBuffer = codes "shared_buffer"
sort_word Platform = codes "platform"

-- the word for a side of a method
abbrev pub message_word : MessageSide → List ℕ
message_word Request = codes "request"
message_word Response = codes "response"

-- the word for what became of a callback
abbrev pub fate_word : Fate → List ℕ
fate_word Ran = codes "ran"
fate_word Dropped = codes "dropped"

-- the word for a fault, as Chromium has it where it has one
abbrev pub fault_word : FaultKind → List ℕ
fault_word faults.MisalignedObject = codes "MISALIGNED_OBJECT"
fault_word faults.IllegalMemoryRange = codes "ILLEGAL_MEMORY_RANGE"
fault_word faults.UnexpectedStructHeader = codes "UNEXPECTED_STRUCT_HEADER"
fault_word faults.UnexpectedArrayHeader = codes "UNEXPECTED_ARRAY_HEADER"
fault_word faults.IllegalHandle = codes "ILLEGAL_HANDLE"
fault_word faults.UnexpectedInvalidHandle = codes "UNEXPECTED_INVALID_HANDLE"
fault_word faults.IllegalPointer = codes "ILLEGAL_POINTER"
fault_word faults.UnexpectedNullPointer = codes "UNEXPECTED_NULL_POINTER"
fault_word faults.IllegalInterfaceId = codes "ILLEGAL_INTERFACE_ID"
fault_word faults.UnexpectedInvalidInterfaceId = codes "UNEXPECTED_INVALID_INTERFACE_ID"
fault_word faults.MessageHeaderInvalidFlags = codes "MESSAGE_HEADER_INVALID_FLAGS"
fault_word faults.MessageHeaderMissingRequestId = codes "MESSAGE_HEADER_MISSING_REQUEST_ID"
fault_word faults.MessageHeaderUnknownMethod = codes "MESSAGE_HEADER_UNKNOWN_METHOD"
fault_word faults.DifferentSizedArraysInMap = codes "DIFFERENT_SIZED_ARRAYS_IN_MAP"
fault_word faults.UnexpectedNullUnion = codes "UNEXPECTED_NULL_UNION"
fault_word faults.UnknownUnionTag = codes "UNKNOWN_UNION_TAG"
fault_word faults.UnknownEnumValue = codes "UNKNOWN_ENUM_VALUE"
fault_word faults.MaxRecursionDepth = codes "MAX_RECURSION_DEPTH"
fault_word faults.BadUtf8 = codes "BAD_UTF8"
