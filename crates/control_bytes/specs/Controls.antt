-- The messages by which the two ends of a pipe speak of their endpoints. Each is for the interface of controls; its payload is a
-- struct of version 0 with the control's kind and one number, or two and 4 bytes of padding.
use Rattle.std.specs.Prelude.{◌≡◌, ℕ, ◌+◌, ◌^◌, ◌<◌, Bool, not, ◌&&◌, ◌||◌, nat_le, nat_lt, ◌==◌, None, List, [], ◌∷◌, ◌++◌}
use Rattle.std.specs.Prelude.{if◌then◌else◌}
use Rattle.mj_base.specs.declared.fault.FaultKind.TheVariants.{UnexpectedStructHeader, IllegalInterfaceId, IllegalMemoryRange, MisalignedObject}
use Rattle.mj_base.specs.declared.fault.FaultKind.TheVariants.{MessageHeaderInvalidFlags, MessageHeaderUnknownMethod}
use Rattle.mj_base.specs.Bytes.{bytes32, number32}
use Rattle.wire_model.specs.HeaderMarks.{CONTROL_ID, aligned, expects, responds, header_marks}
use Rattle.wire_model.specs.Marks.{Mark, Test}
use Rattle.wire_model.specs.Message.{Head, front_of, message, payload_start, payload_end}
use Rattle.wire_model.specs.Stands.{IsFine}
use Rattle.control_bytes.specs.declared.control.Control.{Control}
use Rattle.control_bytes.specs.declared.control.Control.TheVariants.{Closed, Query, Version, Require, Flush}
use Rattle.control_bytes.specs.declared.kinds.TheConstants.{SHORT_BYTES, LONG_BYTES, CLOSED_KIND, QUERY_KIND, VERSION_KIND}
use Rattle.control_bytes.specs.declared.kinds.TheConstants.{REQUIRE_KIND, FLUSH_KIND}

-- ## What is read

-- the struct at a place has one of the two sizes, and version 0
abbrev pub has_header : List ℕ → ℕ → Bool
has_header bytes p = ((number32 bytes p == SHORT_BYTES) || (number32 bytes p == LONG_BYTES)) && (number32 bytes (p + 4) == 0)

-- a version that is told or required needs a second number; the other kinds have one
abbrev pub kind_fits : ℕ → ℕ → Bool
kind_fits size kind =
    if size == LONG_BYTES
    then (kind == VERSION_KIND) || (kind == REQUIRE_KIND)
    else (kind == CLOSED_KIND) || ((kind == QUERY_KIND) || (kind == FLUSH_KIND))

-- flushes are numbered from 1; any other number is the id of an endpoint, and endpoint 0 goes with its end alone
abbrev pub number_fits : ℕ → ℕ → Bool
number_fits kind n =
    if kind == CLOSED_KIND
    then nat_lt 0 n && nat_lt n CONTROL_ID
    else (if kind == FLUSH_KIND then nat_lt 0 n else nat_lt n CONTROL_ID)

-- the tests of a control whose payload runs from a place to another
abbrev pub control_marks_at : List ℕ → ℕ → ℕ → List Mark
control_marks_at bytes p end =
    Test (number32 bytes 12 == 0) MessageHeaderUnknownMethod 12
    ∷ (Test (not (expects (number32 bytes 16) || responds (number32 bytes 16))) MessageHeaderInvalidFlags 16
    ∷ (Test (aligned p) MisalignedObject p
    ∷ (Test (nat_le (p + SHORT_BYTES) end) IllegalMemoryRange p
    ∷ (Test (has_header bytes p) UnexpectedStructHeader p
    ∷ (Test (not (number32 bytes p == LONG_BYTES) || nat_le (p + LONG_BYTES) end) IllegalMemoryRange p
    ∷ (Test (kind_fits (number32 bytes p) (number32 bytes (p + 8))) MessageHeaderUnknownMethod (p + 8)
    ∷ (Test (number_fits (number32 bytes (p + 8)) (number32 bytes (p + 12))) IllegalInterfaceId (p + 12) ∷ [])))))))

-- the tests of a control, behind those of its header
unfoldable pub control_marks : List ℕ → List Mark
control_marks bytes = control_marks_at bytes (payload_start bytes) (payload_end bytes)

-- the control of a kind with a number, and with a second where it has two
abbrev pub control_by : ℕ → ℕ → ℕ → Control
control_by kind n second =
    if kind == CLOSED_KIND
    then Closed n
    else (if kind == QUERY_KIND
    then Query n
    else (if kind == VERSION_KIND then Version n second else (if kind == REQUIRE_KIND then Require n second else Flush n)))

-- the second number of a payload at a place, 0 where it has one alone
abbrev pub second_read : List ℕ → ℕ → ℕ
second_read bytes p = if number32 bytes p == LONG_BYTES then number32 bytes (p + 16) else 0

-- what the payload at a place says
abbrev pub control_at : List ℕ → ℕ → Control
control_at bytes p = control_by (number32 bytes (p + 8)) (number32 bytes (p + 12)) (second_read bytes p)

-- what a control says, meaningful where its tests hold
abbrev pub control_said : List ℕ → Control
control_said bytes = control_at bytes (payload_start bytes)

-- ## What is written

-- the head of a control
abbrev pub CONTROL_HEAD : Head
CONTROL_HEAD = record { interface = CONTROL_ID; name = 0; flags = 0; nonce = 0; request = 0; moment = None; ids = [] }

-- what each control with a payload of so many bytes begins with
abbrev pub begun : ℕ → List ℕ
begun size = front_of [] CONTROL_HEAD size ++ (bytes32 size ++ bytes32 0)

-- the control of a kind with one number
abbrev pub short_control : ℕ → ℕ → List ℕ
short_control kind n = message CONTROL_HEAD (bytes32 SHORT_BYTES ++ (bytes32 0 ++ (bytes32 kind ++ bytes32 n)))

-- the control of a kind with two numbers
abbrev pub long_control : ℕ → ℕ → ℕ → List ℕ
long_control kind n second =
    message CONTROL_HEAD (bytes32 LONG_BYTES ++ (bytes32 0 ++ (bytes32 kind ++ (bytes32 n ++ (bytes32 second ++ bytes32 0)))))

-- the bytes of a control
abbrev pub written_control : Control → List ℕ
written_control (Closed id) = short_control CLOSED_KIND id
written_control (Query id) = short_control QUERY_KIND id
written_control (Version id v) = long_control VERSION_KIND id v
written_control (Require id v) = long_control REQUIRE_KIND id v
written_control (Flush k) = short_control FLUSH_KIND k

-- the number of a control is one that its kind may have
abbrev pub HasNumber : Control → Type 0
HasNumber (Closed id) = (0 < id) × (id < CONTROL_ID)
HasNumber (Query id) = id < CONTROL_ID
HasNumber (Version id v) = id < CONTROL_ID
HasNumber (Require id v) = id < CONTROL_ID
HasNumber (Flush k) = 0 < k

-- versions and flushes have 32 bits
abbrev pub HasWord : Control → Type 0
HasWord (Closed id) = Unit {0}
HasWord (Query id) = Unit {0}
HasWord (Version id v) = v < 2 ^ 32
HasWord (Require id v) = v < 2 ^ 32
HasWord (Flush k) = k < 2 ^ 32

-- bytes are the message of a control: their tests hold, and they say the control
pub record IsControl (bytes : List ℕ) (control : Control) : Type 0 where
  pub header : IsFine (header_marks bytes)
  pub interface : number32 bytes 8 ≡ CONTROL_ID
  pub fine : IsFine (control_marks bytes)
  pub says : control_said bytes ≡ control
