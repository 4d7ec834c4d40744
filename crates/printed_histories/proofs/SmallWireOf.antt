-- The wire of a schema writes bytes, and reads numbers of their widths.
use Rattle.std.proofs.Common.{◌<◌, ℕ, ◌^◌, [], ◌++◌, length, arith}
use Rattle.std.specs.Prelude.{None}
use Rattle.mj_base.specs.Bytes.{bytes32}
use Rattle.mj_schema.specs.declared.schema.Schema.{Schema}
use Rattle.wire_encoder.specs.Prepared.{flags_for, method_of, payload_for}
use Rattle.wire_model.specs.HeaderMarks.{CONTROL_ID}
use Rattle.control_bytes.specs.Controls.{long_control, short_control, written_control}
use Rattle.control_bytes.specs.declared.control.Control.{Control}
use Rattle.control_bytes.specs.declared.control.Control.TheVariants.{Closed, Query, Version, Require, Flush}
use Rattle.bind_model.specs.WireOf.{version_in, wire_of, comes_to}
use Rattle.printed_histories.proofs.SmallFaults.{HasLowSlots}
use Rattle.printed_histories.proofs.SmallPlaces.{header_placed, says_placed, stands_placed}
use Rattle.printed_histories.proofs.SmallSaid.{IsFine, IsSmallWire}
use Rattle.printed_histories.specs.Asked.{BecomeBytes}
use Rattle.printed_histories.proofs.SmallWire.{before, bytes32_fine, message_fine, header_small, says_small, stands_small}

-- the payload of a control of one number
short_length : (kind n : ℕ) → length (bytes32 16 ++ (bytes32 0 ++ (bytes32 kind ++ bytes32 n))) < 2 ^ 61
unfolding bytes32
short_length kind n = omega arith

short_fine : (kind n : ℕ) → IsFine (short_control kind n)
short_fine kind n = message_fine (record { interface = CONTROL_ID; name = 0; flags = 0; nonce = 0; request = 0; moment = None; ids = [] })
    (bytes32 16 ++ (bytes32 0 ++ (bytes32 kind ++ bytes32 n))) (omega arith)
    (before 16 (bytes32 0 ++ (bytes32 kind ++ bytes32 n)) (before 0 (bytes32 kind ++ bytes32 n) (before kind (bytes32 n) (bytes32_fine n))))
    (short_length kind n)

-- and of one of two
long_length : (kind n v : ℕ) → length (bytes32 24 ++ (bytes32 0 ++ (bytes32 kind ++ (bytes32 n ++ (bytes32 v ++ bytes32 0))))) < 2 ^ 61
unfolding bytes32
long_length kind n v = omega arith

long_fine : (kind n v : ℕ) → IsFine (long_control kind n v)
long_fine kind n v = message_fine (record { interface = CONTROL_ID; name = 0; flags = 0; nonce = 0; request = 0; moment = None; ids = [] })
    (bytes32 24 ++ (bytes32 0 ++ (bytes32 kind ++ (bytes32 n ++ (bytes32 v ++ bytes32 0))))) (omega arith)
    (before 24 (bytes32 0 ++ (bytes32 kind ++ (bytes32 n ++ (bytes32 v ++ bytes32 0))))
    (before 0 (bytes32 kind ++ (bytes32 n ++ (bytes32 v ++ bytes32 0)))
    (before kind (bytes32 n ++ (bytes32 v ++ bytes32 0)) (before n (bytes32 v ++ bytes32 0) (before v (bytes32 0) (bytes32_fine 0))))))
    (long_length kind n v)

control_fine : (c : Control) → IsFine (written_control c)
control_fine (Closed id) = short_fine 1 id
control_fine (Query id) = short_fine 2 id
control_fine (Version id v) = long_fine 3 id v
control_fine (Require id v) = long_fine 4 id v
control_fine (Flush k) = short_fine 5 k

-- the versions of interfaces are numbers of 32 bits
abbrev pub HasSmallVersions : Schema → Type 0
HasSmallVersions schema = (interface : ℕ) → version_in schema interface < 2 ^ 32

pub small_wire : (schema : Schema) → HasLowSlots schema × HasSmallVersions schema → IsSmallWire (BecomeBytes schema) (wire_of schema)
unfolding wire_of
small_wire schema (low, versions) = record {
  wants = λ target parameters a. a.2;
  sealed = λ target parameters head a few. message_fine
      (record {
        interface = head.id;
        name = target.method;
        flags = flags_for (method_of schema target) target;
        nonce = 0;
        request = head.request;
        moment = head.moment;
        ids = head.ids;
      })
      (payload_for schema target parameters) few a.0 a.1;
  control = control_fine;
  header = header_small;
  says = says_small;
  stands = λ side interface bytes n c fine e. stands_small schema (record { interface = interface; side = comes_to side }) bytes n c fine e;
  version = versions;
  header_fault = λ bytes f fine e. header_placed bytes fine.0 f e;
  says_fault = λ bytes h f fine headed e. says_placed bytes fine.0 fine.1 h headed f e;
  stands_fault = λ side interface bytes h n f fine headed e.
      stands_placed bytes fine.0 fine.1 h headed schema low (record { interface = interface; side = comes_to side }) n f e;
}
