-- That what is sealed of a value that was prepared is let through, and is read as that value.
use Rattle.std.specs.Prelude.{ℕ, ◌≡◌, ◌≤◌, List, length, Some, Ok, option_and_then}
use Rattle.mj_schema.specs.declared.schema.Schema.{Schema}
use Rattle.wire_model.specs.Expected.{Message, Stands, message_value, method_named, struct_of}
use Rattle.wire_model.specs.Message.{Head, IsHead, ids_read, is_plain, message, written_request}
use Rattle.wire_model.specs.Tight.{MAX_PAYLOAD_BYTES}
use Rattle.wire_model.specs.Trees.{Tree, view}
use Rattle.wire_model.specs.declared.target.Expected.{Expected}
use Rattle.wire_model.specs.declared.target.Target.{Target}
use Rattle.wire_encoder.specs.FirstFailed.{MAX_HANDLES, Met}
use Rattle.wire_encoder.specs.Prepared.{HasTarget, IsPrepared, flags_for, method_of, parameters_of, payload_for, sealed_head, verdict}
use Rattle.wire_encoder.specs.declared.prepared.Prepared.{Prepared}
use Rattle.wire_encoder.specs.declared.sealing.Head as code

-- what a message for a target is expected to be
abbrev pub expected_for : Target → Expected
expected_for target = record { interface = target.interface; side = target.side }

-- what a message with this head says of a value for a target; the request id is 0 where the message neither wants a response nor is one
abbrev pub said_of : Target → Head → Tree → Message
said_of target head tree = record {
  method = target.method;
  request = written_request (is_plain head.flags) head.request;
  moment = head.moment;
  value = tree;
}

-- bytes that `check` lets through as a message for a target, with so many handles and with the head's ids; of the struct that it finds them to
-- have `decode` makes this value
pub record IsReadAs (schema : Schema) (target : Target) (handles : ℕ) (head : Head) (tree : Tree) (bytes : List ℕ) : Type 0 where
  pub number : ℕ
  pub parameters : parameters_of schema target ≡ Some number
  pub stands : Stands schema (expected_for target) bytes handles
  pub ids : ids_read bytes ≡ head.ids
  pub found : option_and_then (struct_of target.side) (method_named schema (expected_for target) bytes) ≡ Some number
  pub says : message_value schema bytes number ≡ said_of target head tree

-- a head that a header has room for, with the method and the flags of a target, and an id for each endpoint that was met
pub record IsHeadFor (schema : Schema) (target : Target) (met : Met) (head : Head) : Type 0 where
  pub room : IsHead head
  pub name : head.name ≡ target.method
  pub flags : head.flags ≡ flags_for (method_of schema target) target
  pub ids : length head.ids ≡ length met.endpoints

-- a value that passes all checks for a target that the schema has, in few bytes, is read as itself behind such a head, with the handles that were met
abbrev pub PassedIsRead : Type 0
PassedIsRead =
    (schema : Schema) (target : Target) (tree : Tree) (met : Met) (head : Head) → HasTarget schema target → verdict schema target tree ≡ Ok met
    → length (payload_for schema target tree) ≤ MAX_PAYLOAD_BYTES → IsHeadFor schema target met head
    → IsReadAs schema target met.handles head tree (message head (payload_for schema target tree))

-- such a value has at most 64 handles and 64 endpoints
abbrev pub FewAreMet : Type 0
FewAreMet =
    (schema : Schema) (target : Target) (tree : Tree) (met : Met) → HasTarget schema target → verdict schema target tree ≡ Ok met
    → length (payload_for schema target tree) ≤ MAX_PAYLOAD_BYTES → (met.handles ≤ MAX_HANDLES) × (length met.endpoints ≤ MAX_HANDLES)

-- a value that was prepared for a target that the schema has is read as itself where it is sealed, with the handles that were prepared
abbrev pub SealedIsRead : Type 0
SealedIsRead =
    (schema : Schema) (prepared : Prepared) (head : code.Head) → HasTarget schema prepared.target → IsPrepared schema prepared
    → IsHead (sealed_head prepared head) → length head.ids.now ≡ length prepared.endpoints.items
    → IsReadAs schema prepared.target prepared.handles (sealed_head prepared head) (view prepared.value)
    (message (sealed_head prepared head) prepared.payload.items)
