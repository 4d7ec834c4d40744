-- The messages of a load: what is drawn for each, what it says, and whether its schema has a place for that.
use Rattle.std.specs.Prelude.{ℕ, pos, ◌≡◌, ◌≤◌, ◌/◌, ◌%◌, ◌^◌, ◌==◌, List, [], ◌∷◌, codes, length, replicate, Option, Some, None}
use Rattle.std.specs.Prelude.{Ok, unwrap_or, if◌then◌else◌}
use Rattle.mj_schema.specs.Lookups.{interface_named}
use Rattle.mj_schema.specs.declared.schema.Schema.{Schema}
use Rattle.wire_model.specs.Tight.{MAX_PAYLOAD_BYTES}
use Rattle.wire_model.specs.Trees.{Tree, Fields, Items, Text, Whole, trees}
use Rattle.wire_model.specs.declared.target.MessageSide.TheVariants.{Request, Response}
use Rattle.wire_model.specs.declared.target.Target.{Target}
use Rattle.wire_encoder.specs.FirstFailed.{Met}
use Rattle.wire_encoder.specs.Prepared.{IsPrepareRefusal, payload_for, verdict}
use Rattle.wire_encoder.specs.Targets.{target_named}
use Rattle.wire_encoder.specs.declared.refusal.PrepareError.{PrepareError}
use Rattle.wire_encoder.specs.declared.refusal.PrepareError.TheVariants.{Memory}
use Rattle.load_run.specs.declared.messages.Message.{Message}
use Rattle.load_run.specs.declared.targets.Targets.{Targets}

-- ## What is drawn

-- the message of this number, where this number is drawn for it: the lowest bit of the upper half says which pair it goes over, the next one
-- whether it is a `Say`, and the others how long it is
abbrev pub message_of : ℕ → ℕ → Message
message_of number draw = let upper = draw / (2 ^ 32) in record {
  number = number;
  is_second = upper % 2 == 1;
  is_say = upper / 2 % 2 == 0;
  size = if upper / 2 % 2 == 0 then upper / 4 % 32 else upper / 4 % 64;
}

-- ## What they say

-- the parameters of a `Say`: the message's number, and so many letters `x`
abbrev pub say_tree : ℕ → ℕ → Tree
say_tree number letters = Fields (trees (Whole (pos number) ∷ Text (replicate letters 120) ∷ []))

-- those of the answer to it
abbrev pub answer_tree : ℕ → Tree
answer_tree number = Fields (trees (Whole (pos number) ∷ []))

-- those of a `Note`: so many bytes, each the lowest of the message's number
abbrev pub note_tree : ℕ → ℕ → Tree
note_tree number bytes = Fields (trees (Items (trees (replicate bytes (Whole (pos (number % 256))))) ∷ []))

-- the parameters of a request
abbrev pub request_tree : Message → Tree
request_tree m = if m.is_say then say_tree m.number m.size else note_tree m.number m.size

-- ## Whom they are for

-- the full name of the interface
abbrev pub echo : List ℕ
echo = codes "load.Echo"

-- its number in a schema, and its messages there
abbrev pub targets_in : Schema → Targets
targets_in schema = record {
  interface = unwrap_or (interface_named schema.interfaces echo) 0;
  say = target_named schema echo (codes "Say") Request;
  answer = target_named schema echo (codes "Say") Response;
  note = target_named schema echo (codes "Note") Request;
}

-- what a request is for
abbrev pub request_target : Targets → Message → Option Target
request_target targets m = if m.is_say then targets.say else targets.note

-- ## What goes out

-- a value goes out as a message of a target: the target is there, and the value passes all checks and isn't too long
pub record Goes (schema : Schema) (found : Option Target) (value : Tree) (target : Target) : Type 0 where
  pub there : found ≡ Some target
  pub met : Met
  pub passes : verdict schema target value ≡ Ok met
  pub short : length (payload_for schema target value) ≤ MAX_PAYLOAD_BYTES

-- a refusal is no want of memory
abbrev pub IsRefusal : PrepareError → Type 0
IsRefusal Memory = ⊥
IsRefusal _ = Unit {0}

-- a value doesn't go out: no target is there, or the value is refused for it. The schema of a load is such that each does
abbrev pub Stays : Schema → Option Target → Tree → Type 0
Stays schema None value = Unit {0}
Stays schema (Some target) value = (why : PrepareError) × IsRefusal why × IsPrepareRefusal schema target value why
