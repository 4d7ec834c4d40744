-- What the machine asks of the wire: what bytes stand for, and the bytes of what is sent. The machine is the same over every wire.
use Rattle.std.specs.Prelude.{ℕ, ℤ, Bool, List, Option, Result}
use Rattle.mj_base.specs.declared.fault.Fault.{Fault}
use Rattle.wire_encoder.specs.declared.endpoint.EndpointSide.{EndpointSide}
use Rattle.wire_encoder.specs.declared.endpoint.WantedEndpoint.{WantedEndpoint}
use Rattle.wire_model.specs.declared.target.Target.{Target}
use Rattle.wire_model.specs.Trees.{Tree}
use Rattle.control_bytes.specs.declared.control.Control.{Control}

-- the id of the endpoint that a message is for, and the ids that it carries
pub record Header : Type 0 where
  pub id : ℕ
  pub ids : List ℕ

-- a carried id that a value names: its place among the ids, and the endpoint by its kind
pub record Named : Type 0 where
  pub index : ℕ
  pub endpoint : WantedEndpoint

-- what a message stands for: its parameters, and the places of the handles and ids that these name
pub record Content : Type 0 where
  pub target : Target
  pub request : ℕ
  pub parameters : Tree
  pub handles : List ℕ
  pub ids : List Named
  pub moment : Option ℤ

-- the numbers of a message's head
pub record Head : Type 0 where
  pub id : ℕ
  pub request : ℕ
  pub ids : List ℕ
  pub moment : Option ℤ

-- a wire: what the machine asks of it
pub record Wire : Type 0 where
  -- how many interfaces there are
  pub interfaces : ℕ
  -- the version of an interface
  pub version : ℕ → ℕ
  -- whether the method of an interface has a response
  pub responds : ℕ → ℕ → Bool
  -- how many handles parameters name, and which endpoints
  pub handles : Target → Tree → ℕ
  pub wants : Target → Tree → List WantedEndpoint
  -- the bytes of a message
  pub sealed : Target → Tree → Head → List ℕ
  -- the bytes of a control
  pub control : Control → List ℕ
  -- a message's header, or its first fault
  pub header : List ℕ → Result Header Fault
  -- what a control says, or its first fault
  pub says : List ℕ → Result Control Fault
  -- what a message with so many handles stands for at an endpoint of this side and interface, or its first fault
  pub stands : EndpointSide → ℕ → List ℕ → ℕ → Result Content Fault
