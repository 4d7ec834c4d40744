-- A small wire, over which histories are worked by hand and played.
use Rattle.std.proofs.Common.{ℕ, zero, suc, List, [], ◌∷◌}
use Rattle.std.specs.Prelude.{◌+◌, None, Result, Ok, Err, if◌then◌else◌, ◌==◌}
use Rattle.mj_base.specs.declared.ids.EndId.{EndId}
use Rattle.handle_table.specs.declared.thing.Thing.{Thing}
use Rattle.wire_encoder.specs.declared.endpoint.EndpointSide.TheVariants.{Receiver}
use Rattle.wire_model.specs.declared.target.MessageSide.{MessageSide}
use Rattle.wire_model.specs.declared.target.MessageSide.TheVariants.{Request, Response}
use Rattle.mj_base.specs.declared.fault.Fault.{Fault}
use Rattle.bind_model.specs.declared.asked.Outgoing.{Outgoing}
use Rattle.bind_model.specs.declared.endpoint.PendingId.{PendingId}
use Rattle.bind_model.specs.declared.asked.Asked.{Asked}
use Rattle.control_bytes.specs.declared.control.Control.{Control as ControlType}
use Rattle.control_bytes.specs.declared.control.Control.TheVariants as says
use Rattle.bind_model.specs.declared.told.Got.{Got}
use Rattle.bind_model.specs.declared.told.Told.{Told}
use Rattle.bind_model.specs.declared.told.Told.TheVariants.{Skipped}
use Rattle.bind_model.specs.declared.event.Event.{Event}
use Rattle.mj_base.specs.declared.fault.FaultKind.TheVariants.{IllegalMemoryRange}
use Rattle.wire_model.specs.Trees.{Null}
use Rattle.bind_model.specs.Wire.{Wire, Header, Named, Content}
use Rattle.bind_model.specs.Replies.{answer}

-- a side as a number, and back
abbrev pub side_number : MessageSide → ℕ
side_number Request = 0
side_number Response = 1

-- the side of a number
abbrev pub side_of : ℕ → MessageSide
side_of zero = Request
side_of (suc n) = Response

-- the numbers of the head, the side, the method, and the ids
abbrev pub small_header : List ℕ → Result Header Fault
small_header (id ∷ request ∷ side ∷ method ∷ ids) = Ok (record { id = id; ids = ids })
small_header bytes = Err (record { kind = IllegalMemoryRange; at = 0 })

-- a control has its kind and two numbers
abbrev pub small_control : ControlType → List ℕ
small_control (says.Closed id) = 4294967295 ∷ 1 ∷ id ∷ 0 ∷ []
small_control (says.Query id) = 4294967295 ∷ 2 ∷ id ∷ 0 ∷ []
small_control (says.Version id v) = 4294967295 ∷ 3 ∷ id ∷ v ∷ []
small_control (says.Require id v) = 4294967295 ∷ 4 ∷ id ∷ v ∷ []
small_control (says.Flush k) = 4294967295 ∷ 5 ∷ k ∷ 0 ∷ []

-- what a control says, by its kind
abbrev pub small_says : List ℕ → Result ControlType Fault
small_says (id ∷ kind ∷ n ∷ v ∷ []) =
    if kind == 1 then Ok (says.Closed n) else (if kind == 2 then Ok (says.Query n) else (if kind == 3 then Ok (says.Version n v) else
    (if kind == 4 then Ok (says.Require n v) else Ok (says.Flush n))))
small_says bytes = Err (record { kind = IllegalMemoryRange; at = 0 })

-- a value names the ids of all places from k on
abbrev pub all_named : ℕ → List ℕ → List Named
all_named k [] = []
all_named k (id ∷ ids) = record { index = k; endpoint = record { side = Receiver; interface = 1 } } ∷ all_named (suc k) ids

-- so many numbers, from this one on
abbrev pub counted : ℕ → ℕ → List ℕ
counted k zero = []
counted k (suc n) = k ∷ counted (suc k) n

-- method 6 names the first and the third handle alone
abbrev pub named_places : ℕ → ℕ → List ℕ
named_places method n = if method == 6 then 0 ∷ 2 ∷ [] else counted 0 n

-- what a message stands for: its value names every id, and the handles of some places
abbrev pub small_stands : ℕ → List ℕ → ℕ → Result Content Fault
small_stands interface (id ∷ request ∷ side ∷ method ∷ ids) n = Ok
    (record {
      target = record { interface = interface; method = method; side = side_of side };
      request = request;
      parameters = Null;
      handles = named_places method n;
      ids = all_named 0 ids;
      moment = None;
    })
small_stands interface bytes n = Err (record { kind = IllegalMemoryRange; at = 0 })

-- method 5 wants an endpoint, method 7 a handle, and method 9 has a response
abbrev pub small : Wire
small = record {
  interfaces = 2;
  version = λ interface. interface + 1;
  responds = λ interface method. method == 9;
  handles = λ target parameters. if target.method == 7 then 1 else 0;
  wants = λ target parameters. if target.method == 5 then record { side = Receiver; interface = 1 } ∷ [] else [];
  sealed = λ target parameters head. head.id ∷ head.request ∷ side_number target.side ∷ target.method ∷ head.ids;
  control = small_control;
  header = small_header;
  says = small_says;
  stands = λ side interface bytes n. small_stands interface bytes n;
}

-- a command, and the sequence that asks it
pub record Step : Type 0 where
  pub by : ℕ
  pub asked : Asked

-- the event of a command, with the reply that the events before it give
abbrev pub step : List Event → Step → Event
step past s = record { seq = record { 0 = s.by }; asked = s.asked; told = answer small 3 past (record { 0 = s.by }) s.asked }

-- the events of commands, in turn, behind those that stand
abbrev pub play : List Event → List Step → List Event
play past [] = past
play past (s ∷ steps) = play (step past s ∷ past) steps

-- what was told last
abbrev pub newest : List Event → Told
newest [] = Skipped
newest (event ∷ past) = event.told

-- an end by its numbers
abbrev pub e : ℕ → ℕ → EndId
e seq serial = record { seq = seq; serial = serial }

-- what a call sends: no parameters, and these handles and pendings
abbrev pub out_of : ℕ → ℕ → MessageSide → List Thing → List PendingId → Outgoing
out_of interface method side handles pendings = record {
  target = record { interface = interface; method = method; side = side };
  parameters = Null;
  handles = handles;
  pendings = pendings;
  moment = None;
}

-- what a take of a request got, with these handles
abbrev pub got : ℕ → ℕ → ℕ → ℕ → List Thing → Got
got id interface method request handles = record {
  id = id;
  target = record { interface = interface; method = method; side = Request };
  parameters = Null;
  request = request;
  handles = handles;
  pendings = [];
  gone = [];
  moment = None;
}
