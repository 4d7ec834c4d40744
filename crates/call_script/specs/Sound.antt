-- What holds of every script of a schema.
use Rattle.std.specs.Prelude.{ℕ, ◌+◌, ◌≡◌, ◌<◌, ◌≤◌, List, [], ◌∷◌, length}
use Rattle.mj_base.specs.declared.ids.SeqId.{SeqId}
use Rattle.std.specs.List.{AllByRecursion}
use Rattle.mj_base.specs.declared.limits.TheConstants.{MAX_SCRIPT_LINES}
use Rattle.hex.specs.Hex.{IsBytes}
use Rattle.mj_schema.specs.declared.schema.Schema.{Schema}
use Rattle.wire_encoder.specs.Prepared.{IsPrepared}
use Rattle.wire_model.specs.declared.target.MessageSide.TheVariants.{Response}
use Rattle.call_script.specs.declared.script.AutoReply.{AutoReply}
use Rattle.call_script.specs.declared.script.NameId.{NameId}
use Rattle.call_script.specs.declared.script.Command.{Command}
use Rattle.call_script.specs.declared.script.Command.TheVariants.{Join, Pipe, Mint, Bind, Associate, Attach, Call, Take, Answer, Raw, CloseToken, CloseEndpoint}
use Rattle.call_script.specs.declared.script.Command.TheVariants.{Notify, Pause, Data, Flow}
use Rattle.bind_model.specs.declared.flow.Flow.{Flow as FlowType}
use Rattle.bind_model.specs.declared.flow.Flow.TheVariants as flows
use Rattle.call_script.specs.declared.script.Line.{Line}
use Rattle.call_script.specs.declared.script.Script.{Script}
use Rattle.script_forms.specs.Forms.{AreSequences}

-- the names that a command sets
abbrev pub sets : Command → List NameId
sets (Join other first second) = first ∷ second ∷ []
sets (Pipe first second) = first ∷ second ∷ []
sets (Mint sort name) = name ∷ []
sets (Associate end side interface pending) = pending ∷ []
sets (Take end names) = names
sets (Data size producer consumer) = producer ∷ consumer ∷ []
sets command = []

-- the names that a command needs
abbrev pub needs : Command → List NameId
needs (Bind end side interface) = end ∷ []
needs (Associate end side interface pending) = end ∷ []
needs (Attach pending seq) = pending ∷ []
needs (Call end id prepared tokens moment) = end ∷ tokens
needs (Take end names) = end ∷ []
needs (Answer responder prepared tokens moment) = responder ∷ tokens
needs (Raw end bytes tokens) = end ∷ tokens
needs (CloseToken token) = token ∷ []
needs (CloseEndpoint end id) = end ∷ []
needs (Notify end notice) = end ∷ []
needs (Pause end other flush) = end ∷ other ∷ []
needs (Flow token flow) = token ∷ []
needs command = []

-- the sequences that a command names besides the one that asks
abbrev pub others : Command → List SeqId
others (Join other first second) = other ∷ []
others (Attach pending other) = other ∷ []
others command = []

-- what is put into a data pipe is bytes
abbrev pub PutsBytes : FlowType → Type 0
PutsBytes (flows.Put bytes all) = IsBytes bytes
PutsBytes (flows.EndPut bytes) = IsBytes bytes
PutsBytes flow = Unit {0}

-- what a call or an answer sends was prepared with the schema, and what is sent raw or put into a data pipe is bytes
abbrev pub IsReadWith : Schema → Command → Type 0
IsReadWith schema (Call end id prepared tokens moment) = IsPrepared schema prepared
IsReadWith schema (Answer responder prepared tokens moment) = IsPrepared schema prepared
IsReadWith schema (Raw end bytes tokens) = IsBytes bytes
IsReadWith schema (Flow token flow) = PutsBytes flow
IsReadWith schema command = Unit {0}

-- how many endpoint ids the message of a command can carry: one for each of its names, or for each of its bytes
abbrev pub most_ids : Command → ℕ
most_ids (Call end id prepared tokens moment) = length tokens
most_ids (Answer responder prepared tokens moment) = length tokens
most_ids (Raw end bytes tokens) = length bytes
most_ids command = 0

-- and those of lines
abbrev pub most_ids_of : List Line → ℕ
most_ids_of [] = 0
most_ids_of (line ∷ lines) = most_ids line.command + most_ids_of lines

-- the names are among the first so many
abbrev pub AreWithin : ℕ → List NameId → Type 0
AreWithin names ids = AllByRecursion (λ (id : NameId). id.0 < names) ids

-- a line of sequences that are there, with these names alone
pub record IsLine (schema : Schema) (seqs names : ℕ) (line : Line) : Type 0 where
  pub seq : line.seq.0 < seqs
  pub others : AllByRecursion (λ (seq : SeqId). seq.0 < seqs) (others line.command)
  pub sets : AreWithin names (sets line.command)
  pub needs : AreWithin names (needs line.command)
  pub read : IsReadWith schema line.command

-- an automatic reply of a sequence that is there: a response that was prepared with the schema and carries nothing
pub record IsReply (schema : Schema) (seqs : ℕ) (reply : AutoReply) : Type 0 where
  pub seq : reply.seq.0 < seqs
  pub side : reply.prepared.target.side ≡ Response
  pub read : IsPrepared schema reply.prepared
  pub handles : reply.prepared.handles ≡ 0
  pub endpoints : reply.prepared.endpoints.items ≡ []

-- a script of the schema, of fewer than 65,536 lines behind the first, which send no more ids than the text has bytes
pub record IsScript (schema : Schema) (script : Script) : Type 0 where
  pub seqs : AreSequences script.seqs
  pub autos : AllByRecursion (IsReply schema script.seqs) script.autos
  pub lines : AllByRecursion (IsLine schema script.seqs script.names) script.lines
  pub few : length script.lines < MAX_SCRIPT_LINES
  pub sent : most_ids_of script.lines ≤ script.bytes
