-- When two scripts are the same: but for where their values lie in memory.
use Rattle.std.specs.Prelude.{◌≡◌, List, [], ◌∷◌}
use Rattle.wire_model.specs.Trees.{view}
use Rattle.wire_encoder.specs.declared.prepared.Prepared.{Prepared}
use Rattle.call_script.specs.declared.script.AutoReply.{AutoReply}
use Rattle.call_script.specs.declared.script.Command.{Command}
use Rattle.call_script.specs.declared.script.Command.TheVariants.{Call, Answer}
use Rattle.call_script.specs.declared.script.Line.{Line}
use Rattle.call_script.specs.declared.script.Script.{Script}

-- the same value, prepared for the same method
pub record SamePrepared (one other : Prepared) : Type 0 where
  pub target : one.target ≡ other.target
  pub value : view one.value ≡ view other.value
  pub payload : one.payload.items ≡ other.payload.items
  pub flags : one.flags ≡ other.flags
  pub handles : one.handles ≡ other.handles
  pub endpoints : one.endpoints.items ≡ other.endpoints.items

-- the same is asked
abbrev pub SameCommand : Command → Command → Type 0
SameCommand (Call end id prepared tokens moment) (Call end' id' prepared' tokens' moment') =
    (end ≡ end') × (id ≡ id') × SamePrepared prepared prepared' × (tokens ≡ tokens') × (moment ≡ moment')
SameCommand (Answer responder prepared tokens moment) (Answer responder' prepared' tokens' moment') =
    (responder ≡ responder') × SamePrepared prepared prepared' × (tokens ≡ tokens') × (moment ≡ moment')
SameCommand one other = one ≡ other

-- the same sequence answers with the same
pub record SameReply (one other : AutoReply) : Type 0 where
  pub seq : one.seq ≡ other.seq
  pub prepared : SamePrepared one.prepared other.prepared

-- one by one
abbrev pub SameReplies : List AutoReply → List AutoReply → Type 0
SameReplies [] [] = Unit {0}
SameReplies (reply ∷ replies) (reply' ∷ replies') = SameReply reply reply' × SameReplies replies replies'
SameReplies _ _ = ⊥

-- the same sequence asks the same in the line of one number
pub record SameLine (one other : Line) : Type 0 where
  pub number : one.number ≡ other.number
  pub seq : one.seq ≡ other.seq
  pub command : SameCommand one.command other.command

-- line by line
abbrev pub SameLines : List Line → List Line → Type 0
SameLines [] [] = Unit {0}
SameLines (line ∷ lines) (line' ∷ lines') = SameLine line line' × SameLines lines lines'
SameLines _ _ = ⊥

-- as many sequences and names, the same automatic replies, and the same lines
pub record SameScript (one other : Script) : Type 0 where
  pub seqs : one.seqs ≡ other.seqs
  pub names : one.names ≡ other.names
  pub autos : SameReplies one.autos other.autos
  pub lines : SameLines one.lines other.lines
