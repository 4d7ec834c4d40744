-- What the names of a sequence stand for, and what is held under them, by the joins and by the events of the sequence itself.
use Rattle.std.specs.Prelude.{Bool, true, false, ◌+◌, ◌==◌, List, [], ◌∷◌, filter}
use Rattle.std.specs.Prelude.{is_some, not, take, drop, length, Option, Some, None, slice_get, if◌then◌else◌}
use Rattle.std.specs.List.{list_any}
use Rattle.mj_base.specs.declared.ids.SeqId.{SeqId}
use Rattle.handle_table.specs.declared.thing.Thing.{Thing}
use Rattle.bind_model.specs.declared.asked.Asked.{Asked}
use Rattle.bind_model.specs.declared.asked.Asked.TheVariants as asks
use Rattle.bind_model.specs.declared.asked.Closing.TheVariants as closings
use Rattle.bind_model.specs.declared.endpoint.PendingId.{PendingId}
use Rattle.bind_model.specs.declared.endpoint.ResponderId.{ResponderId}
use Rattle.bind_model.specs.declared.event.Event.{Event}
use Rattle.bind_model.specs.declared.told.Told.{Told}
use Rattle.bind_model.specs.declared.told.Told.TheVariants.{Associated, Taken, No}
use Rattle.bind_model.specs.Machine.{handed}
use Rattle.bind_model.specs.Replies.{responders_handed}
use Rattle.bind_model.specs.Wire.{Wire}
use Rattle.call_script.specs.declared.script.AutoReply.{AutoReply}
use Rattle.call_script.specs.declared.script.Command.{Command}
use Rattle.call_script.specs.declared.script.Command.TheVariants.{Join, Bind, Attach, Call, Answer, Raw, CloseToken}
use Rattle.call_script.specs.declared.script.NameId.{NameId}
use Rattle.call_script.specs.declared.script.Line.{Line}
use Rattle.call_script.specs.Sound.{sets}
use Rattle.script_names.specs.Autos.{Due, due, line_at}

-- what each name stands for, an end or a token, and the handle, the pending or the responder that is held under it
pub record Named : Type 0 where
  pub stands : NameId → Option Thing
  pub handle : NameId → Option Thing
  pub pending : NameId → Option PendingId
  pub responder : NameId → Option ResponderId

-- no name stands for anything
abbrev pub unnamed : Named
unnamed = record { stands = λ n. None; handle = λ n. None; pending = λ n. None; responder = λ n. None }

-- whether a name stands in a list
abbrev pub has_name : List NameId → NameId → Bool
has_name names n = list_any (λ (m : NameId). m.0 == n.0) names

-- ## What comes under names, and what is spent

-- what comes under a name, where names go to things in order: things left over have no name, and names left over stand for nothing
abbrev pub came : {X : Type 0} → List NameId → List X → NameId → Option X
came [] things n = None
came (m ∷ names) [] n = None
came (m ∷ names) (x ∷ things) n = if m.0 == n.0 then Some x else came names things n

-- what stands under a name then, where it was this
abbrev pub or_before : {X : Type 0} → Option X → Option X → Option X
or_before (Some x) before = Some x
or_before None before = before

-- what is held under a name once things came under names and what was held under others was spent
abbrev pub then_held : {X : Type 0} → List NameId → List X → List NameId → (NameId → Option X) → NameId → Option X
then_held names things spent before n = or_before (came names things n) (if has_name spent n then None else before n)

-- ## One line

-- the names that a line sets, where there is one
abbrev pub set_by : Option Line → List NameId
set_by None = []
set_by (Some line) = sets line.command

-- of the names in a list those that stand for ends and tokens, whose handles go with a message
abbrev pub things_named : (NameId → Option Thing) → List NameId → List NameId
things_named stands list = filter (λ (n : NameId). is_some (stands n)) list

-- of the names in a list the others, whose pendings go with a message
abbrev pub pendings_named : (NameId → Option Thing) → List NameId → List NameId
pendings_named stands list = filter (λ (n : NameId). not (is_some (stands n))) list

-- the names whose handles a command spends, where it asked this; an end that bytes are written from and a token that they are moved at come back
abbrev pub handles_spent : (NameId → Option Thing) → Command → Asked → List NameId
handles_spent stands command (asks.Skip number) = []
handles_spent stands (Bind n side interface) asked = n ∷ []
handles_spent stands (Call n id prepared list moment) asked = things_named stands list
handles_spent stands (Answer n prepared list moment) asked = things_named stands list
handles_spent stands (Raw n bytes list) asked = list
handles_spent stands (CloseToken n) (asks.Close (closings.Handle x)) = n ∷ []
handles_spent stands command asked = []

-- those whose pendings it spends
abbrev pub pendings_spent : (NameId → Option Thing) → Command → Asked → List NameId
pendings_spent stands command (asks.Skip number) = []
pendings_spent stands (Attach n seq) asked = n ∷ []
pendings_spent stands (Call n id prepared list moment) asked = pendings_named stands list
pendings_spent stands (Answer n prepared list moment) asked = pendings_named stands list
pendings_spent stands (CloseToken n) (asks.Close (closings.Pending p)) = n ∷ []
pendings_spent stands command asked = []

-- that whose responder it spends
abbrev pub responders_spent : (NameId → Option Thing) → Command → Asked → List NameId
responders_spent stands command (asks.Skip number) = []
responders_spent stands (Answer n prepared list moment) asked = n ∷ []
responders_spent stands (CloseToken n) (asks.Close (closings.Responder r)) = n ∷ []
responders_spent stands command asked = []

-- whether what was asked was done: what a refused command takes comes back
abbrev pub is_done : Told → Bool
is_done (No why) = false
is_done told = true

-- the names of what a line spent
abbrev pub spent_by : (Command → Asked → List NameId) → Option Line → Event → List NameId
spent_by spent None event = []
spent_by spent (Some line) event = if is_done event.told then spent line.command event.asked else []

-- the pendings that are handed out
abbrev pub pendings_handed : Told → List PendingId
pendings_handed (Associated p) = p ∷ []
pendings_handed (Taken g) = g.pendings
pendings_handed told = []

-- the responders that come under names: one that is answered by itself has none
abbrev pub responders_named : Option Due → List ResponderId → List ResponderId
responders_named None rs = rs
responders_named (Some d) rs = []

-- the names after an event: those that its line sets go to the handles, the pendings and the responder that came, in this order
abbrev pub named_after : Wire → Option Line → Option Due → Event → Named → Named
named_after wire line found event before = record {
  stands = then_held (set_by line) (handed event.told) [] before.stands;
  handle = then_held (set_by line) (handed event.told) (spent_by (handles_spent before.stands) line event) before.handle;
  pending = then_held
      (drop (length (handed event.told)) (set_by line))
      (pendings_handed event.told)
      (spent_by (pendings_spent before.stands) line event)
      before.pending;
  responder = then_held
      (drop (length (handed event.told) + length (pendings_handed event.told)) (set_by line))
      (responders_named found (responders_handed wire event.told event.asked))
      (spent_by (responders_spent before.stands) line event)
      before.responder;
}

-- the names after a sequence's own events, the newest first, where each of them but the automatic replies is that of its line
abbrev pub named : Wire → List AutoReply → List Line → Named → List Event → Named
named wire autos lines first [] = first
named wire autos lines first (event ∷ past) =
    named_after wire (line_at wire autos lines past) (due wire autos (event ∷ past)) event (named wire autos lines first past)

-- ## The joins

-- whether this is the sequence
abbrev pub is_seq : SeqId → SeqId → Bool
is_seq s t = s.0 == t.0

-- whether a line that joins gives its second end to this sequence
abbrev pub joins_to : SeqId → Command → Bool
joins_to s (Join other first second) = is_seq s other
joins_to s command = false

-- what comes under a name where it is for one's own sequence
abbrev pub came_to : {X : Type 0} → Bool → List NameId → List X → NameId → Option X
came_to true names things n = came names things n
came_to false names things n = None

-- what a join gives a sequence to hold under a name: its first end to the one that asks, its second to the other
abbrev pub joint_end : SeqId → Line → List Thing → NameId → Option Thing
joint_end s line ends n = or_before
    (came_to (is_seq s line.seq) (take 1 (sets line.command)) (take 1 ends) n)
    (came_to (joins_to s line.command) (drop 1 (sets line.command)) (drop 1 ends) n)

-- the names of a sequence after a join: both names stand for their ends, for all sequences
abbrev pub joined_after : SeqId → Option Line → Event → Named → Named
joined_after s None event before = before
joined_after s (Some line) event before = record {
  stands = then_held (sets line.command) (handed event.told) [] before.stands;
  handle = λ n. or_before (joint_end s line (handed event.told) n) (before.handle n);
  pending = before.pending;
  responder = before.responder;
}

-- the names of a sequence after the joins, whose events are these, the newest first
abbrev pub joined : SeqId → List Line → List Event → Named
joined s joins [] = unnamed
joined s joins (event ∷ past) = joined_after s (slice_get joins (length past)) event (joined s joins past)
