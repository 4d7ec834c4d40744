-- What a desk is asked, and how a call comes back.
use Rattle.std.specs.Prelude.{ℕ, Bool, ◌≡◌, ◌≤◌, List, length, Option}
use Rattle.mj_base.specs.declared.ids.SeqId.{SeqId}
use Rattle.mj_base.specs.declared.limits.TheConstants.{MAX_EVENTS}
use Rattle.mj_schema.specs.declared.schema.Schema.{Schema}
use Rattle.bind_model.specs.declared.event.Event.{Event}
use Rattle.bind_model.specs.Seen.{Continues, KeepsLegal, Saw}
use Rattle.bind_model.specs.declared.commands.Command.{Command}
use Rattle.bind_model.specs.declared.commands.Command.TheVariants.{Call, Take}
use Rattle.bind_model.specs.declared.commands.Reply.TheVariants as replies
use Rattle.remote_receiver.specs.declared.call.CallRefused.{CallRefused}
use Rattle.remote_receiver.specs.declared.call.CallRefused.TheVariants.{No, Memory, Spent}

-- neither a call nor a take
abbrev pub IsOther : Command → Type 0
IsOther (Call end id prepared handles pendings moment) = ⊥
IsOther (Take end) = ⊥
IsOther command = Unit {0}

-- there is no event of one's own
abbrev pub Stays : Schema → ℕ → Bool → SeqId → List Event → List Event → Type 0
Stays schema seqs alone me old new = Continues alone me old new × KeepsLegal schema seqs old new

-- a call that wasn't sent: the command comes back with its job, and there was an event exactly where it is refused
abbrev pub NotSent : {C : Type 0} → Schema → ℕ → Bool → SeqId → List Event → List Event → Command → Option C → CallRefused C → Type 0
NotSent schema seqs alone me old new command job (No why back same) = Saw schema seqs alone me old new command (replies.No why back) × (same ≡ job)
NotSent schema seqs alone me old new command job (Memory back same) = Stays schema seqs alone me old new × (back ≡ command) × (same ≡ job)
NotSent schema seqs alone me old new command job (Spent back same) =
    Stays schema seqs alone me old new × (back ≡ command) × (same ≡ job) × (MAX_EVENTS ≤ length new)
