-- What a take got is due: its event is the newest that was seen.
use Rattle.std.proofs.Common.{◌≡◌, ℕ, Bool, true, List, [], ◌∷◌, ◌++◌, refl, sym, ap, ◌∙◌, subst}
use Rattle.mj_base.specs.declared.ids.EndId.{EndId}
use Rattle.mj_base.specs.declared.ids.SeqId.{SeqId}
use Rattle.mj_schema.specs.declared.schema.Schema.{Schema}
use Rattle.bind_model.specs.Plain.{asked_of, told_of}
use Rattle.bind_model.specs.Replies.{is_response}
use Rattle.bind_model.specs.Seen.{Saw}
use Rattle.bind_model.specs.declared.asked.Asked.{Asked}
use Rattle.bind_model.specs.declared.asked.Asked.TheVariants.{Take}
use Rattle.bind_model.specs.declared.commands.Command.{Command}
use Rattle.bind_model.specs.declared.commands.Received.{Received}
use Rattle.bind_model.specs.declared.commands.Reply.{Reply}
use Rattle.bind_model.specs.declared.commands.Reply.TheVariants.{Got}
use Rattle.bind_model.specs.declared.event.Event.{Event}
use Rattle.bind_model.specs.declared.told.Told.{Told}
use Rattle.remote_receiver.specs.Due.{IsDue, IsNewest}

-- these events, and one of a sequence more
abbrev and_then : SeqId → Asked → List Event → Told → List Event
and_then me asked before told = before ++ record { seq = me; asked = asked; told = told } ∷ []

-- a command that was done is the newest event
pub newest_seen : (schema : Schema) (seqs : ℕ) (alone : Bool) (me mine : SeqId) (old new : List Event) (command : Command) (reply : Reply)
    → mine ≡ me → Saw schema seqs alone me old new command reply → IsNewest mine new (asked_of command) (told_of reply)
newest_seen schema seqs alone me mine old new command reply same saw =
    subst (λ (s : SeqId). IsNewest s new (asked_of command) (told_of reply)) (sym same)
    (record { before = saw.before; newest = saw.event ∙ ap (and_then me (asked_of command) saw.before) (sym saw.told) })

-- a response that the newest event got is due
pub due_got : (me : SeqId) (seen : List Event) (end : EndId) (received : Received) → IsNewest me seen (Take end) (told_of (Got received))
    → is_response received.target.side ≡ true
    → IsDue me seen
    (record { end = end; id = received.id; request = received.request; method = received.target.method; value = received.parameters })
due_got me seen end received newest response = record { message = _; newest = newest; response = response; same = refl }
