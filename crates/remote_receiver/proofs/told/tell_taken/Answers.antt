use Rattle.std.proofs.Common.{◌≡◌, ℕ, refl}
use Rattle.mj_base.specs.declared.ids.EndId.{EndId}
use Rattle.bind_model.specs.Plain.{told_of}
use Rattle.bind_model.specs.declared.commands.Received.{Received}
use Rattle.bind_model.specs.declared.commands.Reply.{Reply}
use Rattle.bind_model.specs.declared.commands.Reply.TheVariants.{Got}
use Rattle.remote_receiver.specs.declared.job.Answered.{Answered}
use Rattle.remote_receiver.specs.Held.{kept_of}
use Rattle.remote_receiver.specs.Notes.{Kept}
use Rattle.remote_receiver.specs.steps.Doing.{AfterEnd, AfterTake}
use Rattle.remote_receiver.proofs.told.tell_taken.Goals as goal

-- a take that got nothing is told at most that an end is over
after_other : {C : Type 0} (promises : C → Answered → ℕ → Type 0) (end : EndId) (reply : Reply) (old new : Kept C)
    → ((received : Received) → reply ≡ Got received → ⊥) → AfterEnd end (told_of reply) old new → AfterTake promises end (told_of reply) old new
after_other promises end (Got received) old new never after = absurd (never received refl)
after_other promises end reply old new never after = after

pub returns-in_default-clause-kept : goal.returns-in_default-clause-kept
returns-in_default-clause-kept g c =
    after_other g.C.Promise.promises c.args.end c.args.reply (kept_of c.args.jobs.now) (kept_of c.drop_over.new.jobs) c.in_default.not-Got
    c.drop_over.ensures.kept

pub hear_got-requires : goal.hear_got-requires
hear_got-requires g c = record { newest = rw c.in-Got.is at c.requires.newest }
