-- What a desk does with a command and the callback that comes with it.
use Rattle.std.proofs.Common.{◌≡◌, ℕ, Bool, true, false, List, length, refl, sym, subst}
use Rattle.std.specs.Prelude.{ℤ, Option, Some, None, Result, Ok, Err, IfOk, IfErr, OnErr, is_some, if◌then◌else◌}
use Rattle.mj_base.specs.declared.ids.EndId.{EndId}
use Rattle.handle_table.specs.declared.thing.Thing.{Thing}
use Rattle.wire_encoder.specs.declared.prepared.Prepared.{Prepared}
use Rattle.wire_model.specs.declared.target.Target.{Target}
use Rattle.bind_model.specs.Pendings.{Half}
use Rattle.bind_model.specs.Plain.{IsSpentAt, asked_of}
use Rattle.bind_model.specs.Seen.{Saw, Waited}
use Rattle.bind_model.specs.Wire.{Wire}
use Rattle.bind_model.specs.WireOf.{wire_of}
use Rattle.bind_model.specs.declared.commands.Command.{Command}
use Rattle.bind_model.specs.declared.commands.Command.TheVariants.{Call, Take}
use Rattle.bind_model.specs.declared.commands.Refused.{Refused}
use Rattle.bind_model.specs.declared.commands.Refused.TheVariants as refusals
use Rattle.bind_model.specs.declared.commands.Reply.{Reply}
use Rattle.bind_model.specs.declared.commands.Reply.TheVariants as replies
use Rattle.remote_receiver.specs.Calls.{IsOther, NotSent}
use Rattle.remote_receiver.specs.Notes.{Follows, Kept}
use Rattle.remote_receiver.specs.Stepped.{step_of}
use Rattle.remote_receiver.specs.declared.call.CallRefused.{CallRefused}
use Rattle.remote_receiver.specs.declared.call.CallRefused.TheVariants.{No, Memory, Spent}
use Rattle.remote_receiver.specs.declared.call.Sent.{Sent}
use Rattle.remote_receiver.proofs.Following.{follows_same}
use Rattle.script_run.specs.declared.plain.Plain.{Plain}
use Rattle.script_run.specs.AtDesk.{AnswersZero, IsSpentOnly, SameDesk, Seen, Served, job_of, job_of_method, plain}
use Rattle.script_run.specs.steps.Desks.{answered_as}

-- ## The callback that comes with a command

pub some_where : (b : Bool) → is_some (if b then Some plain else None) ≡ b
some_where true = refl
some_where false = refl

-- a call with a response has one
pub has_job : (wire : Wire) (target : Target) → is_some (job_of_method wire target) ≡ wire.responds target.interface target.method
has_job wire target = some_where (wire.responds target.interface target.method)

pub is_other : (command : Command)
    → ((end : EndId) (id : ℕ) (prepared : Prepared) (handles : List Thing) (pendings : List Half) (moment : Option ℤ)
    → command ≡ Call end id prepared handles pendings moment → ⊥)
    → ((end : EndId) → command ≡ Take end → ⊥) → IsOther command
is_other (Call end id prepared handles pendings moment) no_call no_take = no_call end id prepared handles pendings moment refl
is_other (Take end) no_call no_take = no_take end refl
is_other command no_call no_take = tt

no_job : (wire : Wire) (command : Command) → IsOther command → job_of wire (asked_of command) ≡ None
no_job wire (Call end id prepared handles pendings moment) other = absurd other
no_job wire (Take end) other = absurd other
no_job wire command other = refl

-- ## What the desk did

module _ (before after : Seen) (old new : Kept Plain) (same : SameDesk before after) where
  -- a call with its callback; one that is refused changes nothing of what is kept
  module _ (end : EndId) (id : ℕ) (prepared : Prepared) (handles : List Thing) (pendings : List Half) (moment : Option ℤ) where
    -- the job that comes with the call
    abbrev job : Option Plain
    job = job_of_method (wire_of before.schema) prepared.target

    sent : (result : Result Sent (CallRefused Plain))
        → IfOk result (λ s. Saw before.schema before.seqs before.alone before.me before.events after.events
        (Call end id prepared handles pendings moment) (replies.Sent s.request s.bytes))
        → IfOk result (λ s. Follows AnswersZero old (step_of (Call end id prepared handles pendings moment) (replies.Sent s.request s.bytes) job) new)
        → IfErr result (λ refused. NotSent before.schema before.seqs before.alone before.me before.events after.events
        (Call end id prepared handles pendings moment) job refused)
        → OnErr result (new ≡ old)
        → Served before after (Call end id prepared handles pendings moment) old new (answered_as result)
    sent (Ok s) saw follows unsent unmoved = record {
      same = same;
      event = saw;
      kept = follows;
      refused = tt;
      unmoved = tt;
    }
    sent (Err (No why back given)) saw follows unsent unmoved = record {
      same = same;
      event = unsent.0;
      kept = subst (Follows AnswersZero old (step_of (Call end id prepared handles pendings moment) (replies.No why back) job)) (sym unmoved)
          (follows_same AnswersZero (step_of (Call end id prepared handles pendings moment) (replies.No why back) job) old refl (λ key. refl) (λ key. refl));
      refused = tt;
      unmoved = tt;
    }
    sent (Err (Memory back given)) saw follows unsent unmoved = record {
      same = same;
      event = tt;
      kept = tt;
      refused = (unsent.0, unsent.1, tt);
      unmoved = unmoved;
    }
    sent (Err (Spent back given)) saw follows unsent unmoved = record {
      same = same;
      event = tt;
      kept = tt;
      refused = (unsent.0, unsent.1, unsent.3);
      unmoved = unmoved;
    }

    -- with the callback that came with it
    pub call_served : (command : Command) (given : Option Plain) → given ≡ job → (result : Result Sent (CallRefused Plain))
        → command ≡ Call end id prepared handles pendings moment
        → IfOk result (λ s. Saw before.schema before.seqs before.alone before.me before.events after.events
        (Call end id prepared handles pendings moment) (replies.Sent s.request s.bytes))
        → IfOk result (λ s. Follows AnswersZero old (step_of (Call end id prepared handles pendings moment) (replies.Sent s.request s.bytes) given) new)
        → IfErr result (λ refused. NotSent before.schema before.seqs before.alone before.me before.events after.events
        (Call end id prepared handles pendings moment) given refused)
        → OnErr result (new ≡ old)
        → Served before after command old new (answered_as result)
    call_served command given as_due result is saw follows unsent unmoved =
        subst (λ (c : Command). Served before after c old new (answered_as result)) (sym is)
        (sent result saw
        (subst
        (λ (j : Option Plain). IfOk result (λ s. Follows AnswersZero old
        (step_of (Call end id prepared handles pendings moment) (replies.Sent s.request s.bytes) j) new))
        as_due follows)
        (subst
        (λ (j : Option Plain). IfErr result (λ refused. NotSent before.schema before.seqs before.alone before.me before.events after.events
        (Call end id prepared handles pendings moment) j refused))
        as_due unsent)
        unmoved)

  spent_only : (n : ℕ) (refused : Refused) → IsSpentAt n refused → IsSpentOnly n refused
  spent_only n (refusals.Memory command) spent = tt
  spent_only n (refusals.Spent command) spent = spent

  -- a command that no callback comes with
  served : (command : Command) → job_of (wire_of before.schema) (asked_of command) ≡ None → (result : Result Reply Refused)
      → IfOk result (λ reply. Saw before.schema before.seqs before.alone before.me before.events after.events command reply)
      → IfOk result (λ reply. Follows AnswersZero old (step_of command reply None) new)
      → IfErr result (λ refused. Waited before.schema before.seqs before.alone before.me before.events after.events command refused)
      → OnErr result (new ≡ old)
      → Served before after command old new result
  served command none (Ok reply) saw follows waited unmoved = record {
    same = same;
    event = saw;
    kept = subst (λ (job : Option Plain). Follows AnswersZero old (step_of command reply job) new) (sym none) follows;
    refused = tt;
    unmoved = tt;
  }
  served command none (Err refused) saw follows waited unmoved = record {
    same = same;
    event = tt;
    kept = tt;
    refused = ((waited.others, waited.legal), waited.back, spent_only (length after.events) refused waited.spent);
    unmoved = unmoved;
  }

  pub other_served : (command : Command) (result : Result Reply Refused) → IsOther command
      → IfOk result (λ reply. Saw before.schema before.seqs before.alone before.me before.events after.events command reply)
      → IfOk result (λ reply. Follows AnswersZero old (step_of command reply None) new)
      → IfErr result (λ refused. Waited before.schema before.seqs before.alone before.me before.events after.events command refused)
      → OnErr result (new ≡ old)
      → Served before after command old new result
  other_served command result other saw follows waited unmoved =
      served command (no_job (wire_of before.schema) command other) result saw follows waited unmoved
