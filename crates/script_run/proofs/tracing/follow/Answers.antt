use Rattle.std.proofs.Common.{◌≡◌, ◌∙◌, ℕ, List, ap, subst, sym}
use Rattle.std.specs.Prelude.{IfOk, reverse}
use Rattle.std.specs.Arc.{arc_value}
use Rattle.mj_schema.specs.declared.schema.Schema.{Schema}
use Rattle.bind_core.specs.Play.{Play}
use Rattle.bind_model.specs.Left.{left}
use Rattle.bind_model.specs.declared.event.Event.{Event}
use Rattle.callback_laws.specs.Callbacks.{callbacks}
use Rattle.script_run.specs.Draining.{HaveRested}
use Rattle.script_run.specs.Followed.{Follows}
use Rattle.script_run.proofs.tracing.follow.Goals as goal

pub trace-drained-requires-clause-rested : goal.trace-drained-requires-clause-rested
trace-drained-requires-clause-rested c =
    subst (λ (p : Play). HaveRested p c.in_ok-rests.rests.items) (sym c.new-core.ensures) (c.in_ok-rests.ensures _)

pub end-requires : goal.end-requires
end-requires c = c.trace-drained.ensures.unspent c.requires.short

pub returns-clause-follows : goal.returns-clause-follows
returns-clause-follows c =
    let script = c.args.script.now in
    let events = c.args.events.now in
    let is : c.new-core.result.schema ≡ arc_value c.args.schema = ap (λ (p : Play). p.schema) c.new-core.ensures ∙ c.in-Ok.ensures in
    let all = rw c.in_ok-ran.ensures.whole at c.trace-drained.ensures.traced in
    subst (λ (s : Schema). Follows s script events c.in_ok-ran.ran.history.events c.trace-drained.result.1) is
    (subst (λ (es : List Event). Follows c.new-core.result.schema script events es c.trace-drained.result.1) (sym c.in_ok-ran.ensures.history) all.follows)

pub returns-clause-left : goal.returns-clause-left
returns-clause-left c =
    let drained = c.trace-drained.result.0 in
    let all = rw c.in_ok-ran.ensures.whole at c.trace-drained.ensures.traced in
    c.in_ok-ran.ensures.left
    ∙ (ap (λ (n : ℕ). left n (reverse drained.core.events)) all.core.seqs
    ∙ ap (λ (es : List Event). left c.args.script.now.seqs (reverse es)) (sym c.in_ok-ran.ensures.history))

pub returns-clause-notes : goal.returns-clause-notes
returns-clause-notes c = λ whole.
    let script = c.args.script.now in
    let drained = c.trace-drained.result.0 in
    let all = rw c.in_ok-ran.ensures.whole at c.trace-drained.ensures.traced in
    subst (λ r. IfOk r (λ notes. notes ≡ callbacks script.seqs drained.core.events)) c.in_ok-ran.ensures.notes (all.notes whole)
    ∙ ap (callbacks script.seqs) (sym c.in_ok-ran.ensures.history)
