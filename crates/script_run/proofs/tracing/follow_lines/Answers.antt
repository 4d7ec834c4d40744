use Rattle.std.proofs.Common.{◌≡◌, ◌∙◌, ℕ, List, ap, drop, length, subst, sym}
use Rattle.std.proofs.lemmas.List.{length-reverse}
use Rattle.bind_model.specs.declared.event.Event.{Event}
use Rattle.script_run.specs.Draining.{past_in}
use Rattle.script_run.specs.declared.agenda.Agenda.{Agenda}
use Rattle.script_run.specs.steps.Following.{AreFresh, HaveFollowed}
use Rattle.script_run.proofs.Traces.{amid_first, ok_weaker}
use Rattle.script_run.proofs.tracing.follow_lines.Goals as goal

pub follow_plans-requires-clause-amid : goal.follow_plans-requires-clause-amid
follow_plans-requires-clause-amid c = (
  past_in c.args.core,
  amid_first c.args.schema.now c.args.script.now c.args.core c.args.rests.now c.args.rooms.now c.deref_mut.result.now c.requires.joined
      (subst (λ (plans : List Agenda). AreFresh c.args.script.now plans) (sym c.deref_mut.ensures.value) c.in-Ok.ensures),
)

pub returns-clause-followed : goal.returns-clause-followed
returns-clause-followed c =
    let core = c.args.core in
    let schema = c.args.schema.now in
    let script = c.args.script.now in
    let size : c.len.result ≡ length (past_in core) = c.len.ensures ∙ (ap length c.history.ensures.events ∙ sym (length-reverse core.events)) in
    let rest : c.behind-rest.result.now ≡ drop (length (past_in core)) c.args.events.now =
    c.behind-rest.ensures ∙ ap (λ (n : ℕ). drop n c.args.events.now) size in
    let fresh : AreFresh script c.deref_mut.result.now =
    subst (λ (plans : List Agenda). AreFresh script plans) (sym c.deref_mut.ensures.value) c.in-Ok.ensures in
    ok_weaker c.follow_plans.result.1 _ _
    (λ whole f.
    subst (λ (es : List Event). HaveFollowed schema script (past_in core) es c.follow_plans.result.0 c.follow_plans.new.rests whole) rest
    (f (past_in core) (amid_first schema script core c.args.rests.now c.args.rooms.now c.deref_mut.result.now c.requires.joined fresh)))
    c.follow_plans.ensures.followed
