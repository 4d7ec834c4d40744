use Rattle.std.proofs.Common.{◌<◌, List, length, sym, subst}
use Rattle.std.proofs.lemmas.Result.{IfOk-weaker}
use Rattle.mj_base.specs.declared.limits.TheConstants.{MAX_EVENTS}
use Rattle.bind_model.specs.declared.event.Event.{Event}
use Rattle.core_state.specs.Agreement.{with_notices}
use Rattle.core_state.proofs.Pausing.{still_holds}
use Rattle.event_tables.specs.AsCore.{state_of}
use Rattle.plain_names.specs.Commands.{asked_in}
use Rattle.event_steps.proofs.Reserving.{forgot_steps, roomy_holds, roomy_steps}
use Rattle.event_steps.proofs.steps.step.Goals as goal

pub dispatch-requires-clause-able : goal.dispatch-requires-clause-able
dispatch-requires-clause-able c =
    let s = state_of c.args.tables.now in
    let lines = c.forget_at.new.notices in
    let same = c.reserve.ensures.kept in
    record {
      holds = roomy_holds (with_notices s lines) c.reserve.new.self same (still_holds s lines c.requires.holds c.forget_at.ensures);
      within = c.requires.seq;
      room = c.in_ok-reserve.ensures.room;
      few = subst (λ (es : List Event). length es < MAX_EVENTS) (sym same) c.requires.few;
    }

pub returns : goal.returns
returns c =
    let s = state_of c.args.tables.now in
    let lines = c.forget_at.new.notices in
    let new = state_of c.dispatch.new.tables in
    let asked = asked_in c.args.command in
    IfOk-weaker c.dispatch.result _ _
    (λ done steps. forgot_steps s lines new c.args.seq asked
    (roomy_steps (with_notices s lines) c.reserve.new.self c.reserve.ensures.kept new c.args.seq asked steps))
    c.dispatch.ensures
