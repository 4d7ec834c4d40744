use Rattle.std.proofs.Common.{◌≡◌, true, List, subst, sym, ◌∙◌}
use Rattle.std.specs.Prelude.{Option}
use Rattle.mj_base.specs.declared.ids.EndId.{EndId}
use Rattle.bind_core.specs.Covers.{AllListed}
use Rattle.bind_core.specs.EndSets.{has_end}
use Rattle.bind_core.specs.steps.Watching.{HasNear}
use Rattle.bind_core.proofs.Waking.{listed_more, listed_spared}
use Rattle.bind_model.specs.Notices.{waits}
use Rattle.core_state.specs.Agreement.{past_of, with_notices}
use Rattle.core_state.proofs.Pausing.{still_holds}
use Rattle.event_tables.specs.AsCore.{state_of}
use Rattle.plain_names.specs.Commands.{asked_in}
use Rattle.event_steps.proofs.Covering.{covers_after, listed_then, named_is}
use Rattle.event_steps.proofs.Reserving.{then_forgot}
use Rattle.event_steps.proofs.machine.Machine.step.Goals as goal

pub add_ready-requires : goal.add_ready-requires
add_ready-requires c = still_holds (state_of c.step.new.tables) c.forget_all.new.notices c.in_ok-step.ensures.holds c.forget_all.ensures

pub settle-requires : goal.settle-requires
settle-requires c = still_holds (state_of c.step.new.tables) c.forget_all.new.notices c.in_ok-step.ensures.holds c.forget_all.ensures

pub settle_gone-requires : goal.settle_gone-requires
settle_gone-requires c = still_holds (state_of c.step.new.tables) c.forget_all.new.notices c.in_ok-step.ensures.holds c.forget_all.ensures

pub returns-clause-steps : goal.returns-clause-steps
returns-clause-steps c =
    then_forgot (state_of c.args.self.now.tables) (state_of c.step.new.tables) c.forget_all.new.notices c.args.seq (asked_in c.args.command)
    c.in_ok-step.ensures c.forget_all.ensures

pub returns-clause-stands : goal.returns-clause-stands
returns-clause-stands c =
    let old = state_of c.args.self.now.tables in
    let done = state_of c.step.new.tables in
    let new = with_notices done c.forget_all.new.notices in
    let asked = asked_in c.args.command in
    let steps = then_forgot old done c.forget_all.new.notices c.args.seq asked c.in_ok-step.ensures c.forget_all.ensures in
    let lists = c.note_wait.new.waiting in
    let watched = c.add_near.new.self in
    let near =
    subst (λ (o : Option EndId). HasNear old o watched) (c.end_named-end.ensures ∙ named_is c.args.command) c.in_ok-add_near.ensures.near in
    let listed : AllListed lists (past_of old) = λ x.
    listed_more c.args.self.now.waiting lists (past_of old) x (waits (past_of old) x) c.note_wait.ensures.more (c.requires.stands.listed x) in
    let is = c.as_slice-ends.ensures.value ∙ c.in_ok-woken.ensures in
    record {
      holds = steps.holds;
      covers =
          covers_after old new c.args.seq asked steps c.args.self.now.watched watched lists c.requires.stands.covers c.add_near.ensures.more near listed
          c.add_ready.new.self c.settle_gone.new.self c.add_ready.ensures.more
          (λ x h t. c.in_ok-add_ready.ensures.ready x (subst (λ (ends : List EndId). has_end ends x ≡ true) (sym is) h) t)
          (λ x t h. c.settle_gone.ensures x t (c.settle.ensures x t h));
      listed =
          listed_spared lists c.clear_woken.new.waiting (past_of new) c.clear_woken.ensures
          (listed_then old new c.args.seq asked steps lists listed c.in_ok-note_wait.ensures.noted);
    }
