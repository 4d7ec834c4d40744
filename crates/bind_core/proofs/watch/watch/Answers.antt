use Rattle.std.proofs.Common.{subst}
use Rattle.std.specs.Prelude.{Option}
use Rattle.mj_base.specs.declared.ids.EndId.{EndId}
use Rattle.bind_core.specs.steps.Watching.{HasNear}
use Rattle.bind_core.proofs.Covering.{stands_more}
use Rattle.bind_core.proofs.watch.watch.Goals as goal

pub returns-in_err-note_wait-clause-stands : goal.returns-in_err-note_wait-clause-stands
returns-in_err-note_wait-clause-stands c =
    stands_more c.args.state.now c.requires.holds c.watch_woken.new.watched c.watch_woken.new.watched c.watch_woken.new.waiting
    c.note_wait.new.waiting c.watch_woken.ensures.stands (λ x h. h) c.note_wait.ensures.more

pub returns-in_err-watch_near-clause-stands : goal.returns-in_err-watch_near-clause-stands
returns-in_err-watch_near-clause-stands c =
    stands_more c.args.state.now c.requires.holds c.watch_woken.new.watched c.watch_near.new.watched c.watch_woken.new.waiting
    c.note_wait.new.waiting c.watch_woken.ensures.stands c.watch_near.ensures.more c.note_wait.ensures.more

pub returns-clause-stands : goal.returns-clause-stands
returns-clause-stands c =
    stands_more c.args.state.now c.requires.holds c.watch_woken.new.watched c.watch_near.new.watched c.watch_woken.new.waiting
    c.note_wait.new.waiting c.watch_woken.ensures.stands c.watch_near.ensures.more c.note_wait.ensures.more

pub returns-clause-watched : goal.returns-clause-watched
returns-clause-watched c = record {
  ready = λ x r. c.watch_near.ensures.more x (c.in_ok-looked.ensures.covers x r);
  near =
      subst (λ (end : Option EndId). HasNear c.args.state.now end c.watch_near.new.watched) c.end_named.ensures c.in_ok-watch_near.ensures.near;
  noted = c.in_ok-note_wait.ensures.noted;
}
