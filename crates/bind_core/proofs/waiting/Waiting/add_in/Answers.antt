use Rattle.std.proofs.Common.{◌≡◌, true, List, refl, subst, sym}
use Rattle.mj_base.specs.declared.ids.EndId.{EndId}
use Rattle.end_notices.proofs.Lines.{on_ok}
use Rattle.bind_core.specs.EndSets.{has_end}
use Rattle.bind_core.proofs.CauseLists.{grows, no_list, now_for, pushed_last, pushed_more}
use Rattle.bind_core.proofs.waiting.Waiting.add_in.Goals.{in-Some, in-None}
use Rattle.bind_core.proofs.waiting.Waiting.add_in.Goals as goal

pub returns-clause-more : goal.returns-clause-more
returns-clause-more c = elim c.match-get_mut.branch [
  | in-Some w ↦
      rw (w.self-inside-is, ← c.self.view_is)
      (grows c.self.inside.lists (c.get_mut.follows.lender w.push.new.self) c.args.cause w.push.new.self
      ((c.get_mut.follows.holds w.push.new.self).3 (rw (← w.in-Some.ensures.value) refl)) w.in-Some.list.now w.in-Some.ensures.value
      (pushed_more w.push.result w.in-Some.list.now w.push.new.self c.args.end w.push.ensures.ok w.push.ensures.err))
  | in-None w ↦ absurd (no_list c.self.inside.lists c.args.self.now c.args.cause c.self.view_is w.in-None.ensures.value c.requires)
]

pub returns-clause-added : goal.returns-clause-added
returns-clause-added c = elim c.match-get_mut.branch [
  | in-Some w ↦
      rw (w.result-is, w.self-inside-is)
      (on_ok w.push.result
      (λ last.
      subst (λ (ends : List EndId). has_end ends c.args.end ≡ true)
      (sym (now_for c.self.inside.lists (c.get_mut.follows.lender w.push.new.self) c.args.cause w.push.new.self
      ((c.get_mut.follows.holds w.push.new.self).3 (rw (← w.in-Some.ensures.value) refl)))) last)
      (pushed_last w.push.result w.in-Some.list.now w.push.new.self c.args.end w.push.ensures.ok))
  | in-None w ↦ absurd (no_list c.self.inside.lists c.args.self.now c.args.cause c.self.view_is w.in-None.ensures.value c.requires)
]
