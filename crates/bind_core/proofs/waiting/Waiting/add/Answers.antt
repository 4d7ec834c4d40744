use Rattle.std.proofs.Common.{◌≡◌, true, List, subst, sym}
use Rattle.mj_base.specs.declared.ids.EndId.{EndId}
use Rattle.bind_core.specs.EndSets.{has_end}
use Rattle.bind_core.proofs.waiting.Waiting.add.Goals as goal

pub returns-clause-more : goal.returns-clause-more
returns-clause-more c = λ other x h.
    c.add_in.ensures.more other x (subst (λ (ends : List EndId). has_end ends x ≡ true) (sym (c.place.ensures.same other)) h)
