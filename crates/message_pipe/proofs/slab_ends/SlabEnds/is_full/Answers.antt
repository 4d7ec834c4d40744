use Rattle.std.proofs.Common.{ℕ, sym, ap, ◌∙◌}
use Rattle.std.specs.Prelude.{nat_le}
use Rattle.mj_base.specs.declared.limits.TheConstants.{MAX_UNREAD_MESSAGES}
use Rattle.message_pipe.proofs.Seeing.{weighs-seen}
use Rattle.message_pipe.proofs.slab_ends.SlabEnds.is_full.Goals as goal

pub returns : goal.returns
returns c = rw (← c.self.view_is) (c.is_full.ensures ∙ ap (λ (n : ℕ). nat_le MAX_UNREAD_MESSAGES n)
    (sym (weighs-seen c.self.inside.messages c.self.inside.keys c.args.end (c.self.invariant.held c.args.end))))
