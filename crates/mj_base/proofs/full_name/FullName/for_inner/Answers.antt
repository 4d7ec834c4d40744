use Rattle.std.proofs.Common.{sym, ◌∙◌}
use Rattle.mj_base.proofs.FullNames.{full_name_is}
use Rattle.mj_base.proofs.full_name.FullName.for_inner.Goals as goal

pub returns : goal.returns
returns c =
    let parts = c.parts.result in
    c.in_ok-made.ensures ∙ sym (c.parts.ensures ∙ full_name_is parts.module_name.now parts.outer.now parts.name.now)
