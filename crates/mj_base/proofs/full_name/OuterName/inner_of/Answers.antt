use Rattle.std.proofs.Common.{sym, ◌∙◌, ap}
use Rattle.mj_base.specs.Names.{within}
use Rattle.mj_base.proofs.FullNames.{within_twice}
use Rattle.mj_base.proofs.full_name.OuterName.inner_of.Goals as goal

pub returns : goal.returns
returns c =
    let outer = c.args.self.now in
    c.in_ok-made.ensures ∙ (ap (within outer) c.in_ok-own.ensures ∙ sym (within_twice outer c.args.first.now c.args.last.now))
