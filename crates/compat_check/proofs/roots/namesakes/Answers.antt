use Rattle.std.proofs.Common.{List, map, ap, ◌∙◌}
use Rattle.mj_schema.specs.declared.rows.InterfaceRow.{InterfaceRow}
use Rattle.compat_check.specs.steps.Roots.{namesake}
use Rattle.compat_check.proofs.roots.namesakes.Goals as goal

pub returns : goal.returns
returns c = c.in_ok-made.ensures ∙ ap (λ (rows : List InterfaceRow). map (namesake c.args.new.now.schema.now) rows) c.as_slice.ensures
