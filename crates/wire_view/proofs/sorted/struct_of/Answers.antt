use Rattle.std.proofs.Common.{sym, ap, ◌∙◌}
use Rattle.std.specs.Prelude.{option_and_then}
use Rattle.wire_view.specs.Parts.{is_struct}
use Rattle.wire_view.specs.SortedViews.{only}
use Rattle.wire_view.proofs.sorted.struct_of.Goals as goal

pub returns-in-Some : goal.returns-in-Some
returns-in-Some c = c.from_view.ensures ∙ ap (option_and_then (only is_struct)) (sym c.in-Some.is)

pub returns-in-None : goal.returns-in-None
returns-in-None c = ap (option_and_then (only is_struct)) (sym c.in-None.is)
