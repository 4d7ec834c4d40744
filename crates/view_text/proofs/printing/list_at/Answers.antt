use Rattle.std.proofs.Common.{◌≡◌, Some, None, sym, ap, ◌∙◌}
use Rattle.std.specs.Prelude.{option_and_then}
use Rattle.wire_model.specs.Trees.{Items}
use Rattle.wire_view.specs.Parts.{held}
use Rattle.view_text.proofs.printing.list_at.Goals as goal

pub unreachable-requires : goal.unreachable-requires
unreachable-requires c = let no : None ≡ Some (Items c.requires.0) = c.in-None.ensures.value ∙ ap (option_and_then held) c.requires.1 in cc

pub returns : goal.returns
returns c = c.in-Some.ensures.value ∙ ap (option_and_then held) c.requires.1 ∙ sym c.requires.1
