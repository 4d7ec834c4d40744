use Rattle.std.proofs.Common.{ap, ◌∙◌}
use Rattle.std.specs.Prelude.{option_and_then}
use Rattle.wire_view.specs.Parts.{text_of}
use Rattle.wire_view.proofs.view.View.string.Goals as goal

pub returns-in-Some : goal.returns-in-Some
returns-in-Some c = c.as_string.ensures ∙ ap (option_and_then text_of) c.in-Some.ensures.value

pub returns-in-None : goal.returns-in-None
returns-in-None c = ap (option_and_then text_of) c.in-None.ensures.value
