use Rattle.std.proofs.Common.{ap, sym, ◌∙◌}
use Rattle.std.specs.Prelude.{option_and_then}
use Rattle.command_line.specs.Asked.{in_load}
use Rattle.command_line.proofs.read.read_messages.Goals as goal

pub returns-in-Some : goal.returns-in-Some
returns-in-Some c = c.in_load.ensures ∙ ap (option_and_then in_load) (sym c.in-Some.is ∙ c.in_ok-number.ensures)

pub returns-in-None : goal.returns-in-None
returns-in-None c = ap (option_and_then in_load) (sym c.in-None.is ∙ c.in_ok-number.ensures)
