use Rattle.std.proofs.Common.{◌∙◌, ap}
use Rattle.import_order.proofs.FileNumbers.{is_below, given_before}
use Rattle.import_order.proofs.given.is_given_before.Goals as goal

pub returns-in-Some : goal.returns-in-Some
returns-in-Some c = ap (is_below c.args.number) c.in-Some.ensures ∙ given_before c.args.name.now c.args.table.now c.args.number

pub returns-in-None : goal.returns-in-None
returns-in-None c = ap (is_below c.args.number) c.in-None.ensures ∙ given_before c.args.name.now c.args.table.now c.args.number
