use Rattle.std.proofs.Common.{sym}
use Rattle.import_order.proofs.FileNumbers.{number_below, no_text}
use Rattle.import_order.proofs.given.imported.Goals as goal

pub returns-in-Ok-clause-below : goal.returns-in-Ok-clause-below
returns-in-Ok-clause-below c = rw c.find.ensures (number_below c.in-Ok.path.now c.args.table.now)

pub returns-in-Err-clause-is : goal.returns-in-Err-clause-is
returns-in-Err-clause-is c =
    sym (no_text c.args.one.now.path.bytes c.args.table.now (rw c.as_slice.ensures at c.in-Err.ensures.cases.0) c.requires)
