use Rattle.std.proofs.Common.{◌≡◌, drop}
use Rattle.data_pipe.specs.Table.{first_begun}
use Rattle.data_pipe.proofs.table.DataTable.first_begun.Given as goal

-- it is the first of what is left
abbrev pub invariant-loop-thing : goal.invariant-loop-thing
invariant-loop-thing l = first_begun l.self (drop l.thing-index l.things) ≡ first_begun l.self l.things
