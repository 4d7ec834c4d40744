use Rattle.std.proofs.Common.{◌≡◌, take, ℕ, List}
use Rattle.import_order.specs.Numbers.{number_of}
use Rattle.indexmap.specs.IndexMap.{get_by_text}
use Rattle.import_order.proofs.name_table.NameTable.new.Given as goal

abbrev pub invariant-loop-number : goal.invariant-loop-number
invariant-loop-number l = (q : List ℕ) → get_by_text l.numbers q ≡ number_of q (take l.number l.fn.names)
