use Rattle.std.proofs.Common.{◌≡◌, take, ℕ, List}
use Rattle.std.specs.Prelude.{position}
use Rattle.indexmap.specs.IndexMap.{get_by_text}
use Rattle.compat_model.specs.Verdicts.{is_name}
use Rattle.compat_check.proofs.name_table.NameTable.new.Given as goal

-- what was passed has its numbers
abbrev pub invariant-loop-number : goal.invariant-loop-number
invariant-loop-number l = (q : List ℕ) → get_by_text l.numbers q ≡ position (is_name q) (take l.number l.fn.names)
