use Rattle.std.proofs.Common.{◌≡◌, ◌++◌}
use Rattle.mojom_print.specs.Words.{indent}
use Rattle.mojom_print.proofs.words.push_indent.Given as goal

abbrev pub invariant-loop-level : goal.invariant-loop-level
invariant-loop-level l = l.out.items ≡ l.initial.out.items ++ indent l._level
