use Rattle.std.proofs.Common.{◌≡◌, ◌++◌, drop}
use Rattle.line_parts.specs.Names.{that_are_words, interfaces_from}
use Rattle.line_parts.proofs.names.interface_words.Given as goal

abbrev pub invariant-loop-number : goal.invariant-loop-number
invariant-loop-number l = l.words.items ++ that_are_words (interfaces_from l.number (drop l.number l.rows)) ≡ that_are_words (interfaces_from 0 l.rows)
