use Rattle.module_resolver.proofs.LesserLengths.{IsLesserTo}
use Rattle.module_resolver.proofs.lengths.lesser_of.Given as goal

abbrev pub invariant-loop-len : goal.invariant-loop-len
invariant-loop-len l = IsLesserTo l.marks l.lesser.items l.len l.last
