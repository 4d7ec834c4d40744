use denote.Text.{Utf8}
use denote.Shadow.{shadow}
use Rattle.conformance.proofs.audited.count_of.Given as goal

-- what was found is text
abbrev pub invariant-loop-line : goal.invariant-loop-line
invariant-loop-line l = shadow (Utf8 l.count)
