use Rattle.mojom_lexer.specs.Strings.{text_of}
use Rattle.mojom_lexer.specs.steps.Scans.{parts_of}
use Rattle.mojom_lexer.proofs.Texts.{IsReadTo}
use Rattle.std.proofs.Common.{false}
use Rattle.mojom_lexer.proofs.strings.text.Given as goal

-- the text so far, with what is still to be read, is the whole
abbrev pub invariant-loop-len : goal.invariant-loop-len
invariant-loop-len l = IsReadTo l.after_backslash l.len l.text.items l.inside (text_of 1 (parts_of false l.inside))
