-- What may be asked of a reading.
use Rattle.mojom_ast.specs.Lang.{Mode, Whole, Begun, Deep}

-- Spelled: a list that is spelled with any number of levels. Sure: one that is spelled with the reader's.
-- Beginning: a beginning with any number of levels. TooDeep: a list that ends with a type too deep for the reader.
pub data Ask : Type 0 where
  Spelled : Ask
  Sure : Ask
  Beginning : Ask
  TooDeep : Ask

-- the question on a list that an asking is
abbrev pub mode_of : Ask → Mode
mode_of Spelled = Whole
mode_of Sure = Whole
mode_of Beginning = Begun
mode_of TooDeep = Deep
