-- Values that are told apart first, since most are such.
use Rattle.std.specs.Prelude.{Bool, true, false}
use Rattle.wire_model.specs.Trees.{Tree, Flag, Whole, Null}

-- a bool, a number, or null
abbrev pub is_number : Tree → Bool
is_number (Flag b) = true
is_number (Whole n) = true
is_number Null = true
is_number t = false
