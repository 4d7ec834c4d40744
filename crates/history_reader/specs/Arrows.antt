-- The arrow that stands between a command and its reply.
use Rattle.std.specs.Prelude.{codes}
use Rattle.bind_model.specs.declared.asked.Asked.{Asked}
use Rattle.byte_rules.specs.Lang.{Lang, as_value}
use Rattle.value_text.specs.Rules.{letters}

-- the arrow, behind which the reply stands
unfoldable pub arrow : Lang (Unit {0})
arrow = letters (codes " -> ") tt

-- what was asked, and the arrow
abbrev pub asks : Asked → Lang Asked
asks what = as_value (λ u. what) arrow

-- the same without the arrow's first blank, which ends what stands before it
unfoldable pub arrow_behind : Lang (Unit {0})
arrow_behind = letters (codes "-> ") tt

-- what was asked, and the arrow without its first blank
abbrev pub asks_behind : Asked → Lang Asked
asks_behind what = as_value (λ u. what) arrow_behind
