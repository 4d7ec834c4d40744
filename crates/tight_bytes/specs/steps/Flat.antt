-- Values by themselves.
use Rattle.std.specs.Prelude.{Bool, true, false}
use Rattle.wire_model.specs.Trees.{Tree, Text, Items, Pairs, Fields, Member}

-- nothing stands behind the value
abbrev pub is_flat : Tree → Bool
is_flat (Text bytes) = false
is_flat (Items ts) = false
is_flat (Pairs ts) = false
is_flat (Fields ts) = false
is_flat (Member tag t) = false
is_flat t = true
