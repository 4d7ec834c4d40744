-- What contracts see of a response map: all callbacks but the newest stand in a tree, and that one beside it.
use Rattle.std.specs.Prelude.{ℕ, Option, Some, None}
use Rattle.std.specs.BTreeMap.{BTreeMap}
use Rattle.std.specs.FinMap.{FinMap, from_entries, insert}
use Rattle.response_map.specs.declared.key.Key.{Key}
use Rattle.response_map.specs.Keys.{key_cmp}

-- the callbacks by their keys, and for how many more there is room
pub record Contents (C : Type 0) : Type 0 where
  pub callbacks : FinMap key_cmp C
  pub spare : ℕ

-- the callbacks of a tree
abbrev pub callbacks_of : {C : Type 0} → BTreeMap Key C → FinMap key_cmp C
callbacks_of tree = from_entries tree.entries

-- with the newest one beside them
abbrev pub with_newest : {C : Type 0} → Option (Key × C) → FinMap key_cmp C → FinMap key_cmp C
with_newest None callbacks = callbacks
with_newest (Some entry) callbacks = insert callbacks entry.0 entry.1

-- there is room for one where none stands beside the tree
abbrev pub free : {C : Type 0} → Option (Key × C) → ℕ
free None = 1
free (Some entry) = 0

-- the contents of a tree and the newest callback beside it
abbrev pub seen : {C : Type 0} → Option (Key × C) → BTreeMap Key C → Contents C
seen newest tree = record { callbacks = with_newest newest (callbacks_of tree); spare = free newest }
