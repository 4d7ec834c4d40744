-- Kinds of an older schema and of a newer one that reads them.
use Rattle.std.specs.Prelude.{ℕ, Bool, true, false, not, ◌&&◌, ◌||◌, ◌==◌, List, [], ◌∷◌, ◌++◌, Option, Some, None, slice_get, unwrap_or}
use Rattle.mj_schema.specs.KindTrees as kinds
use Rattle.mj_schema.specs.KindTrees.{KindTree}
use Rattle.mj_schema.specs.Sizes.{bits_of}
use Rattle.mj_schema.specs.declared.kind.HandleSort.{HandleSort}
use Rattle.mj_schema.specs.declared.kind.HandleSort.TheVariants as handles
use Rattle.compat_model.specs.declared.pair.Pair.{Pair}
use Rattle.compat_model.specs.declared.pair.Pair.TheVariants.{Structs, Unions, Enums}

-- what holds of the older holds of the newer: null where it was, or added; and so for what is extensible
abbrev pub is_kept : Bool → Bool → Bool
is_kept old new = not old || new

-- both or neither
abbrev pub is_same : Bool → Bool → Bool
is_same true b = b
is_same false b = not b

-- a fixed count that is equal, or dropped
abbrev pub count_fits : Option ℕ → Option ℕ → Bool
count_fits n None = true
count_fits None (Some m) = false
count_fits (Some n) (Some m) = n == m

-- handle sorts by numbers, so that two can be compared
abbrev pub sort_number : HandleSort → ℕ
sort_number handles.Any = 0
sort_number handles.MessagePipe = 1
sort_number handles.DataPipeConsumer = 2
sort_number handles.DataPipeProducer = 3
sort_number handles.SharedBuffer = 4
sort_number handles.Platform = 5

-- whether a number is there, and is this one
abbrev pub is_number : Option ℕ → ℕ → Bool
is_number None j = false
is_number (Some k) j = k == j

-- interfaces of one full name, where the list has for each interface of the older schema the number of the newer one's of that name
abbrev pub are_namesakes : List (Option ℕ) → ℕ → ℕ → Bool
are_namesakes namesakes i j = is_number (unwrap_or (slice_get namesakes i) None) j

-- kinds of one sort, width, sign and handle sort. Null is there in both, or is added to what isn't a number, a bool or an enum; counts,
-- elements, keys and values fit; and endpoints are of interfaces of one full name. Structs, unions and enums that are named stand opposite
-- each other as pairs, and are looked at as such.
abbrev pub kinds_fit : List (Option ℕ) → KindTree → KindTree → Bool
kinds_fit namesakes (kinds.BoolKind n) (kinds.BoolKind m) = is_same n m
kinds_fit namesakes (kinds.IntKind w s n) (kinds.IntKind x t m) = (bits_of w == bits_of x) && (is_same s t && is_same n m)
kinds_fit namesakes (kinds.EnumKind i n) (kinds.EnumKind j m) = is_same n m
kinds_fit namesakes (kinds.TextKind n) (kinds.TextKind m) = is_kept n m
kinds_fit namesakes (kinds.HandleKind s n) (kinds.HandleKind t m) = (sort_number s == sort_number t) && is_kept n m
kinds_fit namesakes (kinds.ArrayKind k c n) (kinds.ArrayKind l d m) = is_kept n m && (count_fits c d && kinds_fit namesakes k l)
kinds_fit namesakes (kinds.MapKind k v n) (kinds.MapKind l u m) = is_kept n m && (kinds_fit namesakes k l && kinds_fit namesakes v u)
kinds_fit namesakes (kinds.StructKind i n) (kinds.StructKind j m) = is_kept n m
kinds_fit namesakes (kinds.UnionKind i n) (kinds.UnionKind j m) = is_kept n m
kinds_fit namesakes (kinds.RemoteKind i n) (kinds.RemoteKind j m) = is_kept n m && are_namesakes namesakes i j
kinds_fit namesakes (kinds.ReceiverKind i n) (kinds.ReceiverKind j m) = is_kept n m && are_namesakes namesakes i j
kinds_fit namesakes (kinds.AssociatedRemoteKind i n) (kinds.AssociatedRemoteKind j m) = is_kept n m && are_namesakes namesakes i j
kinds_fit namesakes (kinds.AssociatedReceiverKind i n) (kinds.AssociatedReceiverKind j m) = is_kept n m && are_namesakes namesakes i j
kinds_fit namesakes _ _ = false

-- the rows that two kinds name where they stand opposite each other, those of a key before those of its value
abbrev pub named_in : KindTree → KindTree → List Pair
named_in (kinds.EnumKind i n) (kinds.EnumKind j m) = Enums i j ∷ []
named_in (kinds.ArrayKind k c n) (kinds.ArrayKind l d m) = named_in k l
named_in (kinds.MapKind k v n) (kinds.MapKind l u m) = named_in k l ++ named_in v u
named_in (kinds.StructKind i n) (kinds.StructKind j m) = Structs i j ∷ []
named_in (kinds.UnionKind i n) (kinds.UnionKind j m) = Unions i j ∷ []
named_in _ _ = []
