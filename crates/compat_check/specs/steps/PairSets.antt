-- Sets of pairs, as the code keeps them: in an order of their own.
use Rattle.std.specs.Prelude.{◌≡◌, ℕ, Bool, true, List, length}
use Rattle.std.specs.BTreeMap.{is_at}
use Rattle.std.specs.BTreeSet.{contains}
use Rattle.std.specs.Ordering.{nat_cmp, ordering_then}
use Rattle.std.specs.declared.cmp.Ordering.{Ordering}
use Rattle.compat_model.specs.declared.pair.Pair.{Pair}
use Rattle.compat_model.specs.declared.pair.Pair.TheVariants.{Structs, Unions, Enums, Interfaces}
use Rattle.compat_model.specs.steps.Among.{IsAmong}
use Rattle.compat_check.specs.declared.pair_set.Key.{Key}
use Rattle.compat_check.specs.declared.pair_set.PairSet.{PairSet}

-- a pair by numbers
abbrev pub key_of : Pair → Key
key_of (Structs i j) = record { sort = 0; older = i; newer = j }
key_of (Unions i j) = record { sort = 1; older = i; newer = j }
key_of (Enums i j) = record { sort = 2; older = i; newer = j }
key_of (Interfaces i j) = record { sort = 3; older = i; newer = j }

-- by sort, then by the older row, and then by the newer
abbrev pub key_cmp : Key → Key → Ordering
key_cmp a b = ordering_then (nat_cmp a.sort b.sort) (ordering_then (nat_cmp a.older b.older) (nat_cmp a.newer b.newer))

-- the set has the pair
abbrev pub has_pair : PairSet → Pair → Bool
has_pair set pair = contains key_cmp set.keys (key_of pair)

-- the order takes two pairs for one
abbrev pub is_pair : Pair → Pair → Bool
is_pair pair other = is_at (key_cmp (key_of pair)) (key_of other)

-- how many pairs the set has
abbrev pub count : PairSet → ℕ
count set = length set.keys.keys

-- the set has just the pairs of a list
pub record IsSetOf (seen : PairSet) (list : List Pair) : Type 0 where
  pub into : (q : Pair) → has_pair seen q ≡ true → IsAmong list q
  pub back : (q : Pair) → IsAmong list q → has_pair seen q ≡ true
