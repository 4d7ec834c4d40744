-- Trees of which no list is longer than a number.
use Rattle.std.specs.Prelude.{ℕ, ◌≤◌, length}
use Rattle.wire_model.specs.Trees.{Tree, Trees, Text, Items, Pairs, Fields, Member, none, more, count}

abbrev mutual
  -- no string, array, map or struct is longer
  pub IsShort : ℕ → Tree → Type 0
  IsShort most (Text bytes) = length bytes ≤ most
  IsShort most (Items ts) = (count ts ≤ most) × AreShort most ts
  IsShort most (Pairs (more (Items ks) (more (Items vs) none))) = ((count ks ≤ most) × AreShort most ks) × ((count vs ≤ most) × AreShort most vs)
  IsShort most (Pairs ts) = ⊥
  IsShort most (Fields ts) = (count ts ≤ most) × AreShort most ts
  IsShort most (Member tag t) = IsShort most t
  IsShort most t = Unit {0}

  -- nor in any tree of a list
  pub AreShort : ℕ → Trees → Type 0
  AreShort most none = Unit {0}
  AreShort most (more t ts) = IsShort most t × AreShort most ts
