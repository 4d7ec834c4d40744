-- What a tree of names is, as contracts see it.
use Rattle.std.specs.Prelude.{ℕ, ◌≡◌, ◌+◌, ◌*◌, ◌<◌, ◌≤◌, nat_eq, List, Option, Some, None, option_and_then}
use Rattle.indexmap.specs.IndexMap.{get, get_by_text}
use Rattle.name_tree.specs.Walks.{IsTree}
use Rattle.name_tree.specs.declared.tree.NameTree.{NameTree}

-- by what the node right below another is kept, where its part has this number: both are below 2^32
abbrev pub key_of : ℕ → ℕ → ℕ
key_of node number = node * 4294967296 + number

-- the node right below a node, by the number of its part
abbrev pub by_number : (List ℕ → Option ℕ) → (ℕ → Option ℕ) → ℕ → List ℕ → Option ℕ
by_number number below node part = option_and_then (λ (n : ℕ). below (key_of node n)) (number part)

-- the node right below a node, by its part
abbrev pub child : NameTree → ℕ → List ℕ → Option ℕ
child tree node part = by_number (get_by_text tree.parts) (get nat_eq tree.below) node part

-- how many nodes the tree has
abbrev pub count : NameTree → ℕ
count tree = tree.nodes

-- each part has a number of its own below `given`, and nothing stands below a node by a number that no part has
pub record AreNumbers (number : List ℕ → Option ℕ) (below : ℕ → Option ℕ) (given : ℕ) : Type 0 where
  pub few : given < 4294967296
  pub less : (part : List ℕ) (n : ℕ) → number part ≡ Some n → n < given
  pub apart : (part other : List ℕ) (n : ℕ) → number part ≡ Some n → number other ≡ Some n → part ≡ other
  pub unused : (node n : ℕ) → given ≤ n → n < 4294967296 → below (key_of node n) ≡ None

-- a tree of names
pub record IsNameTree (names : NameTree) : Type 0 where
  pub tree : IsTree (child names) (count names)
  pub numbers : AreNumbers (get_by_text names.parts) (get nat_eq names.below) names.given

-- numbers are given to parts, and all nodes stay
pub record Numbers (old new : NameTree) : Type 0 where
  pub names : IsNameTree new
  pub same : (node : ℕ) (part : List ℕ) → child new node part ≡ child old node part
  pub nodes : count new ≡ count old
