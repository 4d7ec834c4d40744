-- What full names are known, as the code keeps them: at the nodes of a tree of names.
use Rattle.std.specs.Prelude.{ℕ, ◌≡◌, ◌<◌, ◌≤◌, nat_eq, Bool, List, [], Option, Some, None, is_some, option_and_then}
use Rattle.indexmap.specs.IndexMap.{get}
use Rattle.name_tree.specs.Walks.{walk}
use Rattle.name_tree.specs.Trees.{child, count, IsNameTree}
use Rattle.name_tree.specs.declared.tree.NameTree.{NameTree}
use Rattle.name_refusals.specs.declared.known_names.KnownNames.{KnownNames}

-- the full name is known
abbrev pub knows : KnownNames → List ℕ → Bool
knows known name = is_some (option_and_then (get nat_eq known.nodes) (walk (child known.tree) 0 [] name))

-- the names in a module stand below this node: the root where there is no module
abbrev pub StandsAt : NameTree → Option (List ℕ) → ℕ → Type 0
StandsAt tree None node = node ≡ 0
StandsAt tree (Some name) node = walk (child tree) 0 [] name ≡ Some node

-- the names stand in a tree, nothing is known beyond its nodes, and the module that is at hand has its node
pub record AreKnown (known : KnownNames) : Type 0 where
  pub tree : IsNameTree known.tree
  pub root : 0 < count known.tree
  pub inside : (n : ℕ) → count known.tree ≤ n → get nat_eq known.nodes n ≡ None
  pub around : StandsAt known.tree known.around known.at

-- names are entered: all nodes stay, and no more names are known
pub record EntersInto (old new : KnownNames) : Type 0 where
  pub known : AreKnown new
  pub kept : (node : ℕ) (name : List ℕ) (found : ℕ) → walk (child old.tree) node [] name ≡ Some found → walk (child new.tree) node [] name ≡ Some found
  pub nodes : new.nodes ≡ old.nodes
  pub same : (name : List ℕ) → knows new name ≡ knows old name
