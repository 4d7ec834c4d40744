-- The numbers of a schema's interfaces by their full names, as the code keeps them: at the nodes of a tree of names.
use Rattle.std.specs.Prelude.{ℕ, ◌≡◌, ◌==◌, ◌<◌, ◌≤◌, nat_eq, Bool, false, not, List, [], Option, Some, None, is_some, if◌then◌else◌, option_and_then}
use Rattle.std.specs.Option.{option_map_or, option_or}
use Rattle.std.specs.Str.{bytes_eq}
use Rattle.indexmap.specs.IndexMap.{get}
use Rattle.name_tree.specs.Walks.{walk}
use Rattle.name_tree.specs.Trees.{child, count, IsNameTree}
use Rattle.name_tree.specs.declared.tree.NameTree.{NameTree}
use Rattle.mj_schema.specs.Lookups.{interface_named}
use Rattle.mj_schema.specs.declared.rows.InterfaceRow.{InterfaceRow}
use Rattle.call_script.specs.declared.indexed_schema.IndexedSchema.{IndexedSchema}
use Rattle.call_script.specs.declared.indexed_schema.NumberedNames.{NumberedNames}

-- the number at the node of a name
abbrev pub number_at : NameTree → (ℕ → Option ℕ) → List ℕ → Option ℕ
number_at tree numbers name = option_and_then numbers (walk (child tree) 0 [] name)

-- the number of a name
abbrev pub numbered : NumberedNames → List ℕ → Option ℕ
numbered names name = number_at names.tree (get nat_eq names.numbers) name

-- the names in a module stand below this node: the root where there is no module
abbrev pub StandsAt : NameTree → Option (List ℕ) → ℕ → Type 0
StandsAt tree None node = node ≡ 0
StandsAt tree (Some name) node = walk (child tree) 0 [] name ≡ Some node

-- there is a name, and it is this one
abbrev pub is_name : Option (List ℕ) → List ℕ → Bool
is_name known name = option_map_or (λ (one : List ℕ). bytes_eq one name) known false

-- there is one name, or none in both
abbrev pub are_same : Option (List ℕ) → Option (List ℕ) → Bool
are_same one other = option_map_or (is_name one) other (not (is_some one))

-- a node that had no number has this one
abbrev pub IsKept : (ℕ → Option ℕ) → (ℕ → Option ℕ) → ℕ → ℕ → Type 0
IsKept old new node number = (n : ℕ) → new n ≡ option_or (old n) (if node == n then Some number else None)

-- the names stand in a tree, and nothing has a number beyond its nodes
pub record AreKept (tree : NameTree) (numbers : ℕ → Option ℕ) : Type 0 where
  pub tree_is : IsNameTree tree
  pub root : 0 < count tree
  pub inside : (n : ℕ) → count tree ≤ n → numbers n ≡ None

-- a name that had no number has this one
abbrev pub IsNoted : (List ℕ → Option ℕ) → (List ℕ → Option ℕ) → List ℕ → ℕ → Type 0
IsNoted old new name number = (q : List ℕ) → new q ≡ option_or (old q) (if bytes_eq q name then Some number else None)

-- each name has the number of the first interface of this name
abbrev pub AreNumbered : (List ℕ → Option ℕ) → List InterfaceRow → Type 0
AreNumbered numbers interfaces = (q : List ℕ) → numbers q ≡ interface_named interfaces q

-- a schema with the numbers of its interfaces by their names
abbrev pub IsIndexed : IndexedSchema → Type 0
IsIndexed indexed = AreNumbered (numbered indexed.names) indexed.schema.now.interfaces
