-- What has each full name, as the code keeps it: at the nodes of a tree of names.
use Rattle.std.specs.Prelude.{ℕ, ◌≡◌, ◌==◌, ◌<◌, ◌≤◌, nat_eq, Bool, if◌then◌else◌, List, [], map, Option, Some, None, option_and_then}
use Rattle.std.specs.Option.{option_or, unwrap_or}
use Rattle.std.specs.Str.{bytes_eq}
use Rattle.indexmap.specs.IndexMap.{get}
use Rattle.name_tree.specs.Walks.{Grows}
use Rattle.name_tree.specs.Trees.{child, count, IsNameTree}
use Rattle.module_resolver.specs.declared.target.Target.{Target}
use Rattle.module_resolver.specs.declared.file_names.FileNames.{FileNames}
use Rattle.module_resolver.specs.declared.name_index.NameIndex.{NameIndex}
use Rattle.module_resolver.specs.declared.entry.Entry.{Entry}
use Rattle.module_resolver.specs.NameDots.{dots_in}
use Rattle.module_resolver.specs.Seats.{file_of, first_seen, node_of, held, AreOwners, HaveDots}
use Rattle.module_resolver.specs.steps.Owners.{where_seen, Notes, HaveDotMarks}

-- a target is added to what a node has, behind all that it has already
pub record Adds (old new : ℕ → Option (List Target)) (node : ℕ) (target : Target) : Type 0 where
  pub list : List Target
  pub adds : (p : ℕ → Bool) → first_seen p list ≡ option_or (first_seen p (unwrap_or (old node) [])) (where_seen p (file_of target) (Some target))
  pub writes : (n : ℕ) → new n ≡ (if node == n then Some list else old n)

-- the first that has a name below a node in a file that is seen
abbrev pub owner_below : NameIndex → (ℕ → Bool) → ℕ → List ℕ → Option Target
owner_below index seen node name = first_seen seen (unwrap_or (option_and_then (get nat_eq index.owners) (node_of index node name)) [])

-- the names stand in a tree, nothing is kept beyond its nodes, and the dots of all that anything has are marked
pub record IsSound (index : NameIndex) : Type 0 where
  pub tree : IsNameTree index.tree
  pub root : 0 < count index.tree
  pub inside : (n : ℕ) → count index.tree ≤ n → get nat_eq index.owners n ≡ None
  pub dotted : HaveDotMarks index.dots.items (held index)

-- a name stands here
pub record IsEntry (index : NameIndex) (name : List ℕ) (entry : Entry) : Type 0 where
  pub is : node_of index 0 name ≡ Some entry.node
  pub dotted : dots_in name ≡ entry.dots

-- what stands at a node has so many dots
abbrev pub IsMeasured : NameIndex → Entry → Type 0
IsMeasured index entry = (name : List ℕ) → node_of index 0 name ≡ Some entry.node → dots_in name ≡ entry.dots

-- a name is entered: all nodes stay, and nothing has a name that didn't have it before
pub record Entered (old new : NameIndex) : Type 0 where
  pub sound : IsSound new
  pub grows : Grows (child old.tree) (count old.tree) (child new.tree) (count new.tree)
  pub same : (name : List ℕ) → held new name ≡ held old name

-- a target is noted at a node, whatever name that is
pub record NotedAt (old new : NameIndex) (node : ℕ) (target : Target) : Type 0 where
  pub sound : IsSound new
  pub tree : new.tree ≡ old.tree
  pub notes : (name : List ℕ) → node_of old 0 name ≡ Some node
      → Notes (held old) (held new) (λ (p : ℕ → Bool) (q : List ℕ). if bytes_eq q name then where_seen p (file_of target) (Some target) else None)

-- the nodes of names stay theirs
abbrev pub KeepsNodes : NameIndex → NameIndex → Type 0
KeepsNodes old new = (name : List ℕ) (node : ℕ) → node_of old 0 name ≡ Some node → node_of new 0 name ≡ Some node

-- these are the nodes of the fronts of each file's module
abbrev pub HaveNodes : NameIndex → List FileNames → List (List ℕ) → Type 0
HaveNodes index files nodes =
    map (λ (here : FileNames). map (node_of index 0) here.fronts) files ≡ map (λ (ns : List ℕ). map (λ (n : ℕ). Some n) ns) nodes

-- what is kept beside the names of files for look-ups
pub record IsIndex (files : List FileNames) (index : NameIndex) (dots : List ℕ) (nodes : List (List ℕ)) : Type 0 where
  pub are_owners : AreOwners files (held index)
  pub have_dots : HaveDots dots (held index)
  pub have_nodes : HaveNodes index files nodes
