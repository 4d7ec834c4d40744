-- What look-ups need where names stand: the nodes of names, what stands at them, and how many dots full names have.
use Rattle.std.specs.Prelude.{ℕ, ◌≡◌, nat_eq, Bool, List, [], map, find, slice_get, Option, Some, None, IfSome, is_some, option_and_then}
use Rattle.std.specs.Option.{unwrap_or}
use Rattle.import_order.specs.Imports.{has}
use Rattle.indexmap.specs.IndexMap.{get}
use Rattle.name_tree.specs.Walks.{walk}
use Rattle.name_tree.specs.Trees.{child}
use Rattle.module_resolver.specs.LookUp.{meant_by}
use Rattle.module_resolver.specs.NameDots.{dots_in, IsBetween}
use Rattle.module_resolver.specs.declared.target.Target.{Target}
use Rattle.module_resolver.specs.declared.target.Target.TheVariants.{Definition, Enumerator}
use Rattle.module_resolver.specs.declared.file_names.FileNames.{FileNames}
use Rattle.module_resolver.specs.declared.name_index.NameIndex.{NameIndex}
use Rattle.module_resolver.specs.declared.seat.Seat.{Seat}

-- the file in which something stands
abbrev pub file_of : Target → ℕ
file_of (Definition file number) = file
file_of (Enumerator file number) = file

-- the first of these that stands in a file that is seen
abbrev pub first_seen : (ℕ → Bool) → List Target → Option Target
first_seen seen targets = find (λ (target : Target). seen (file_of target)) targets

-- the first that has this name in a file that is seen
abbrev pub owner : (List ℕ → Option (List Target)) → (ℕ → Bool) → List ℕ → Option Target
owner owners seen name = first_seen seen (unwrap_or (owners name) [])

-- for each file the first owner that it sees is what a name means in it
abbrev pub AreOwners : List FileNames → (List ℕ → Option (List Target)) → Type 0
AreOwners files owners =
    (file : ℕ) (here : FileNames) → slice_get files file ≡ Some here → (name : List ℕ) → owner owners (has here.seen) name ≡ meant_by files here.seen name

-- where the number of a name's dots stands between two of full names, nothing has the name
abbrev pub HaveDots : List ℕ → (List ℕ → Option (List Target)) → Type 0
HaveDots dots owners = (name : List ℕ) → IsBetween dots (dots_in name) → owners name ≡ None

-- the node of a name below a node
abbrev pub node_of : NameIndex → ℕ → List ℕ → Option ℕ
node_of index node name = walk (child index.tree) node [] name

-- what has this full name
abbrev pub held : NameIndex → List ℕ → Option (List Target)
held index name = option_and_then (get nat_eq index.owners) (node_of index 0 name)

-- these are the nodes of the names
abbrev pub AreNodes : NameIndex → List (List ℕ) → List ℕ → Type 0
AreNodes index names nodes = map (node_of index 0) names ≡ map (λ (n : ℕ). Some n) nodes

-- what look-ups need in the file of this number, within the definition of this full name
pub record IsSeat (files : List FileNames) (file : ℕ) (enclosing : Option (List ℕ)) (seat : Seat) : Type 0 where
  pub there : slice_get files file ≡ Some seat.here.now
  pub are_owners : AreOwners files (held seat.index.now)
  pub have_dots : HaveDots seat.dots.now (held seat.index.now)
  pub are_nodes : AreNodes seat.index.now seat.here.now.fronts seat.nodes.now
  pub around : option_and_then (node_of seat.index.now 0) enclosing ≡ seat.node

-- the same, where there is a file of this number
pub record IsSeated (files : List FileNames) (file : ℕ) (enclosing : Option (List ℕ)) (seat : Option Seat) : Type 0 where
  pub there : is_some seat ≡ is_some (slice_get files file)
  pub is : IfSome seat (IsSeat files file enclosing)
