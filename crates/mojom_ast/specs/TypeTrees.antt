-- Types without where they lie in memory.
use Rattle.std.specs.Prelude.{Bool, Option}
use Rattle.mojom_ast.specs.declared.names.Name.{Name}
use Rattle.mojom_ast.specs.declared.names.Number.{Number}
use Rattle.mojom_ast.specs.declared.types.HandleSort.{HandleSort}
use Rattle.mojom_ast.specs.declared.types.PendingSort.{PendingSort}
use Rattle.mojom_ast.specs.declared.types.TypeNode as nodes
use Rattle.mojom_ast.specs.declared.types.BaseNode as bases

-- a type without its own ?
pub data BaseTree : Type 0 where
  Named : Name → BaseTree
  ArrayOf : (of : BaseTree) (nullable : Bool) (count : Option Number) → BaseTree
  MapOf : (key : BaseTree) (key_nullable : Bool) (value : BaseTree) (value_nullable : Bool) → BaseTree
  HandleOf : Option HandleSort → BaseTree
  PendingOf : PendingSort → Name → BaseTree

-- a type: what stands before ?, and whether ? stands
pub record TypeTree : Type 0 where
  pub base : BaseTree
  pub nullable : Bool

-- what the code keeps of a type without ?, as a tree
abbrev pub base_view : bases.BaseNode → BaseTree
base_view (bases.Name n) = Named n
base_view (bases.Array' p b n count) = ArrayOf (base_view b) n count
base_view (bases.Map' p b n q c k) = MapOf (base_view b) n (base_view c) k
base_view (bases.Handle sort) = HandleOf sort
base_view (bases.Pending sort name) = PendingOf sort name

-- what the code keeps of a type, as a tree
abbrev pub type_view : nodes.TypeNode → TypeTree
type_view t = record { base = base_view t.base; nullable = t.nullable }
