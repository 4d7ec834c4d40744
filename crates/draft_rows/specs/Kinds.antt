-- The kinds of types.
use Rattle.std.specs.Prelude.{ℕ, Bool, true, false, Option, Some, None, option_and_then, List}
use Rattle.std.specs.Option.{option_map}
use Rattle.mojom_ast.specs.TypeTrees.{BaseTree, Named, ArrayOf, MapOf, HandleOf, PendingOf, TypeTree}
use Rattle.mojom_ast.specs.declared.names.Identifier.{Identifier}
use Rattle.mojom_ast.specs.declared.names.Number.{Number}
use Rattle.mojom_ast.specs.declared.types.HandleSort.{HandleSort}
use Rattle.mojom_ast.specs.declared.types.HandleSort.TheVariants as written
use Rattle.mojom_ast.specs.declared.types.PendingSort.{PendingSort}
use Rattle.mojom_ast.specs.declared.types.PendingSort.TheVariants as pending
use Rattle.mojom_files.specs.declared.basic.Basic.{Basic}
use Rattle.mojom_files.specs.declared.basic.Basic.TheVariants as basics
use Rattle.mojom_files.specs.Names.{dotted}
use Rattle.module_resolver.specs.declared.target.Target.{Target}
use Rattle.module_resolver.specs.declared.target.Target.TheVariants as targets
use Rattle.module_resolver.specs.declared.target.DefinitionSort.{DefinitionSort}
use Rattle.module_resolver.specs.declared.target.DefinitionSort.TheVariants as sorts
use Rattle.module_resolver.specs.LookUp.{look_up, sort_of}
use Rattle.mj_schema.specs.declared.kind.Width.TheVariants.{Bits8, Bits16, Bits32, Bits64}
use Rattle.mj_schema.specs.declared.kind.HandleSort.{HandleSort as HandleKindSort}
use Rattle.mj_schema.specs.declared.kind.HandleSort.TheVariants as handles
use Rattle.mj_schema.specs.KindTrees.{KindTree, BoolKind, IntKind, EnumKind, TextKind, HandleKind, ArrayKind, MapKind, StructKind, UnionKind, RemoteKind}
use Rattle.mj_schema.specs.KindTrees.{ReceiverKind, AssociatedRemoteKind, AssociatedReceiverKind}
use Rattle.draft_rows.specs.declared.counts.Counts.{Counts}
use Rattle.draft_rows.specs.declared.counts.FileRows.{FileRows}
use Rattle.kind_scope.specs.declared.meant.Meant.{Meant}
use Rattle.kind_scope.specs.declared.meant.Meant.TheVariants as meant
use Rattle.kind_scope.specs.Scopes.{Scope, meant_in}
use Rattle.kind_scope.specs.Members.{held}
use Rattle.draft_rows.specs.RowCounts.{rows_before}

-- the kind of a basic name; none of float and double
abbrev pub basic_kind : Bool → Basic → Option KindTree
basic_kind nullable basics.Bool = Some (BoolKind nullable)
basic_kind nullable basics.Int8 = Some (IntKind Bits8 true nullable)
basic_kind nullable basics.Int16 = Some (IntKind Bits16 true nullable)
basic_kind nullable basics.Int32 = Some (IntKind Bits32 true nullable)
basic_kind nullable basics.Int64 = Some (IntKind Bits64 true nullable)
basic_kind nullable basics.Uint8 = Some (IntKind Bits8 false nullable)
basic_kind nullable basics.Uint16 = Some (IntKind Bits16 false nullable)
basic_kind nullable basics.Uint32 = Some (IntKind Bits32 false nullable)
basic_kind nullable basics.Uint64 = Some (IntKind Bits64 false nullable)
basic_kind nullable basics.Text = Some (TextKind nullable)
basic_kind nullable basics.Float = None
basic_kind nullable basics.Double = None

-- the kind of a name that means a definition of this sort, before which so many rows stand
abbrev pub row_kind : Bool → DefinitionSort → Counts → Option KindTree
row_kind nullable sorts.Struct counts = Some (StructKind counts.structs nullable)
row_kind nullable sorts.Union counts = Some (UnionKind counts.unions nullable)
row_kind nullable sorts.Enum counts = Some (EnumKind counts.enums nullable)
row_kind nullable sorts.Interface counts = None
row_kind nullable sorts.Const counts = None

-- how many rows stand before a definition that a name means
abbrev pub rows_before_target : List FileRows → Target → Option Counts
rows_before_target rows (targets.Definition file number) = rows_before rows file number
rows_before_target rows (targets.Enumerator file number) = None

-- the kind of a definition of this sort
abbrev pub sort_kind : List FileRows → Bool → Target → DefinitionSort → Option KindTree
sort_kind rows nullable target sort = option_and_then (row_kind nullable sort) (rows_before_target rows target)

-- the kind of what a type's name means
abbrev pub meant_kind : List FileRows → Scope → Bool → Meant → Option KindTree
meant_kind rows scope nullable (meant.Basic basic) = basic_kind nullable basic
meant_kind rows scope nullable (meant.Target target) = option_and_then (sort_kind rows nullable target) (sort_of scope.names target)

-- the number of an interface
abbrev pub interface_at : DefinitionSort → Counts → Option ℕ
interface_at sorts.Interface counts = Some counts.interfaces
interface_at _ counts = None

-- the number of the interface that a definition of this sort is, where it is one
abbrev pub sort_interface : List FileRows → Target → DefinitionSort → Option ℕ
sort_interface rows target sort = option_and_then (interface_at sort) (rows_before_target rows target)

-- the number of the interface that a target is, where it is one
abbrev pub target_interface : List FileRows → Scope → Target → Option ℕ
target_interface rows scope target = option_and_then (sort_interface rows target) (sort_of scope.names target)

-- the number of the interface that a name means
abbrev pub interface_number : List FileRows → Scope → List Identifier → Option ℕ
interface_number rows scope parts =
    option_and_then (target_interface rows scope) (look_up scope.names scope.file scope.enclosing (dotted parts))

-- what a handle stands for
abbrev pub handle_sort : Option HandleSort → HandleKindSort
handle_sort None = handles.Any
handle_sort (Some written.MessagePipe) = handles.MessagePipe
handle_sort (Some written.DataPipeConsumer) = handles.DataPipeConsumer
handle_sort (Some written.DataPipeProducer) = handles.DataPipeProducer
handle_sort (Some written.SharedBuffer) = handles.SharedBuffer
handle_sort (Some written.Platform) = handles.Platform

-- the kind of an end of the interface of this number
abbrev pub pending_kind : PendingSort → Bool → ℕ → KindTree
pending_kind pending.Remote nullable interface = RemoteKind interface nullable
pending_kind pending.Receiver nullable interface = ReceiverKind interface nullable
pending_kind pending.AssociatedRemote nullable interface = AssociatedRemoteKind interface nullable
pending_kind pending.AssociatedReceiver nullable interface = AssociatedReceiverKind interface nullable

-- a length as an unsigned integer of 32 bits
abbrev pub count_of : Option Number → Option ℕ
count_of count = option_map (λ (n : Number). held n.value) count

-- the kind of a map of these keys and values, where there is a kind of the values
abbrev pub with_value : Bool → KindTree → Option KindTree → Option KindTree
with_value nullable key value = option_map (λ (v : KindTree). MapKind key v nullable) value

-- the kind of a type without its `?`, which stands where it is nullable; none at a float, and where a name means no kind
abbrev pub kind_of_base : List FileRows → Scope → BaseTree → Bool → Option KindTree
kind_of_base rows scope (Named name) nullable = option_and_then (meant_kind rows scope nullable) (meant_in scope name.parts)
kind_of_base rows scope (ArrayOf of inner count) nullable =
    option_map (λ (k : KindTree). ArrayKind k (count_of count) nullable) (kind_of_base rows scope of inner)
kind_of_base rows scope (MapOf key of_key value of_value) nullable =
    option_and_then (λ (k : KindTree). with_value nullable k (kind_of_base rows scope value of_value)) (kind_of_base rows scope key of_key)
kind_of_base rows scope (HandleOf sort) nullable = Some (HandleKind (handle_sort sort) nullable)
kind_of_base rows scope (PendingOf sort interface) nullable =
    option_map (pending_kind sort nullable) (interface_number rows scope interface.parts)

-- the kind of a type
abbrev pub kind_of : List FileRows → Scope → TypeTree → Option KindTree
kind_of rows scope kind = kind_of_base rows scope kind.base kind.nullable
