-- Which names give which kinds.
use Rattle.std.specs.Prelude.{ℕ, ◌≡◌, true, false, List, Option, Some, None}
use Rattle.mojom_ast.specs.declared.names.Identifier.{Identifier}
use Rattle.mojom_ast.specs.declared.types.HandleSort.{HandleSort}
use Rattle.mojom_ast.specs.declared.types.HandleSort.TheVariants as written
use Rattle.mojom_ast.specs.declared.types.PendingSort.{PendingSort}
use Rattle.mojom_ast.specs.declared.types.PendingSort.TheVariants as pending
use Rattle.mojom_files.specs.declared.basic.Basic.{Basic}
use Rattle.mojom_files.specs.declared.basic.Basic.TheVariants as basics
use Rattle.mojom_files.specs.Names.{dotted}
use Rattle.module_resolver.specs.declared.target.DefinitionSort.{DefinitionSort}
use Rattle.module_resolver.specs.declared.target.DefinitionSort.TheVariants as sorts
use Rattle.module_resolver.specs.declared.target.Target.TheVariants.{Definition}
use Rattle.module_resolver.specs.LookUp.{look_up, sort_of}
use Rattle.mj_schema.specs.KindTrees.{KindTree}
use Rattle.mj_schema.specs.KindTrees as kinds
use Rattle.mj_schema.specs.Sizes.{bits_of}
use Rattle.mj_schema.specs.declared.kind.HandleSort.{HandleSort as HandleKindSort}
use Rattle.mj_schema.specs.declared.kind.HandleSort.TheVariants as handles
use Rattle.draft_rows.specs.declared.counts.Counts.{Counts}
use Rattle.draft_rows.specs.declared.counts.FileRows.{FileRows}
use Rattle.draft_rows.specs.RowCounts.{rows_before}
use Rattle.written_laws.specs.Values.{Site}

-- the kind of a basic name: an integer has the bits that its name says, and a sign unless it is unsigned
abbrev pub IsBasic : Basic → KindTree → Type 0
IsBasic basics.Bool (kinds.BoolKind nullable) = Unit {0}
IsBasic basics.Int8 (kinds.IntKind width signed nullable) = (bits_of width ≡ 8) × (signed ≡ true)
IsBasic basics.Int16 (kinds.IntKind width signed nullable) = (bits_of width ≡ 16) × (signed ≡ true)
IsBasic basics.Int32 (kinds.IntKind width signed nullable) = (bits_of width ≡ 32) × (signed ≡ true)
IsBasic basics.Int64 (kinds.IntKind width signed nullable) = (bits_of width ≡ 64) × (signed ≡ true)
IsBasic basics.Uint8 (kinds.IntKind width signed nullable) = (bits_of width ≡ 8) × (signed ≡ false)
IsBasic basics.Uint16 (kinds.IntKind width signed nullable) = (bits_of width ≡ 16) × (signed ≡ false)
IsBasic basics.Uint32 (kinds.IntKind width signed nullable) = (bits_of width ≡ 32) × (signed ≡ false)
IsBasic basics.Uint64 (kinds.IntKind width signed nullable) = (bits_of width ≡ 64) × (signed ≡ false)
IsBasic basics.Text (kinds.TextKind nullable) = Unit {0}
IsBasic _ _ = ⊥

-- a name means a definition of a sort, before which so many rows stand
pub record MeansDefinition (rows : List FileRows) (site : Site) (parts : List Identifier) (sort : DefinitionSort) (before : Counts) : Type 0 where
  pub file : ℕ
  pub number : ℕ
  pub found : look_up site.names site.file site.enclosing (dotted parts) ≡ Some (Definition file number)
  pub sort_is : sort_of site.names (Definition file number) ≡ Some sort
  pub before_is : rows_before rows file number ≡ Some before

-- the kind of a struct, a union or an enum before which so many rows stand: its number is that of its row
abbrev pub IsDefined : DefinitionSort → Counts → KindTree → Type 0
IsDefined sorts.Struct before (kinds.StructKind number nullable) = number ≡ before.structs
IsDefined sorts.Union before (kinds.UnionKind number nullable) = number ≡ before.unions
IsDefined sorts.Enum before (kinds.EnumKind number nullable) = number ≡ before.enums
IsDefined _ _ _ = ⊥

-- the kind of a definition that a name means
pub record IsOfDefinition (rows : List FileRows) (site : Site) (parts : List Identifier) (kind : KindTree) : Type 0 where
  pub sort : DefinitionSort
  pub before : Counts
  pub means : MeansDefinition rows site parts sort before
  pub is : IsDefined sort before kind

-- the kind of a name, which is a basic one or that of a definition
abbrev pub IsNamed : List FileRows → Site → Option Basic → List Identifier → KindTree → Type 0
IsNamed rows site (Some basic) parts kind = IsBasic basic kind
IsNamed rows site None parts kind = IsOfDefinition rows site parts kind

-- what a handle stands for
abbrev pub IsHandle : Option HandleSort → HandleKindSort → Type 0
IsHandle None handles.Any = Unit {0}
IsHandle (Some written.MessagePipe) handles.MessagePipe = Unit {0}
IsHandle (Some written.DataPipeConsumer) handles.DataPipeConsumer = Unit {0}
IsHandle (Some written.DataPipeProducer) handles.DataPipeProducer = Unit {0}
IsHandle (Some written.SharedBuffer) handles.SharedBuffer = Unit {0}
IsHandle (Some written.Platform) handles.Platform = Unit {0}
IsHandle _ _ = ⊥

-- the kind of an end of the interface of a number
abbrev pub IsEnd : PendingSort → ℕ → KindTree → Type 0
IsEnd pending.Remote number (kinds.RemoteKind interface nullable) = interface ≡ number
IsEnd pending.Receiver number (kinds.ReceiverKind interface nullable) = interface ≡ number
IsEnd pending.AssociatedRemote number (kinds.AssociatedRemoteKind interface nullable) = interface ≡ number
IsEnd pending.AssociatedReceiver number (kinds.AssociatedReceiverKind interface nullable) = interface ≡ number
IsEnd _ _ _ = ⊥

-- the kind of an end of the interface that a name means
pub record IsOfInterface (rows : List FileRows) (site : Site) (sort : PendingSort) (parts : List Identifier) (kind : KindTree) : Type 0 where
  pub before : Counts
  pub means : MeansDefinition rows site parts sorts.Interface before
  pub is : IsEnd sort before.interfaces kind
