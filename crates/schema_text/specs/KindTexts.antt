-- The text of kinds: as types of a Mojom file, with the full names of what they name.
use Rattle.std.specs.Prelude.{ℕ, Bool, true, false, List, [], ◌++◌, codes, decimal, slice_get, Option, Some, None}
use Rattle.std.specs.Option.{option_map_or}
use Rattle.mojom_print.specs.Types.{nullable_text}
use Rattle.mj_schema.specs.declared.kind.HandleSort.{HandleSort}
use Rattle.mj_schema.specs.declared.kind.HandleSort.TheVariants as handles
use Rattle.mj_schema.specs.declared.kind.Width.{Width}
use Rattle.mj_schema.specs.declared.rows.EnumRow.{EnumRow}
use Rattle.mj_schema.specs.declared.rows.InterfaceRow.{InterfaceRow}
use Rattle.mj_schema.specs.declared.rows.StructRow.{StructRow}
use Rattle.mj_schema.specs.declared.rows.UnionRow.{UnionRow}
use Rattle.mj_schema.specs.declared.schema.Schema.{Schema}
use Rattle.mj_schema.specs.KindTrees.{KindTree}
use Rattle.mj_schema.specs.KindTrees as kinds
use Rattle.mj_schema.specs.Sizes.{bits_of}

-- the full name of the struct of a number; one that isn't there has no bytes
abbrev pub struct_name : Schema → ℕ → List ℕ
struct_name schema number = option_map_or (λ (row : StructRow). row.name) (slice_get schema.structs number) []

-- the full name of the union of a number
abbrev pub union_name : Schema → ℕ → List ℕ
union_name schema number = option_map_or (λ (row : UnionRow). row.name) (slice_get schema.unions number) []

-- the full name of the enum of a number
abbrev pub enum_name : Schema → ℕ → List ℕ
enum_name schema number = option_map_or (λ (row : EnumRow). row.name) (slice_get schema.enums number) []

-- the full name of the interface of a number
abbrev pub interface_name : Schema → ℕ → List ℕ
interface_name schema number = option_map_or (λ (row : InterfaceRow). row.name) (slice_get schema.interfaces number) []

-- int8 to int64, and uint8 to uint64
abbrev pub integer_text : Width → (signed : Bool) → List ℕ
integer_text width true = codes "int" ++ decimal (bits_of width)
integer_text width false = codes "uint" ++ decimal (bits_of width)

-- handle, or handle<platform> of a sort
abbrev pub handle_text : HandleSort → List ℕ
handle_text handles.Any = codes "handle"
handle_text handles.MessagePipe = codes "handle<message_pipe>"
handle_text handles.DataPipeConsumer = codes "handle<data_pipe_consumer>"
handle_text handles.DataPipeProducer = codes "handle<data_pipe_producer>"
handle_text handles.SharedBuffer = codes "handle<shared_buffer>"
handle_text handles.Platform = codes "handle<platform>"

-- , 4 where an array has a length
abbrev pub length_text : Option ℕ → List ℕ
length_text None = []
length_text (Some n) = codes ", " ++ decimal n

-- pending_remote<a.I>, of a word and the number of an interface, and ? where it may be null
unfoldable pub pending_text : Schema → (word : List ℕ) (interface : ℕ) (nullable : Bool) → List ℕ
pending_text schema word interface nullable = word ++ (codes "<" ++ (interface_name schema interface ++ (codes ">" ++ nullable_text nullable)))

-- an end of an interface; each other kind has no text here
abbrev pub end_text : Schema → KindTree → List ℕ
end_text schema (kinds.RemoteKind interface nullable) = pending_text schema (codes "pending_remote") interface nullable
end_text schema (kinds.ReceiverKind interface nullable) = pending_text schema (codes "pending_receiver") interface nullable
end_text schema (kinds.AssociatedRemoteKind interface nullable) = pending_text schema (codes "pending_associated_remote") interface nullable
end_text schema (kinds.AssociatedReceiverKind interface nullable) = pending_text schema (codes "pending_associated_receiver") interface nullable
end_text schema _ = []

-- bool, int8, a.E, string, handle, array<T>, array<T, 4>, map<K, V>, a.S or pending_remote<a.I>, and ? where it may be null
abbrev pub kind_text : Schema → KindTree → List ℕ
kind_text schema (kinds.BoolKind nullable) = codes "bool" ++ nullable_text nullable
kind_text schema (kinds.IntKind width signed nullable) = integer_text width signed ++ nullable_text nullable
kind_text schema (kinds.EnumKind number nullable) = enum_name schema number ++ nullable_text nullable
kind_text schema (kinds.TextKind nullable) = codes "string" ++ nullable_text nullable
kind_text schema (kinds.HandleKind sort nullable) = handle_text sort ++ nullable_text nullable
kind_text schema (kinds.ArrayKind of count nullable) =
    codes "array<" ++ (kind_text schema of ++ (length_text count ++ (codes ">" ++ nullable_text nullable)))
kind_text schema (kinds.MapKind key value nullable) =
    codes "map<" ++ (kind_text schema key ++ (codes ", " ++ (kind_text schema value ++ (codes ">" ++ nullable_text nullable))))
kind_text schema (kinds.StructKind number nullable) = struct_name schema number ++ nullable_text nullable
kind_text schema (kinds.UnionKind number nullable) = union_name schema number ++ nullable_text nullable
kind_text schema end = end_text schema end
