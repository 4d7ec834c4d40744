-- The text of types, as the Mojom IDL reference writes them.
use Rattle.std.specs.Prelude.{ℕ, Bool, true, false, List, [], ◌++◌, codes, decimal, Option, Some, None}
use Rattle.mojom_ast.specs.declared.names.Identifier.{Identifier}
use Rattle.mojom_ast.specs.declared.names.Number.{Number}
use Rattle.mojom_ast.specs.declared.types.HandleSort.{HandleSort}
use Rattle.mojom_ast.specs.declared.types.HandleSort.TheVariants as handles
use Rattle.mojom_ast.specs.declared.types.PendingSort.{PendingSort}
use Rattle.mojom_ast.specs.declared.types.PendingSort.TheVariants as pendings
use Rattle.mojom_ast.specs.TypeTrees.{BaseTree, TypeTree, Named, ArrayOf, MapOf, HandleOf, PendingOf}
use Rattle.mojom_print.specs.Words.{name_text}

-- ?, where a type may be null
abbrev pub nullable_text : Bool → List ℕ
nullable_text true = codes "?"
nullable_text false = []

-- , 4 where an array has a length
abbrev pub count_text : Option Number → List ℕ
count_text None = []
count_text (Some n) = codes ", " ++ decimal n.value

-- the sort of a handle
abbrev pub handle_sort_text : HandleSort → List ℕ
handle_sort_text handles.MessagePipe = codes "message_pipe"
handle_sort_text handles.DataPipeConsumer = codes "data_pipe_consumer"
handle_sort_text handles.DataPipeProducer = codes "data_pipe_producer"
handle_sort_text handles.SharedBuffer = codes "shared_buffer"
handle_sort_text handles.Platform = codes "platform"

-- <platform>, where a handle has a sort
abbrev pub sort_given_text : Option HandleSort → List ℕ
sort_given_text None = []
sort_given_text (Some sort) = codes "<" ++ (handle_sort_text sort ++ codes ">")

-- the sort of a pending end
abbrev pub pending_sort_text : PendingSort → List ℕ
pending_sort_text pendings.Remote = codes "pending_remote"
pending_sort_text pendings.Receiver = codes "pending_receiver"
pending_sort_text pendings.AssociatedRemote = codes "pending_associated_remote"
pending_sort_text pendings.AssociatedReceiver = codes "pending_associated_receiver"

-- a.b, array<T, 4>, map<K, V>, handle<platform> or pending_remote<I>
abbrev pub base_text : BaseTree → List ℕ
base_text (Named name) = name_text name
base_text (ArrayOf of nullable count) = codes "array<" ++ ((base_text of ++ nullable_text nullable) ++ (count_text count ++ codes ">"))
base_text (MapOf key key_nullable value value_nullable) =
    codes "map<" ++ ((base_text key ++ nullable_text key_nullable) ++ (codes ", " ++ ((base_text value ++ nullable_text value_nullable) ++ codes ">")))
base_text (HandleOf sort) = codes "handle" ++ sort_given_text sort
base_text (PendingOf sort name) = pending_sort_text sort ++ (codes "<" ++ (name_text name ++ codes ">"))

-- a type: T or T?
abbrev pub type_text : TypeTree → List ℕ
type_text t = base_text t.base ++ nullable_text t.nullable

-- a type and a name: T a
abbrev pub declared_text : TypeTree → Identifier → List ℕ
declared_text kind name = type_text kind ++ (codes " " ++ name.text)
