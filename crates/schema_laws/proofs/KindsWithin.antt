-- Each row that a kind names is there.
use Rattle.std.proofs.Common.{◌≡◌, ℕ, ◌<◌, List, [], ◌∷◌, ◌++◌, map, refl, ◌∙◌, ap}
use Rattle.std.specs.Prelude.{Bool, true, Option, Some, None, option_and_then}
use Rattle.std.specs.Option.{option_map, option_to_list}
use Rattle.std.specs.List.{list_all}
use Rattle.std.proofs.lemmas.Bool.{lt-ltb, and_from}
use Rattle.mojom_ast.specs.TypeTrees.{BaseTree, Named, ArrayOf, MapOf, HandleOf, PendingOf, TypeTree}
use Rattle.mojom_ast.specs.declared.definitions.Const.{Const}
use Rattle.mojom_ast.specs.declared.types.PendingSort.{PendingSort}
use Rattle.mojom_ast.specs.declared.types.PendingSort.TheVariants as pending
use Rattle.mojom_files.specs.declared.basic.Basic.{Basic}
use Rattle.mojom_files.specs.declared.basic.Basic.TheVariants as basics
use Rattle.mojom_files.specs.Names.{dotted}
use Rattle.module_resolver.specs.declared.target.Target.{Target}
use Rattle.module_resolver.specs.declared.target.DefinitionSort.{DefinitionSort}
use Rattle.module_resolver.specs.declared.target.DefinitionSort.TheVariants as sorts
use Rattle.module_resolver.specs.LookUp.{look_up, sort_of}
use Rattle.mj_schema.specs.KindTrees.{KindTree, ArrayKind}
use Rattle.mj_schema.specs.WellFormed.{RowCounts, are_within}
use Rattle.mj_schema.specs.declared.rows.ConstRow.{ConstRow}
use Rattle.mj_schema.specs.declared.rows.DraftField.{DraftField}
use Rattle.mj_schema.specs.declared.rows.Literal.{Literal}
use Rattle.mj_schema.specs.declared.rows.UnionFieldRow.{UnionFieldRow}
use Rattle.draft_rows.specs.declared.counts.Counts.{Counts}
use Rattle.draft_rows.specs.declared.counts.FileRows.{FileRows}
use Rattle.kind_scope.specs.declared.meant.Meant.{Meant}
use Rattle.kind_scope.specs.declared.meant.Meant.TheVariants as meant
use Rattle.kind_scope.specs.Scopes.{Scope, meant_in}
use Rattle.kind_scope.specs.Members.{Numbered}
use Rattle.draft_rows.specs.Kinds.{basic_kind, row_kind, rows_before_target, meant_kind, interface_at, target_interface, interface_number, pending_kind}
use Rattle.draft_rows.specs.Kinds.{count_of, with_value, kind_of_base, kind_of}
use Rattle.draft_rows.specs.Rows.{const_with, const_row, literal_in, kind_in, field_with, field_row, union_field_with, union_field_row, found_of}
use Rattle.schema_laws.proofs.Below.{IsRowThere, AreThere}

-- each row that a kind names is there, where there is a kind
abbrev pub IsWithin : RowCounts → Option KindTree → Type 0
IsWithin total None = Unit {0}
IsWithin total (Some kind) = are_within total kind ≡ true

basic_within : (total : RowCounts) (nullable : Bool) (basic : Basic) → IsWithin total (basic_kind nullable basic)
basic_within total nullable basics.Bool = refl
basic_within total nullable basics.Int8 = refl
basic_within total nullable basics.Int16 = refl
basic_within total nullable basics.Int32 = refl
basic_within total nullable basics.Int64 = refl
basic_within total nullable basics.Uint8 = refl
basic_within total nullable basics.Uint16 = refl
basic_within total nullable basics.Uint32 = refl
basic_within total nullable basics.Uint64 = refl
basic_within total nullable basics.Text = refl
basic_within total nullable basics.Float = tt
basic_within total nullable basics.Double = tt

row_within : (total : RowCounts) (nullable : Bool) (sort : DefinitionSort) (before : Counts)
    → IsRowThere total sort before
    → IsWithin total (row_kind nullable sort before)
row_within total nullable sorts.Struct before there = lt-ltb before.structs total.structs there
row_within total nullable sorts.Union before there = lt-ltb before.unions total.unions there
row_within total nullable sorts.Enum before there = lt-ltb before.enums total.enums there
row_within total nullable sorts.Interface before there = tt
row_within total nullable sorts.Const before there = tt

target_within : (total : RowCounts) (nullable : Bool) (found : Option DefinitionSort) (many : Option Counts)
    → ((sort : DefinitionSort) (before : Counts) → found ≡ Some sort → many ≡ Some before → IsRowThere total sort before)
    → IsWithin total (option_and_then (λ (sort : DefinitionSort). option_and_then (row_kind nullable sort) many) found)
target_within total nullable None many there = tt
target_within total nullable (Some sort) None there = tt
target_within total nullable (Some sort) (Some before) there = row_within total nullable sort before (there sort before refl refl)

meant_within : (rows : List FileRows) (scope : Scope) (total : RowCounts) (nullable : Bool) (found : Option Meant)
    → AreThere rows scope.names total
    → IsWithin total (option_and_then (meant_kind rows scope nullable) found)
meant_within rows scope total nullable None there = tt
meant_within rows scope total nullable (Some (meant.Basic basic)) there = basic_within total nullable basic
meant_within rows scope total nullable (Some (meant.Target target)) there =
    target_within total nullable (sort_of scope.names target) (rows_before_target rows target) (there target)

-- interfaces

-- the row of an interface is there, where there is an interface
abbrev IsInterfaceThere : RowCounts → Option ℕ → Type 0
IsInterfaceThere total None = Unit {0}
IsInterfaceThere total (Some interface) = interface < total.interfaces

sort_there : (total : RowCounts) (sort : DefinitionSort) (before : Counts)
    → IsRowThere total sort before
    → IsInterfaceThere total (interface_at sort before)
sort_there total sorts.Struct before there = tt
sort_there total sorts.Union before there = tt
sort_there total sorts.Enum before there = tt
sort_there total sorts.Interface before there = there
sort_there total sorts.Const before there = tt

target_there : (total : RowCounts) (found : Option DefinitionSort) (many : Option Counts)
    → ((sort : DefinitionSort) (before : Counts) → found ≡ Some sort → many ≡ Some before → IsRowThere total sort before)
    → IsInterfaceThere total (option_and_then (λ (sort : DefinitionSort). option_and_then (interface_at sort) many) found)
target_there total None many there = tt
target_there total (Some sort) None there = tt
target_there total (Some sort) (Some before) there = sort_there total sort before (there sort before refl refl)

found_there : (rows : List FileRows) (scope : Scope) (total : RowCounts) (found : Option Target)
    → AreThere rows scope.names total
    → IsInterfaceThere total (option_and_then (target_interface rows scope) found)
found_there rows scope total None there = tt
found_there rows scope total (Some target) there =
    target_there total (sort_of scope.names target) (rows_before_target rows target) (there target)

end_within : (total : RowCounts) (sort : PendingSort) (nullable : Bool) (interface : ℕ)
    → interface < total.interfaces
    → are_within total (pending_kind sort nullable interface) ≡ true
end_within total pending.Remote nullable interface there = lt-ltb interface total.interfaces there
end_within total pending.Receiver nullable interface there = lt-ltb interface total.interfaces there
end_within total pending.AssociatedRemote nullable interface there = lt-ltb interface total.interfaces there
end_within total pending.AssociatedReceiver nullable interface there = lt-ltb interface total.interfaces there

pending_within : (total : RowCounts) (sort : PendingSort) (nullable : Bool) (found : Option ℕ)
    → IsInterfaceThere total found
    → IsWithin total (option_map (pending_kind sort nullable) found)
pending_within total sort nullable None there = tt
pending_within total sort nullable (Some interface) there = end_within total sort nullable interface there

-- types

array_within : (total : RowCounts) (count : Option ℕ) (nullable : Bool) (found : Option KindTree)
    → IsWithin total found
    → IsWithin total (option_map (λ (k : KindTree). ArrayKind k count nullable) found)
array_within total count nullable None within = tt
array_within total count nullable (Some kind) within = within

map_within : (total : RowCounts) (nullable : Bool) (key value : Option KindTree)
    → IsWithin total key → IsWithin total value
    → IsWithin total (option_and_then (λ (k : KindTree). with_value nullable k value) key)
map_within total nullable None value one two = tt
map_within total nullable (Some key) None one two = tt
map_within total nullable (Some key) (Some value) one two = and_from (are_within total key) (are_within total value) one two

-- each row that the kind of a type names is there
pub base_within : (rows : List FileRows) (scope : Scope) (total : RowCounts) (base : BaseTree) (nullable : Bool)
    → AreThere rows scope.names total
    → IsWithin total (kind_of_base rows scope base nullable)
base_within rows scope total (Named name) nullable there = meant_within rows scope total nullable (meant_in scope name.parts) there
base_within rows scope total (ArrayOf of inner count) nullable there =
    array_within total (count_of count) nullable (kind_of_base rows scope of inner) (base_within rows scope total of inner there)
base_within rows scope total (MapOf key of_key value of_value) nullable there =
    map_within total nullable (kind_of_base rows scope key of_key) (kind_of_base rows scope value of_value)
    (base_within rows scope total key of_key there) (base_within rows scope total value of_value there)
base_within rows scope total (HandleOf sort) nullable there = refl
base_within rows scope total (PendingOf sort interface) nullable there =
    pending_within total sort nullable (interface_number rows scope interface.parts)
    (found_there rows scope total (look_up scope.names scope.file scope.enclosing (dotted interface.parts)) there)

-- members

member_within : (rows : List FileRows) (scope : Scope) (total : RowCounts) (kind : Option TypeTree)
    → AreThere rows scope.names total
    → IsWithin total (kind_in rows scope kind)
member_within rows scope total None there = tt
member_within rows scope total (Some kind) there = base_within rows scope total kind.base kind.nullable there

one_within : {A : Type 0} (total : RowCounts) (make : KindTree → A) (kind : A → KindTree) (found : Option KindTree) (rest : List A)
    → ((k : KindTree) → kind (make k) ≡ k) → IsWithin total found → list_all (are_within total) (map kind rest) ≡ true
    → list_all (are_within total) (map kind (option_to_list (option_map make found) ++ rest)) ≡ true
one_within total make kind None rest same within later = later
one_within total make kind (Some k) rest same within later =
    and_from (are_within total (kind (make k))) (list_all (are_within total) (map kind rest)) (ap (are_within total) (same k) ∙ within) later

-- each row that the kinds of a struct's fields name is there
pub fields_within : (rows : List FileRows) (scope : Scope) (total : RowCounts) (ones : List Numbered)
    → AreThere rows scope.names total
    → list_all (are_within total) (map (λ (f : DraftField). f.kind) (found_of (field_row rows scope) ones)) ≡ true
fields_within rows scope total [] there = refl
fields_within rows scope total (one ∷ ones) there =
    one_within total (field_with scope one.member) (λ (f : DraftField). f.kind) (kind_in rows scope one.member.kind) (found_of (field_row rows scope) ones)
    (λ k. refl) (member_within rows scope total one.member.kind there) (fields_within rows scope total ones there)

-- the same of a union's fields
pub union_fields_within : (rows : List FileRows) (scope : Scope) (total : RowCounts) (ones : List Numbered)
    → AreThere rows scope.names total
    → list_all (are_within total) (map (λ (f : UnionFieldRow). f.kind) (found_of (union_field_row rows scope) ones)) ≡ true
union_fields_within rows scope total [] there = refl
union_fields_within rows scope total (one ∷ ones) there =
    one_within total (union_field_with one) (λ (f : UnionFieldRow). f.kind) (kind_in rows scope one.member.kind)
    (found_of (union_field_row rows scope) ones) (λ k. refl) (member_within rows scope total one.member.kind there)
    (union_fields_within rows scope total ones there)

value_within : (total : RowCounts) (full : List ℕ) (found : Option KindTree) (value : Option Literal)
    → IsWithin total found
    → list_all (are_within total)
    (map (λ (row : ConstRow). row.kind) (option_to_list (option_and_then (λ (k : KindTree). option_map (const_with full k) value) found)))
    ≡ true
value_within total full None value within = refl
value_within total full (Some kind) None within = refl
value_within total full (Some kind) (Some value) within = and_from (are_within total kind) true within refl

-- the same of a constant
pub const_within : (rows : List FileRows) (scope : Scope) (total : RowCounts) (full : List ℕ) (c : Const)
    → AreThere rows scope.names total
    → list_all (are_within total) (map (λ (row : ConstRow). row.kind) (option_to_list (const_row rows scope full c))) ≡ true
const_within rows scope total full c there =
    value_within total full (kind_of rows scope c.kind) (literal_in scope c.value) (base_within rows scope total c.kind.base c.kind.nullable there)
