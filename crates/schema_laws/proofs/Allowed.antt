-- A type in which nothing is refused has a kind that is allowed, where it has one.
use Rattle.std.proofs.Common.{◌≡◌, ℕ, List, [], refl, subst, arith}
use Rattle.std.specs.Prelude.{Bool, true, false, not, ◌||◌, ◌==◌, nat_lt, min, Option, Some, None, option_and_then}
use Rattle.std.specs.Option.{option_map, option_map_or}
use Rattle.std.proofs.lemmas.Grind.{common_steps}
use Rattle.mojom_ast.specs.declared.names.Identifier.{Identifier}
use Rattle.mojom_ast.specs.declared.names.Number.{Number}
use Rattle.mojom_ast.specs.declared.types.PendingSort.{PendingSort}
use Rattle.mojom_ast.specs.declared.types.PendingSort.TheVariants as pending
use Rattle.mojom_ast.specs.TypeTrees.{BaseTree, Named, ArrayOf, MapOf, HandleOf, PendingOf}
use Rattle.mojom_files.specs.declared.basic.Basic.{Basic}
use Rattle.mojom_files.specs.declared.basic.Basic.TheVariants as basics
use Rattle.mojom_files.specs.Causes.{BadMapKey, NullableKey, ZeroLengthArray}
use Rattle.mojom_files.specs.Refusals.{where_true}
use Rattle.module_resolver.specs.declared.target.DefinitionSort.{DefinitionSort}
use Rattle.module_resolver.specs.declared.target.DefinitionSort.TheVariants as sorts
use Rattle.module_resolver.specs.LookUp.{sort_of}
use Rattle.mj_schema.specs.declared.kind.Width.TheVariants.{Bits8, Bits16, Bits32, Bits64}
use Rattle.mj_schema.specs.KindTrees.{KindTree, BoolKind, IntKind, EnumKind, TextKind, HandleKind, ArrayKind, MapKind, StructKind, UnionKind}
use Rattle.mj_schema.specs.Parts.{has_flag}
use Rattle.mj_schema.specs.WellFormed as schema
use Rattle.mj_schema.specs.WellFormed.{is_allowed}
use Rattle.draft_rows.specs.declared.counts.Counts.{Counts}
use Rattle.draft_rows.specs.declared.counts.FileRows.{FileRows}
use Rattle.kind_scope.specs.declared.meant.Meant.{Meant}
use Rattle.kind_scope.specs.declared.meant.Meant.TheVariants as meant
use Rattle.kind_scope.specs.Scopes.{Scope, meant_in, refused}
use Rattle.kind_refusals.specs.TypeRefusals.{is_number, is_text, is_enum, is_key, is_zero, refused_in_base}
use Rattle.draft_rows.specs.Kinds.{basic_kind, row_kind, meant_kind, rows_before_target, handle_sort, pending_kind, count_of, with_value, kind_of_base}
use Rattle.draft_rows.specs.Kinds.{interface_number}
use Rattle.schema_laws.proofs.Flagless.{no_flag}
use Rattle.schema_laws.proofs.Quiet.{both_empty, none_where}

same_allowed : (one two : KindTree) → Some one ≡ Some two → is_allowed one ≡ true → is_allowed two ≡ true
same_allowed one two e is = let same : one ≡ two = cc in subst (λ (k : KindTree). is_allowed k ≡ true) same is

-- names

basic_allowed : (nullable : Bool) (basic : Basic) (k : KindTree) → basic_kind nullable basic ≡ Some k → is_allowed k ≡ true
basic_allowed nullable basics.Bool k e = same_allowed (BoolKind nullable) k e refl
basic_allowed nullable basics.Int8 k e = same_allowed (IntKind Bits8 true nullable) k e refl
basic_allowed nullable basics.Int16 k e = same_allowed (IntKind Bits16 true nullable) k e refl
basic_allowed nullable basics.Int32 k e = same_allowed (IntKind Bits32 true nullable) k e refl
basic_allowed nullable basics.Int64 k e = same_allowed (IntKind Bits64 true nullable) k e refl
basic_allowed nullable basics.Uint8 k e = same_allowed (IntKind Bits8 false nullable) k e refl
basic_allowed nullable basics.Uint16 k e = same_allowed (IntKind Bits16 false nullable) k e refl
basic_allowed nullable basics.Uint32 k e = same_allowed (IntKind Bits32 false nullable) k e refl
basic_allowed nullable basics.Uint64 k e = same_allowed (IntKind Bits64 false nullable) k e refl
basic_allowed nullable basics.Text k e = same_allowed (TextKind nullable) k e refl
basic_allowed nullable basics.Float k e = absurd cc
basic_allowed nullable basics.Double k e = absurd cc

row_allowed : (nullable : Bool) (found : Option DefinitionSort) (before : Option Counts) (k : KindTree)
    → option_and_then (λ (s : DefinitionSort). option_and_then (row_kind nullable s) before) found ≡ Some k → is_allowed k ≡ true
row_allowed nullable None before k e = absurd cc
row_allowed nullable (Some sort) None k e = absurd cc
row_allowed nullable (Some sorts.Struct) (Some counts) k e = same_allowed (StructKind counts.structs nullable) k e refl
row_allowed nullable (Some sorts.Union) (Some counts) k e = same_allowed (UnionKind counts.unions nullable) k e refl
row_allowed nullable (Some sorts.Enum) (Some counts) k e = same_allowed (EnumKind counts.enums nullable) k e refl
row_allowed nullable (Some sorts.Interface) (Some counts) k e = absurd cc
row_allowed nullable (Some sorts.Const) (Some counts) k e = absurd cc

name_allowed : (rows : List FileRows) (scope : Scope) (nullable : Bool) (found : Option Meant) (k : KindTree)
    → option_and_then (meant_kind rows scope nullable) found ≡ Some k → is_allowed k ≡ true
name_allowed rows scope nullable None k e = absurd cc
name_allowed rows scope nullable (Some (meant.Basic basic)) k e = basic_allowed nullable basic k e
name_allowed rows scope nullable (Some (meant.Target target)) k e =
    row_allowed nullable (sort_of scope.names target) (rows_before_target rows target) k e

-- keys

same_key : (one two : KindTree) → Some one ≡ Some two → schema.is_key one ≡ true → schema.is_key two ≡ true
same_key one two e is = let same : one ≡ two = cc in subst (λ (k : KindTree). schema.is_key k ≡ true) same is

key_basic : (scope : Scope) (basic : Basic) (k : KindTree)
    → (is_number scope (Some (meant.Basic basic)) || is_text (Some (meant.Basic basic))) ≡ true
    → basic_kind false basic ≡ Some k → schema.is_key k ≡ true
key_basic scope basics.Bool k e is = same_key (BoolKind false) k is refl
key_basic scope basics.Int8 k e is = same_key (IntKind Bits8 true false) k is refl
key_basic scope basics.Int16 k e is = same_key (IntKind Bits16 true false) k is refl
key_basic scope basics.Int32 k e is = same_key (IntKind Bits32 true false) k is refl
key_basic scope basics.Int64 k e is = same_key (IntKind Bits64 true false) k is refl
key_basic scope basics.Uint8 k e is = same_key (IntKind Bits8 false false) k is refl
key_basic scope basics.Uint16 k e is = same_key (IntKind Bits16 false false) k is refl
key_basic scope basics.Uint32 k e is = same_key (IntKind Bits32 false false) k is refl
key_basic scope basics.Uint64 k e is = same_key (IntKind Bits64 false false) k is refl
key_basic scope basics.Text k e is = same_key (TextKind false) k is refl
key_basic scope basics.Float k e is = absurd cc
key_basic scope basics.Double k e is = absurd cc

key_row : (found : Option DefinitionSort) (before : Option Counts) (k : KindTree) → (is_enum found || false) ≡ true
    → option_and_then (λ (s : DefinitionSort). option_and_then (row_kind false s) before) found ≡ Some k → schema.is_key k ≡ true
key_row None before k e is = absurd cc
key_row (Some sorts.Enum) None k e is = absurd cc
key_row (Some sorts.Enum) (Some counts) k e is = same_key (EnumKind counts.enums false) k is refl
key_row (Some sorts.Struct) before k e is = absurd cc
key_row (Some sorts.Union) before k e is = absurd cc
key_row (Some sorts.Interface) before k e is = absurd cc
key_row (Some sorts.Const) before k e is = absurd cc

key_meant : (rows : List FileRows) (scope : Scope) (found : Option Meant) (k : KindTree) → (is_number scope found || is_text found) ≡ true
    → option_and_then (meant_kind rows scope false) found ≡ Some k → schema.is_key k ≡ true
key_meant rows scope None k e is = absurd cc
key_meant rows scope (Some (meant.Basic basic)) k e is = key_basic scope basic k e is
key_meant rows scope (Some (meant.Target target)) k e is = key_row (sort_of scope.names target) (rows_before_target rows target) k e is

-- a key type without `?` has a kind of keys
key_kind : (rows : List FileRows) (scope : Scope) (key : BaseTree) (k : KindTree) → is_key scope key ≡ true
    → kind_of_base rows scope key false ≡ Some k → schema.is_key k ≡ true
key_kind rows scope (Named name) k e is = key_meant rows scope (meant_in scope name.parts) k e is
key_kind rows scope (ArrayOf of inner count) k e is = absurd cc
key_kind rows scope (MapOf key of_key value of_value) k e is = absurd cc
key_kind rows scope (HandleOf sort) k e is = absurd cc
key_kind rows scope (PendingOf sort interface) k e is = absurd cc

-- types

held_above : (n : ℕ) → (n == 0) ≡ false → nat_lt 0 (min n 4294967295) ≡ true
held_above n e = grind (arith, common_steps)

count_is : (count : Option Number) → is_zero count ≡ false → option_map_or (nat_lt 0) (count_of count) true ≡ true
count_is None e = refl
count_is (Some n) e = held_above n.value e

not_false : (b : Bool) → not b ≡ false → b ≡ true
not_false true e = refl
not_false false e = absurd cc

end_allowed : (sort : PendingSort) (nullable : Bool) (interface : ℕ) → is_allowed (pending_kind sort nullable interface) ≡ true
end_allowed pending.Remote nullable interface = refl
end_allowed pending.Receiver nullable interface = refl
end_allowed pending.AssociatedRemote nullable interface = refl
end_allowed pending.AssociatedReceiver nullable interface = refl

ends_allowed : (sort : PendingSort) (nullable : Bool) (found : Option ℕ) (k : KindTree)
    → option_map (pending_kind sort nullable) found ≡ Some k → is_allowed k ≡ true
ends_allowed sort nullable None k e = absurd cc
ends_allowed sort nullable (Some interface) k e = same_allowed (pending_kind sort nullable interface) k e (end_allowed sort nullable interface)

array_allowed : (nullable : Bool) (count : Option Number) (found : Option KindTree) (k : KindTree)
    → option_map (λ (of : KindTree). ArrayKind of (count_of count) nullable) found ≡ Some k
    → is_zero count ≡ false → ((of : KindTree) → found ≡ Some of → has_flag of ≡ false) → ((of : KindTree) → found ≡ Some of → is_allowed of ≡ true)
    → is_allowed k ≡ true
array_allowed nullable count None k e zero flagless is = absurd cc
array_allowed nullable count (Some of) k e zero flagless is =
    let good : is_allowed (ArrayKind of (count_of count) nullable) ≡ true = rw (count_is count zero, flagless of refl) (is of refl) in
    same_allowed (ArrayKind of (count_of count) nullable) k e good

map_allowed : (nullable : Bool) (key value : Option KindTree) (k : KindTree)
    → option_and_then (λ (one : KindTree). with_value nullable one value) key ≡ Some k
    → ((one : KindTree) → key ≡ Some one → schema.is_key one ≡ true) → ((one : KindTree) → key ≡ Some one → is_allowed one ≡ true)
    → ((one : KindTree) → value ≡ Some one → has_flag one ≡ false) → ((one : KindTree) → value ≡ Some one → is_allowed one ≡ true)
    → is_allowed k ≡ true
map_allowed nullable None value k e is_one good_key flagless good_value = absurd cc
map_allowed nullable (Some one) None k e is_one good_key flagless good_value = absurd cc
map_allowed nullable (Some one) (Some two) k e is_one good_key flagless good_value =
    let good : is_allowed (MapKind one two nullable) ≡ true = rw (is_one one refl, good_key one refl, flagless two refl) (good_value two refl) in
    same_allowed (MapKind one two nullable) k e good

pub allowed_base : (rows : List FileRows) (scope : Scope) (member : Identifier) (field : Bool) (base : BaseTree) (nullable : Bool)
    → refused_in_base scope member field base nullable ≡ [] → (k : KindTree) → kind_of_base rows scope base nullable ≡ Some k → is_allowed k ≡ true
allowed_base rows scope member field (Named name) nullable e k is = name_allowed rows scope nullable (meant_in scope name.parts) k is
allowed_base rows scope member field (ArrayOf of inner count) nullable e k is =
    let parts = both_empty (where_true (is_zero count) (refused scope member (ZeroLengthArray member.text)))
    (refused_in_base scope member false of inner) e in
    let zero = none_where (is_zero count) (refused scope member (ZeroLengthArray member.text)) parts.0 in
    array_allowed nullable count (kind_of_base rows scope of inner) k is zero (no_flag rows scope member of inner parts.1)
    (allowed_base rows scope member false of inner parts.1)
allowed_base rows scope member field (MapOf key of_key value of_value) nullable e k is =
    let one = both_empty _ _ e in
    let two = both_empty _ _ one.1 in
    let three = both_empty (refused_in_base scope member true key of_key) (refused_in_base scope member false value of_value) two.1 in
    let plain : of_key ≡ false = none_where of_key (refused scope member (NullableKey member.text)) two.0 in
    let is_one : is_key scope key ≡ true =
    not_false (is_key scope key) (none_where (not (is_key scope key)) (refused scope member (BadMapKey member.text)) one.0) in
    map_allowed nullable (kind_of_base rows scope key of_key) (kind_of_base rows scope value of_value) k is (λ one found.
    key_kind rows scope key one is_one (subst (λ (b : Bool). kind_of_base rows scope key b ≡ Some one) plain found))
    (allowed_base rows scope member true key of_key three.0)
    (no_flag rows scope member value of_value three.1)
    (allowed_base rows scope member false value of_value three.1)
allowed_base rows scope member field (HandleOf sort) nullable e k is = same_allowed (HandleKind (handle_sort sort) nullable) k is refl
allowed_base rows scope member field (PendingOf sort interface) nullable e k is =
    ends_allowed sort nullable (interface_number rows scope interface.parts) k is
