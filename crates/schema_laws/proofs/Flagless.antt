-- A type in which nothing is refused, and that isn't the type of a field or a parameter, has a kind without a flag.
use Rattle.std.proofs.Common.{◌≡◌, ℕ, List, [], refl, subst}
use Rattle.std.specs.Prelude.{Bool, true, false, ◌&&◌, Option, Some, None, option_and_then}
use Rattle.std.specs.Option.{option_map}
use Rattle.std.proofs.lemmas.Option.{same_Some, none-some}
use Rattle.mojom_ast.specs.declared.names.Identifier.{Identifier}
use Rattle.mojom_ast.specs.declared.types.PendingSort.{PendingSort}
use Rattle.mojom_ast.specs.declared.types.PendingSort.TheVariants as pending
use Rattle.mojom_ast.specs.TypeTrees.{BaseTree, Named, ArrayOf, MapOf, HandleOf, PendingOf}
use Rattle.mojom_files.specs.declared.basic.Basic.{Basic}
use Rattle.mojom_files.specs.declared.basic.Basic.TheVariants as basics
use Rattle.module_resolver.specs.declared.target.DefinitionSort.{DefinitionSort}
use Rattle.module_resolver.specs.declared.target.DefinitionSort.TheVariants as sorts
use Rattle.module_resolver.specs.LookUp.{sort_of}
use Rattle.mj_schema.specs.declared.kind.Width.TheVariants.{Bits8, Bits16, Bits32, Bits64}
use Rattle.mj_schema.specs.KindTrees.{KindTree, BoolKind, IntKind, EnumKind, TextKind, HandleKind, ArrayKind, MapKind, StructKind, UnionKind}
use Rattle.mj_schema.specs.Parts.{has_flag}
use Rattle.draft_rows.specs.declared.counts.Counts.{Counts}
use Rattle.draft_rows.specs.declared.counts.FileRows.{FileRows}
use Rattle.kind_scope.specs.declared.meant.Meant.{Meant}
use Rattle.kind_scope.specs.declared.meant.Meant.TheVariants as meant
use Rattle.kind_scope.specs.Scopes.{Scope, meant_in}
use Rattle.kind_refusals.specs.TypeRefusals.{is_number_basic, is_enum, is_number, refused_in_base}
use Rattle.draft_rows.specs.Kinds.{basic_kind, row_kind, rows_before_target, meant_kind, interface_number, handle_sort, pending_kind, count_of, with_value, kind_of_base}
use Rattle.schema_laws.proofs.Quiet.{both_empty, none_where}

-- a kind that is found has a flag where that which it is has one
same_flag : (flag : Bool) (kind k : KindTree) → ◌≡◌ {A = Option KindTree} (Some kind) (Some k) → has_flag kind ≡ flag → has_flag k ≡ flag
same_flag flag kind k e is = subst (λ (t : KindTree). has_flag t ≡ flag) (same_Some kind k e) is

-- a number that is refused where `?` stands stands without it
number_flag : (nullable : Bool) (kind k : KindTree) → ◌≡◌ {A = Option KindTree} (Some kind) (Some k) → has_flag kind ≡ nullable
    → (nullable && true) ≡ false → has_flag k ≡ false
number_flag true kind k e is quiet = absurd cc
number_flag false kind k e is quiet = same_flag false kind k e is

basic_flag : (nullable : Bool) (b : Basic) (k : KindTree) → basic_kind nullable b ≡ Some k → (nullable && is_number_basic b) ≡ false
    → has_flag k ≡ false
basic_flag nullable basics.Bool k e quiet = number_flag nullable (BoolKind nullable) k e refl quiet
basic_flag nullable basics.Int8 k e quiet = number_flag nullable (IntKind Bits8 true nullable) k e refl quiet
basic_flag nullable basics.Int16 k e quiet = number_flag nullable (IntKind Bits16 true nullable) k e refl quiet
basic_flag nullable basics.Int32 k e quiet = number_flag nullable (IntKind Bits32 true nullable) k e refl quiet
basic_flag nullable basics.Int64 k e quiet = number_flag nullable (IntKind Bits64 true nullable) k e refl quiet
basic_flag nullable basics.Uint8 k e quiet = number_flag nullable (IntKind Bits8 false nullable) k e refl quiet
basic_flag nullable basics.Uint16 k e quiet = number_flag nullable (IntKind Bits16 false nullable) k e refl quiet
basic_flag nullable basics.Uint32 k e quiet = number_flag nullable (IntKind Bits32 false nullable) k e refl quiet
basic_flag nullable basics.Uint64 k e quiet = number_flag nullable (IntKind Bits64 false nullable) k e refl quiet
basic_flag nullable basics.Text k e quiet = same_flag false (TextKind nullable) k e refl
basic_flag nullable basics.Float k e quiet = absurd (none-some k e)
basic_flag nullable basics.Double k e quiet = absurd (none-some k e)

row_flag : (nullable : Bool) (found : Option DefinitionSort) (before : Option Counts) (k : KindTree)
    → option_and_then (λ (s : DefinitionSort). option_and_then (row_kind nullable s) before) found ≡ Some k → (nullable && is_enum found) ≡ false
    → has_flag k ≡ false
row_flag nullable None before k e quiet = absurd (none-some k e)
row_flag nullable (Some sort) None k e quiet = absurd (none-some k e)
row_flag nullable (Some sorts.Struct) (Some counts) k e quiet = same_flag false (StructKind counts.structs nullable) k e refl
row_flag nullable (Some sorts.Union) (Some counts) k e quiet = same_flag false (UnionKind counts.unions nullable) k e refl
row_flag nullable (Some sorts.Enum) (Some counts) k e quiet = number_flag nullable (EnumKind counts.enums nullable) k e refl quiet
row_flag nullable (Some sorts.Interface) (Some counts) k e quiet = absurd (none-some k e)
row_flag nullable (Some sorts.Const) (Some counts) k e quiet = absurd (none-some k e)

name_flag : (rows : List FileRows) (scope : Scope) (nullable : Bool) (found : Option Meant) (k : KindTree)
    → option_and_then (meant_kind rows scope nullable) found ≡ Some k → (nullable && is_number scope found) ≡ false → has_flag k ≡ false
name_flag rows scope nullable None k e quiet = absurd (none-some k e)
name_flag rows scope nullable (Some (meant.Basic b)) k e quiet = basic_flag nullable b k e quiet
name_flag rows scope nullable (Some (meant.Target t)) k e quiet = row_flag nullable (sort_of scope.names t) (rows_before_target rows t) k e quiet

pending_flag : (sort : PendingSort) (nullable : Bool) (interface : ℕ) → has_flag (pending_kind sort nullable interface) ≡ false
pending_flag pending.Remote nullable interface = refl
pending_flag pending.Receiver nullable interface = refl
pending_flag pending.AssociatedRemote nullable interface = refl
pending_flag pending.AssociatedReceiver nullable interface = refl

-- a kind that is made of what is found
map_flag : {A : Type 0} (make : A → KindTree) → ((a : A) → has_flag (make a) ≡ false) → (o : Option A) (k : KindTree) → option_map make o ≡ Some k
    → has_flag k ≡ false
map_flag make each None k e = absurd (none-some k e)
map_flag make each (Some a) k e = same_flag false (make a) k e (each a)

-- a type that isn't that of a field or a parameter
pub no_flag : (rows : List FileRows) (scope : Scope) (member : Identifier) (base : BaseTree) (nullable : Bool)
    → refused_in_base scope member false base nullable ≡ [] → (k : KindTree) → kind_of_base rows scope base nullable ≡ Some k → has_flag k ≡ false
no_flag rows scope member (Named name) nullable e k is =
    name_flag rows scope nullable (meant_in scope name.parts) k is
    (none_where (nullable && is_number scope (meant_in scope name.parts)) _ (both_empty _ _ e).1)
no_flag rows scope member (ArrayOf of inner count) nullable e k is =
    map_flag (λ (t : KindTree). ArrayKind t (count_of count) nullable) (λ t. refl) (kind_of_base rows scope of inner) k is
no_flag rows scope member (MapOf key of_key value of_value) nullable e k is = go (kind_of_base rows scope key of_key) is
  where
    go : (o : Option KindTree) → option_and_then (λ (t : KindTree). with_value nullable t (kind_of_base rows scope value of_value)) o ≡ Some k
        → has_flag k ≡ false
    go None e = absurd (none-some k e)
    go (Some t) e = map_flag (λ (v : KindTree). MapKind t v nullable) (λ v. refl) (kind_of_base rows scope value of_value) k e
no_flag rows scope member (HandleOf sort) nullable e k is = same_flag false (HandleKind (handle_sort sort) nullable) k is refl
no_flag rows scope member (PendingOf sort interface) nullable e k is =
    map_flag (pending_kind sort nullable) (λ n. pending_flag sort nullable n) (interface_number rows scope interface.parts) k is
