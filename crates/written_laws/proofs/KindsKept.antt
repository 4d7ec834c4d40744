-- The kinds of types of whose lengths none is refused are as they are written.
use Rattle.std.proofs.Common.{◌≡◌, ℕ, List, [], refl, subst, arith}
use Rattle.std.specs.Prelude.{Bool, true, false, Option, Some, None, option_and_then}
use Rattle.std.specs.Option.{option_map}
use Rattle.std.proofs.lemmas.Option.{same_Some, none-some}
use Rattle.mojom_ast.specs.TypeTrees.{BaseTree, Named, ArrayOf, MapOf, HandleOf, PendingOf}
use Rattle.mojom_ast.specs.declared.names.Number.{Number}
use Rattle.mojom_ast.specs.declared.types.PendingSort.{PendingSort}
use Rattle.mojom_ast.specs.declared.types.PendingSort.TheVariants as pending
use Rattle.mojom_files.specs.declared.basic.Basic.{Basic}
use Rattle.mojom_files.specs.declared.basic.Basic.TheVariants as basics
use Rattle.module_resolver.specs.declared.target.Target.{Target}
use Rattle.module_resolver.specs.declared.target.DefinitionSort.{DefinitionSort}
use Rattle.module_resolver.specs.declared.target.DefinitionSort.TheVariants as sorts
use Rattle.module_resolver.specs.LookUp.{sort_of}
use Rattle.const_eval.specs.Refused.{refused_length, refused_lengths}
use Rattle.mj_schema.specs.KindTrees.{KindTree, BoolKind, IntKind, EnumKind, TextKind, HandleKind, ArrayKind, MapKind, StructKind, UnionKind}
use Rattle.mj_schema.specs.declared.kind.Width.TheVariants.{Bits8, Bits16, Bits32, Bits64}
use Rattle.draft_rows.specs.declared.counts.Counts.{Counts}
use Rattle.draft_rows.specs.declared.counts.FileRows.{FileRows}
use Rattle.kind_scope.specs.declared.meant.Meant.{Meant}
use Rattle.kind_scope.specs.declared.meant.Meant.TheVariants as meant
use Rattle.kind_scope.specs.Scopes.{Scope, meant_in}
use Rattle.kind_refusals.specs.TypeRefusals.{is_text_basic, is_struct_or_union, is_object}
use Rattle.kind_refusals.specs.OrdinalRefusals.{is_behind}
use Rattle.draft_rows.specs.Kinds.{basic_kind, row_kind, rows_before_target, sort_kind, meant_kind, interface_number, handle_sort, pending_kind, count_of, with_value, kind_of_base}
use Rattle.schema_laws.proofs.Quiet.{both_empty}
use Rattle.mj_schema.specs.Sound.{may_be_null, is_plain}
use Rattle.written_laws.specs.Kinds.{IsLength, IsAsWritten}
use Rattle.written_laws.proofs.Counts.{small_number}
use Rattle.written_laws.proofs.NamedKindsKept.{site_of, named_is, handle_is, end_is}

-- a kind that is found
found_null : (nullable : Bool) (kind k : KindTree) → ◌≡◌ {A = Option KindTree} (Some kind) (Some k) → may_be_null kind ≡ nullable → may_be_null k ≡ nullable
found_null nullable kind k e is = subst (λ (t : KindTree). may_be_null t ≡ nullable) (same_Some kind k e) is

basic_null : (nullable : Bool) (b : Basic) (k : KindTree) → basic_kind nullable b ≡ Some k → may_be_null k ≡ nullable
basic_null nullable basics.Bool k e = found_null nullable (BoolKind nullable) k e refl
basic_null nullable basics.Int8 k e = found_null nullable (IntKind Bits8 true nullable) k e refl
basic_null nullable basics.Int16 k e = found_null nullable (IntKind Bits16 true nullable) k e refl
basic_null nullable basics.Int32 k e = found_null nullable (IntKind Bits32 true nullable) k e refl
basic_null nullable basics.Int64 k e = found_null nullable (IntKind Bits64 true nullable) k e refl
basic_null nullable basics.Uint8 k e = found_null nullable (IntKind Bits8 false nullable) k e refl
basic_null nullable basics.Uint16 k e = found_null nullable (IntKind Bits16 false nullable) k e refl
basic_null nullable basics.Uint32 k e = found_null nullable (IntKind Bits32 false nullable) k e refl
basic_null nullable basics.Uint64 k e = found_null nullable (IntKind Bits64 false nullable) k e refl
basic_null nullable basics.Text k e = found_null nullable (TextKind nullable) k e refl
basic_null nullable basics.Float k e = absurd (none-some k e)
basic_null nullable basics.Double k e = absurd (none-some k e)

row_null : (nullable : Bool) (sort : DefinitionSort) (counts : Counts) (k : KindTree) → row_kind nullable sort counts ≡ Some k → may_be_null k ≡ nullable
row_null nullable sorts.Struct counts k e = found_null nullable (StructKind counts.structs nullable) k e refl
row_null nullable sorts.Union counts k e = found_null nullable (UnionKind counts.unions nullable) k e refl
row_null nullable sorts.Enum counts k e = found_null nullable (EnumKind counts.enums nullable) k e refl
row_null nullable sorts.Interface counts k e = absurd (none-some k e)
row_null nullable sorts.Const counts k e = absurd (none-some k e)

pending_null : (sort : PendingSort) (nullable : Bool) (interface : ℕ) → may_be_null (pending_kind sort nullable interface) ≡ nullable
pending_null pending.Remote nullable interface = refl
pending_null pending.Receiver nullable interface = refl
pending_null pending.AssociatedRemote nullable interface = refl
pending_null pending.AssociatedReceiver nullable interface = refl

-- a kind that is made of what is found
map_null : {A : Type 0} (nullable : Bool) (make : A → KindTree) → ((a : A) → may_be_null (make a) ≡ nullable) → (o : Option A) (k : KindTree)
    → option_map make o ≡ Some k → may_be_null k ≡ nullable
map_null nullable make each None k e = absurd (none-some k e)
map_null nullable make each (Some a) k e = found_null nullable (make a) k e (each a)

-- a bool, an integer or an enum

basic_plain : (nullable : Bool) (b : Basic) (k : KindTree) → basic_kind nullable b ≡ Some k → is_text_basic b ≡ false → is_plain k ≡ true
basic_plain nullable basics.Text k e quiet = absurd cc
basic_plain nullable basics.Float k e quiet = absurd (none-some k e)
basic_plain nullable basics.Double k e quiet = absurd (none-some k e)
basic_plain nullable basics.Bool k e quiet = subst (λ (t : KindTree). is_plain t ≡ true) (same_Some (BoolKind nullable) k e) refl
basic_plain nullable basics.Int8 k e quiet = subst (λ (t : KindTree). is_plain t ≡ true) (same_Some (IntKind Bits8 true nullable) k e) refl
basic_plain nullable basics.Int16 k e quiet = subst (λ (t : KindTree). is_plain t ≡ true) (same_Some (IntKind Bits16 true nullable) k e) refl
basic_plain nullable basics.Int32 k e quiet = subst (λ (t : KindTree). is_plain t ≡ true) (same_Some (IntKind Bits32 true nullable) k e) refl
basic_plain nullable basics.Int64 k e quiet = subst (λ (t : KindTree). is_plain t ≡ true) (same_Some (IntKind Bits64 true nullable) k e) refl
basic_plain nullable basics.Uint8 k e quiet = subst (λ (t : KindTree). is_plain t ≡ true) (same_Some (IntKind Bits8 false nullable) k e) refl
basic_plain nullable basics.Uint16 k e quiet = subst (λ (t : KindTree). is_plain t ≡ true) (same_Some (IntKind Bits16 false nullable) k e) refl
basic_plain nullable basics.Uint32 k e quiet = subst (λ (t : KindTree). is_plain t ≡ true) (same_Some (IntKind Bits32 false nullable) k e) refl
basic_plain nullable basics.Uint64 k e quiet = subst (λ (t : KindTree). is_plain t ≡ true) (same_Some (IntKind Bits64 false nullable) k e) refl

row_plain : (nullable : Bool) (sort : DefinitionSort) (counts : Counts) (k : KindTree) → row_kind nullable sort counts ≡ Some k
    → is_struct_or_union (Some sort) ≡ false → is_plain k ≡ true
row_plain nullable sorts.Struct counts k e quiet = absurd cc
row_plain nullable sorts.Union counts k e quiet = absurd cc
row_plain nullable sorts.Enum counts k e quiet = subst (λ (t : KindTree). is_plain t ≡ true) (same_Some (EnumKind counts.enums nullable) k e) refl
row_plain nullable sorts.Interface counts k e quiet = absurd (none-some k e)
row_plain nullable sorts.Const counts k e quiet = absurd (none-some k e)

-- lengths

length_kept : (file : ℕ) (count : Option Number) → refused_length file count ≡ [] → IsLength count (count_of count)
length_kept file None e = tt
length_kept file (Some written) e = let small = small_number file written.span.start written.value e in omega (arith, small)

module _ (rows : List FileRows) (scope : Scope) where
  rows_null : (nullable : Bool) (sort : DefinitionSort) (counts : Option Counts) (k : KindTree) → option_and_then (row_kind nullable sort) counts ≡ Some k
      → may_be_null k ≡ nullable
  rows_null nullable sort None k e = absurd (none-some k e)
  rows_null nullable sort (Some counts) k e = row_null nullable sort counts k e

  sort_null : (nullable : Bool) (target : Target) (sort : Option DefinitionSort) (k : KindTree)
      → option_and_then (sort_kind rows nullable target) sort ≡ Some k → may_be_null k ≡ nullable
  sort_null nullable target None k e = absurd (none-some k e)
  sort_null nullable target (Some sort) k e = rows_null nullable sort (rows_before_target rows target) k e

  meant_null : (nullable : Bool) (m : Option Meant) (k : KindTree) → option_and_then (meant_kind rows scope nullable) m ≡ Some k → may_be_null k ≡ nullable
  meant_null nullable None k e = absurd (none-some k e)
  meant_null nullable (Some (meant.Basic b)) k e = basic_null nullable b k e
  meant_null nullable (Some (meant.Target t)) k e = sort_null nullable t (sort_of scope.names t) k e

  rows_plain : (nullable : Bool) (sort : DefinitionSort) (counts : Option Counts) (k : KindTree) → option_and_then (row_kind nullable sort) counts ≡ Some k
      → is_struct_or_union (Some sort) ≡ false → is_plain k ≡ true
  rows_plain nullable sort None k e quiet = absurd (none-some k e)
  rows_plain nullable sort (Some counts) k e quiet = row_plain nullable sort counts k e quiet

  sort_plain : (nullable : Bool) (target : Target) (sort : Option DefinitionSort) (k : KindTree)
      → option_and_then (sort_kind rows nullable target) sort ≡ Some k → is_struct_or_union sort ≡ false → is_plain k ≡ true
  sort_plain nullable target None k e quiet = absurd (none-some k e)
  sort_plain nullable target (Some sort) k e quiet = rows_plain nullable sort (rows_before_target rows target) k e quiet

  meant_plain : (nullable : Bool) (m : Option Meant) (k : KindTree) → option_and_then (meant_kind rows scope nullable) m ≡ Some k
      → is_object scope m ≡ false → is_plain k ≡ true
  meant_plain nullable None k e quiet = absurd (none-some k e)
  meant_plain nullable (Some (meant.Basic b)) k e quiet = basic_plain nullable b k e quiet
  meant_plain nullable (Some (meant.Target t)) k e quiet = sort_plain nullable t (sort_of scope.names t) k e quiet

  -- a kind of something that is not behind a pointer is plain
  pub base_plain : (base : BaseTree) (nullable : Bool) (k : KindTree) → kind_of_base rows scope base nullable ≡ Some k → is_behind scope base ≡ false
      → is_plain k ≡ true
  base_plain (Named name) nullable k e quiet = meant_plain nullable (meant_in scope name.parts) k e quiet
  base_plain (ArrayOf of inner count) nullable k e quiet = absurd cc
  base_plain (MapOf key of_key value of_value) nullable k e quiet = absurd cc
  base_plain (HandleOf sort) nullable k e quiet = absurd cc
  base_plain (PendingOf sort interface) nullable k e quiet = absurd cc

  -- a kind may be null where `?` stands
  pub base_null : (base : BaseTree) (nullable : Bool) (k : KindTree) → kind_of_base rows scope base nullable ≡ Some k → may_be_null k ≡ nullable
  base_null (Named name) nullable k e = meant_null nullable (meant_in scope name.parts) k e
  base_null (ArrayOf of inner count) nullable k e =
      map_null nullable (λ (t : KindTree). ArrayKind t (count_of count) nullable) (λ t. refl) (kind_of_base rows scope of inner) k e
  base_null (MapOf key of_key value of_value) nullable k e = go (kind_of_base rows scope key of_key) e
    where
      go : (o : Option KindTree) → option_and_then (λ (t : KindTree). with_value nullable t (kind_of_base rows scope value of_value)) o ≡ Some k
          → may_be_null k ≡ nullable
      go None e = absurd (none-some k e)
      go (Some t) e = map_null nullable (λ (v : KindTree). MapKind t v nullable) (λ v. refl) (kind_of_base rows scope value of_value) k e
  base_null (HandleOf sort) nullable k e = found_null nullable (HandleKind (handle_sort sort) nullable) k e refl
  base_null (PendingOf sort interface) nullable k e =
      map_null nullable (pending_kind sort nullable) (λ n. pending_null sort nullable n) (interface_number rows scope interface.parts) k e

  -- it is as it is written there
  abbrev IsHere : BaseTree → Bool → KindTree → Type 0
  IsHere = IsAsWritten rows (site_of scope)

  array_kept : (of : BaseTree) (inner : Bool) (count : Option Number) (nullable : Bool) (o : Option KindTree)
      → ((element : KindTree) → o ≡ Some element → IsHere of inner element) → IsLength count (count_of count) → (k : KindTree)
      → option_map (λ (t : KindTree). ArrayKind t (count_of count) nullable) o ≡ Some k → IsHere (ArrayOf of inner count) nullable k
  array_kept of inner count nullable None each long k e = absurd (none-some k e)
  array_kept of inner count nullable (Some element) each long k e =
      subst (IsHere (ArrayOf of inner count) nullable) (same_Some (ArrayKind element (count_of count) nullable) k e) (each element refl, long, refl)

  value_kept : (key : BaseTree) (of_key : Bool) (value : BaseTree) (of_value nullable : Bool) (one : KindTree) (o : Option KindTree)
      → IsHere key of_key one → ((other : KindTree) → o ≡ Some other → IsHere value of_value other) → (k : KindTree)
      → with_value nullable one o ≡ Some k → IsHere (MapOf key of_key value of_value) nullable k
  value_kept key of_key value of_value nullable one None is each k e = absurd (none-some k e)
  value_kept key of_key value of_value nullable one (Some other) is each k e =
      subst (IsHere (MapOf key of_key value of_value) nullable) (same_Some (MapKind one other nullable) k e) (is, each other refl, refl)

  map_kept : (key : BaseTree) (of_key : Bool) (value : BaseTree) (of_value nullable : Bool) (o p : Option KindTree)
      → ((one : KindTree) → o ≡ Some one → IsHere key of_key one) → ((other : KindTree) → p ≡ Some other → IsHere value of_value other)
      → (k : KindTree) → option_and_then (λ (t : KindTree). with_value nullable t p) o ≡ Some k → IsHere (MapOf key of_key value of_value) nullable k
  map_kept key of_key value of_value nullable None p first second k e = absurd (none-some k e)
  map_kept key of_key value of_value nullable (Some one) p first second k e =
      value_kept key of_key value of_value nullable one p (first one refl) second k e

  -- the kind of a type of whose lengths none is refused is as it is written
  pub as_written : (file : ℕ) (base : BaseTree) (nullable : Bool) (k : KindTree) → kind_of_base rows scope base nullable ≡ Some k
      → refused_lengths file base ≡ [] → IsAsWritten rows (site_of scope) base nullable k
  as_written file (Named name) nullable k e sizes = (base_null (Named name) nullable k e, named_is rows scope name nullable k e)
  as_written file (ArrayOf of inner count) nullable k e sizes =
      let lengths = both_empty (refused_length file count) (refused_lengths file of) sizes in
      array_kept of inner count nullable (kind_of_base rows scope of inner)
      (λ element is. as_written file of inner element is lengths.1) (length_kept file count lengths.0) k e
  as_written file (MapOf key of_key value of_value) nullable k e sizes =
      let lengths = both_empty (refused_lengths file key) (refused_lengths file value) sizes in
      map_kept key of_key value of_value nullable (kind_of_base rows scope key of_key) (kind_of_base rows scope value of_value)
      (λ one is. as_written file key of_key one is lengths.0) (λ other is. as_written file value of_value other is lengths.1) k e
  as_written file (HandleOf sort) nullable k e sizes =
      subst (IsHere (HandleOf sort) nullable) (same_Some (HandleKind (handle_sort sort) nullable) k e) (refl, handle_is sort)
  as_written file (PendingOf sort interface) nullable k e sizes =
      (base_null (PendingOf sort interface) nullable k e, end_is rows scope sort nullable interface.parts k e)
