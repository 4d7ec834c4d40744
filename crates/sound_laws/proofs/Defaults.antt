-- Fields of which nothing is refused: a late one that has no default may be null or is a number, and a default is of its field's kind.
use Rattle.std.proofs.Common.{◌≡◌, ◌<◌, ◌≤◌, ℕ, suc, ℤ, pos, negsuc, Bool, true, false, List, [], ◌∷◌, refl, sym, ap, subst, ◌∙◌, arith}
use Rattle.std.specs.Prelude.{◌&&◌, ◌||◌, ◌+ℤ◌, int_le, not, cond, if◌then◌else◌, nat_le, nat_lt, Option, Some, None, option_and_then}
use Rattle.std.specs.Int.{int_max}
use Rattle.std.specs.List.{AllByRecursion}
use Rattle.std.specs.Option.{option_map, option_map_or, option_or}
use Rattle.std.proofs.lemmas.Bool.{and_parts, lt-ltb, le-leb}
use Rattle.std.proofs.lemmas.Bool.Decides.{nat_tests}
use Rattle.mojom_ast.specs.TypeTrees.{BaseTree, Named, ArrayOf, MapOf, HandleOf, PendingOf, TypeTree}
use Rattle.mojom_ast.specs.declared.definitions.Enumerator.{Enumerator}
use Rattle.mojom_ast.specs.declared.definitions.Field.{Field}
use Rattle.mojom_ast.specs.declared.names.Identifier.{Identifier}
use Rattle.mojom_ast.specs.declared.names.Value.{Value}
use Rattle.mojom_ast.specs.declared.types.PendingSort.{PendingSort}
use Rattle.mojom_ast.specs.declared.types.PendingSort.TheVariants as pending
use Rattle.mojom_files.specs.Names.{dotted}
use Rattle.mojom_files.specs.Refusals.{where_true}
use Rattle.mojom_files.specs.declared.basic.Basic.{Basic}
use Rattle.mojom_files.specs.declared.basic.Basic.TheVariants as basics
use Rattle.mojom_files.specs.declared.refusal.Refusal.{Refusal}
use Rattle.module_resolver.specs.LookUp.{look_up, sort_of}
use Rattle.module_resolver.specs.declared.target.DefinitionSort.{DefinitionSort}
use Rattle.module_resolver.specs.declared.target.DefinitionSort.TheVariants as sorts
use Rattle.module_resolver.specs.declared.target.Target.{Target}
use Rattle.const_eval.specs.Kinds.{basic_of_base, basic_of_parts, is_within, signed_bits, unsigned_bits, wrong_literal}
use Rattle.const_meanings.specs.Known.{Known, TextValue, BoolValue, NumberValue, FloatValue}
use Rattle.const_eval.specs.declared.kinds.Range.{Range}
use Rattle.const_eval.specs.Refused.{Site, is_enumerator_of, meant_by_base, meant_by_value, place_of_value, refused_default}
use Rattle.const_eval.specs.Refused.{is_string, refused_default_as, refused_default_by, refused_enum_default}
use Rattle.const_eval.specs.declared.file_things.FileThings.{FileThings}
use Rattle.mj_schema.specs.KindTrees as kinds
use Rattle.mj_schema.specs.KindTrees.{KindTree}
use Rattle.mj_schema.specs.Parts.{has_flag}
use Rattle.mj_schema.specs.Sizes.{bits_of}
use Rattle.mj_schema.specs.Sound.{in_bits, is_plain, may_be_null}
use Rattle.mj_schema.specs.declared.kind.Width.{Width}
use Rattle.mj_schema.specs.declared.kind.Width.TheVariants.{Bits8, Bits16, Bits32, Bits64}
use Rattle.mj_schema.specs.declared.rows.DraftField.{DraftField}
use Rattle.mj_schema.specs.declared.rows.Literal.{Literal}
use Rattle.mj_schema.specs.declared.rows.Literal.TheVariants as literals
use Rattle.draft_rows.specs.Kinds.{kind_of_base, basic_kind, handle_sort, meant_kind, row_kind, rows_before_target, sort_kind, pending_kind, with_value}
use Rattle.draft_rows.specs.Kinds.{count_of}
use Rattle.kind_scope.specs.Members.{Member, Numbered}
use Rattle.kind_refusals.specs.OrdinalRefusals.{is_behind, needs_null, refused_late}
use Rattle.kind_scope.specs.Scopes.{known_in, Scope, meant_in}
use Rattle.kind_scope.specs.Versions.{version_of}
use Rattle.draft_rows.specs.Rows.{Valued, field_row, field_with, held_signed, kind_in, literal_in, literal_of, number_at, valued_from, whole_or}
use Rattle.kind_refusals.specs.TypeRefusals.{is_object, is_struct_or_union}
use Rattle.draft_rows.specs.declared.counts.Counts.{Counts}
use Rattle.draft_rows.specs.declared.counts.FileRows.{FileRows}
use Rattle.kind_scope.specs.declared.meant.Meant.{Meant}
use Rattle.kind_scope.specs.declared.meant.Meant.TheVariants as meant
use Rattle.schema_laws.proofs.Quiet.{none_where}
use Rattle.written_laws.proofs.Fields.{string_text, text_only}
use Rattle.written_laws.proofs.KindsKept.{base_null}

-- a kind that is a bool, an integer or an enum, or that may be null
abbrev pub absentable : KindTree → Bool
absentable k = is_plain k || may_be_null k

-- a literal of a bool, an integer in its range, or a text, where the kind is one of these, and else what is said of other kinds
abbrev pub Holds : (KindTree → Literal → Type 0) → KindTree → Literal → Type 0
Holds Other (kinds.BoolKind nullable) literal = (b : Bool) × (literal ≡ literals.Bool b)
Holds Other (kinds.IntKind width signed nullable) literal = (n : ℤ) × (literal ≡ literals.Whole n) × (in_bits signed (bits_of width) n ≡ true)
Holds Other (kinds.TextKind nullable) literal = (bytes : List ℕ) × (literal ≡ literals.Text bytes)
Holds Other k literal = Other k literal

-- what is asked of a field
pub record IsFine (Other : KindTree → Literal → Type 0) (field : DraftField) : Type 0 where
  pub absent : 0 < field.min_version → absentable field.kind ≡ true
  pub given : (literal : Literal) → field.default ≡ Some literal → Holds Other field.kind literal
  pub flagless : (literal : Literal) → field.default ≡ Some literal → has_flag field.kind ≡ false

-- ## Kinds

-- where nothing behind may be null, what stands there is null
nulls : (nullable : Bool) → (not nullable && true) ≡ false → nullable ≡ true
nulls true e = refl
nulls false e = absurd cc

module _ (rows : List FileRows) (scope : Scope) where
  basic_absent : (nullable : Bool) (basic : Basic) (k : KindTree) → basic_kind nullable basic ≡ Some k
      → (not nullable && is_object scope (Some (meant.Basic basic))) ≡ false → absentable k ≡ true
  basic_absent nullable basics.Bool k is e = let same : kinds.BoolKind nullable ≡ k = cc in subst (λ k. absentable k ≡ true) same refl
  basic_absent nullable basics.Int8 k is e = let same : kinds.IntKind Bits8 true nullable ≡ k = cc in subst (λ k. absentable k ≡ true) same refl
  basic_absent nullable basics.Int16 k is e = let same : kinds.IntKind Bits16 true nullable ≡ k = cc in subst (λ k. absentable k ≡ true) same refl
  basic_absent nullable basics.Int32 k is e = let same : kinds.IntKind Bits32 true nullable ≡ k = cc in subst (λ k. absentable k ≡ true) same refl
  basic_absent nullable basics.Int64 k is e = let same : kinds.IntKind Bits64 true nullable ≡ k = cc in subst (λ k. absentable k ≡ true) same refl
  basic_absent nullable basics.Uint8 k is e = let same : kinds.IntKind Bits8 false nullable ≡ k = cc in subst (λ k. absentable k ≡ true) same refl
  basic_absent nullable basics.Uint16 k is e = let same : kinds.IntKind Bits16 false nullable ≡ k = cc in subst (λ k. absentable k ≡ true) same refl
  basic_absent nullable basics.Uint32 k is e = let same : kinds.IntKind Bits32 false nullable ≡ k = cc in subst (λ k. absentable k ≡ true) same refl
  basic_absent nullable basics.Uint64 k is e = let same : kinds.IntKind Bits64 false nullable ≡ k = cc in subst (λ k. absentable k ≡ true) same refl
  basic_absent nullable basics.Text k is e =
      let same : kinds.TextKind nullable ≡ k = cc in subst (λ k. absentable k ≡ true) same (nulls nullable e)
  basic_absent nullable basics.Float k is e = absurd cc
  basic_absent nullable basics.Double k is e = absurd cc

  row_absent : (nullable : Bool) (sort : DefinitionSort) (o : Option Counts) (k : KindTree) → option_and_then (row_kind nullable sort) o ≡ Some k
      → (not nullable && is_struct_or_union (Some sort)) ≡ false → absentable k ≡ true
  row_absent nullable sort None k is e = absurd cc
  row_absent nullable sorts.Struct (Some c) k is e =
      let same : kinds.StructKind c.structs nullable ≡ k = cc in subst (λ k. absentable k ≡ true) same (nulls nullable e)
  row_absent nullable sorts.Union (Some c) k is e =
      let same : kinds.UnionKind c.unions nullable ≡ k = cc in subst (λ k. absentable k ≡ true) same (nulls nullable e)
  row_absent nullable sorts.Enum (Some c) k is e = let same : kinds.EnumKind c.enums nullable ≡ k = cc in subst (λ k. absentable k ≡ true) same refl
  row_absent nullable sorts.Interface (Some c) k is e = absurd cc
  row_absent nullable sorts.Const (Some c) k is e = absurd cc

  target_absent : (nullable : Bool) (target : Target) (s : Option DefinitionSort) (k : KindTree)
      → option_and_then (sort_kind rows nullable target) s ≡ Some k → (not nullable && is_struct_or_union s) ≡ false → absentable k ≡ true
  target_absent nullable target None k is e = absurd cc
  target_absent nullable target (Some sort) k is e = row_absent nullable sort (rows_before_target rows target) k is e

  named_absent : (nullable : Bool) (m : Option Meant) (k : KindTree) → option_and_then (meant_kind rows scope nullable) m ≡ Some k
      → (not nullable && is_object scope m) ≡ false → absentable k ≡ true
  named_absent nullable None k is e = absurd cc
  named_absent nullable (Some (meant.Basic basic)) k is e = basic_absent nullable basic k is e
  named_absent nullable (Some (meant.Target target)) k is e = target_absent nullable target (sort_of scope.names target) k is e

  array_absent : (nullable : Bool) (count : Option ℕ) (o : Option KindTree) (k : KindTree)
      → option_map (λ (of : KindTree). kinds.ArrayKind of count nullable) o ≡ Some k → nullable ≡ true → absentable k ≡ true
  array_absent nullable count None k is e = absurd cc
  array_absent nullable count (Some of) k is e =
      let same : kinds.ArrayKind of count nullable ≡ k = cc in subst (λ k. absentable k ≡ true) same e

  map_absent : (nullable : Bool) (o p : Option KindTree) (k : KindTree) → option_and_then (λ (key : KindTree). with_value nullable key p) o ≡ Some k
      → nullable ≡ true → absentable k ≡ true
  map_absent nullable None p k is e = absurd cc
  map_absent nullable (Some key) None k is e = absurd cc
  map_absent nullable (Some key) (Some one) k is e =
      let same : kinds.MapKind key one nullable ≡ k = cc in subst (λ k. absentable k ≡ true) same e

  end_absent : (sort : PendingSort) (nullable : Bool) (interface : ℕ) → nullable ≡ true → absentable (pending_kind sort nullable interface) ≡ true
  end_absent pending.Remote nullable interface e = e
  end_absent pending.Receiver nullable interface e = e
  end_absent pending.AssociatedRemote nullable interface e = e
  end_absent pending.AssociatedReceiver nullable interface e = e

  pending_absent : (sort : PendingSort) (nullable : Bool) (o : Option ℕ) (k : KindTree) → option_map (pending_kind sort nullable) o ≡ Some k
      → nullable ≡ true → absentable k ≡ true
  pending_absent sort nullable None k is e = absurd cc
  pending_absent sort nullable (Some interface) k is e =
      let same : pending_kind sort nullable interface ≡ k = cc in subst (λ k. absentable k ≡ true) same (end_absent sort nullable interface e)

  -- a kind that needs no null
  kind_absent : (base : BaseTree) (nullable : Bool) (k : KindTree) → kind_of_base rows scope base nullable ≡ Some k
      → (not nullable && is_behind scope base) ≡ false → absentable k ≡ true
  kind_absent (Named name) nullable k is e = named_absent nullable (meant_in scope name.parts) k is e
  kind_absent (ArrayOf of inner count) nullable k is e =
      array_absent nullable (count_of count) (kind_of_base rows scope of inner) k is (nulls nullable e)
  kind_absent (MapOf key of_key one of_value) nullable k is e =
      map_absent nullable (kind_of_base rows scope key of_key) (kind_of_base rows scope one of_value) k is (nulls nullable e)
  kind_absent (HandleOf sort) nullable k is e =
      let same : kinds.HandleKind (handle_sort sort) nullable ≡ k = cc in subst (λ k. absentable k ≡ true) same (nulls nullable e)
  kind_absent (PendingOf sort interface) nullable k is e = pending_absent sort nullable _ k is (nulls nullable e)

  -- ## Late fields

  none_needed : (v needs : Bool) → (v && needs) ≡ false → v ≡ true → needs ≡ false
  none_needed true needs e is = e
  none_needed false needs e is = absurd cc

  late : (one : Numbered) (k : KindTree) → refused_late scope one ≡ [] → kind_in rows scope one.member.kind ≡ Some k
      → 0 < version_of scope one.member → absentable k ≡ true
  late one k quiet is after = of one.member.kind (none_needed (nat_lt 0 (version_of scope one.member)) (needs_null scope one.member.kind)
      (none_where (nat_lt 0 (version_of scope one.member) && needs_null scope one.member.kind) _ quiet)
      (lt-ltb 0 (version_of scope one.member) after)) is
    where
      of : (o : Option TypeTree) → needs_null scope o ≡ false → kind_in rows scope o ≡ Some k → absentable k ≡ true
      of None e is = absurd cc
      of (Some type) e is = kind_absent type.base type.nullable k is e

-- ## Numbers

pub at_most : (n m : ℕ) → nat_le n m ≡ true → n < suc m
at_most n m e = grind (arith, nat_tests)

-- both bounds of a number within a range
pub within_parts : (r : Range) (n : ℤ) → is_within r n ≡ true → (int_le r.least n ≡ true) × (int_le n r.greatest ≡ true)
within_parts r n e = and_parts (int_le r.least n) (int_le n r.greatest) e

-- the range of an integer
abbrev pub range : Width → Bool → Range
range Bits8 true = signed_bits 8
range Bits16 true = signed_bits 16
range Bits32 true = signed_bits 32
range Bits64 true = signed_bits 64
range Bits8 false = unsigned_bits 8
range Bits16 false = unsigned_bits 16
range Bits32 false = unsigned_bits 32
range Bits64 false = unsigned_bits 64

in_range : (w : Width) (signed : Bool) (n : ℤ) → is_within (range w signed) n ≡ true → in_bits signed (bits_of w) n ≡ true
in_range Bits8 true n e = e
in_range Bits16 true n e = e
in_range Bits32 true n e = e
in_range Bits64 true n e = e
in_range Bits8 false n e = e
in_range Bits16 false n e = e
in_range Bits32 false n e = e
in_range Bits64 false n e = e

pub true_of : (b : Bool) → not b ≡ false → b ≡ true
true_of true e = refl
true_of false e = absurd cc

-- ## Defaults

-- an integer of which nothing is refused
whole_holds : (Other : KindTree → Literal → Type 0) (w : Width) (signed nullable test : Bool) (number : ℤ) (k : KindTree) (literal : Literal)
    (refusal : Refusal)
    → test ≡ is_within (range w signed) number → where_true (not test) refusal ≡ []
    → ◌≡◌ {A = Option KindTree} (Some (kinds.IntKind w signed nullable)) (Some k)
    → ◌≡◌ {A = Option Literal} (Some (literals.Whole number)) (Some literal)
    → Holds Other k literal
whole_holds Other w signed nullable test number k literal refusal tested e is l =
    let same : kinds.IntKind w signed nullable ≡ k = cc in
    let whole : literals.Whole number ≡ literal = cc in
    let within : is_within (range w signed) number ≡ true = sym tested ∙ true_of test (none_where (not test) refusal e) in
    subst (λ k. Holds Other k literal) same (number, sym whole, in_range w signed number within)

module _ (Other : KindTree → Literal → Type 0) (file : ℕ) (name : Identifier) (at : ℕ) (nullable : Bool) where
  abbrev Given : Basic → Known → Type 0
  Given basic known =
      (k : KindTree) (literal : Literal) → refused_default_as file name at basic (Some known) ≡ [] → basic_kind nullable basic ≡ Some k
      → literal_of known ≡ Some literal → Holds Other k literal

  basic_holds : (basic : Basic) (known : Known) → Given basic known
  basic_holds basics.Float known k literal e is l = absurd cc
  basic_holds basics.Double known k literal e is l = absurd cc
  basic_holds basics.Bool (BoolValue b) k literal e is l =
      let same : kinds.BoolKind nullable ≡ k = cc in let flag : literals.Bool b ≡ literal = cc in subst (λ k. Holds Other k literal) same (b, sym flag)
  basic_holds basics.Bool (TextValue bytes) k literal e is l = absurd cc
  basic_holds basics.Bool (NumberValue n) k literal e is l = absurd cc
  basic_holds basics.Bool FloatValue k literal e is l = absurd cc
  basic_holds basics.Text (TextValue bytes) k literal e is l =
      let same : kinds.TextKind nullable ≡ k = cc in
      let text : literals.Text bytes ≡ literal = cc in subst (λ k. Holds Other k literal) same (bytes, sym text)
  basic_holds basics.Text (BoolValue b) k literal e is l = absurd cc
  basic_holds basics.Text (NumberValue n) k literal e is l = absurd cc
  basic_holds basics.Text FloatValue k literal e is l = absurd cc
  basic_holds basics.Int8 (NumberValue n) k literal e is l = whole_holds Other Bits8 true nullable (is_within (signed_bits 8) n) n k literal _ refl e is l
  basic_holds basics.Int16 (NumberValue n) k literal e is l = whole_holds Other Bits16 true nullable (is_within (signed_bits 16) n) n k literal _ refl e is l
  basic_holds basics.Int32 (NumberValue n) k literal e is l = whole_holds Other Bits32 true nullable (is_within (signed_bits 32) n) n k literal _ refl e is l
  basic_holds basics.Int64 (NumberValue n) k literal e is l = whole_holds Other Bits64 true nullable (is_within (signed_bits 64) n) n k literal _ refl e is l
  basic_holds basics.Uint8 (NumberValue n) k literal e is l = whole_holds Other Bits8 false nullable (is_within (unsigned_bits 8) n) n k literal _ refl e is l
  basic_holds basics.Uint16 (NumberValue n) k literal e is l =
      whole_holds Other Bits16 false nullable (is_within (unsigned_bits 16) n) n k literal _ refl e is l
  basic_holds basics.Uint32 (NumberValue n) k literal e is l =
      whole_holds Other Bits32 false nullable (is_within (unsigned_bits 32) n) n k literal _ refl e is l
  basic_holds basics.Uint64 (NumberValue n) k literal e is l =
      whole_holds Other Bits64 false nullable (is_within (unsigned_bits 64) n) n k literal _ refl e is l
  basic_holds basics.Int8 (TextValue b) k literal e is l = absurd cc
  basic_holds basics.Int16 (TextValue b) k literal e is l = absurd cc
  basic_holds basics.Int32 (TextValue b) k literal e is l = absurd cc
  basic_holds basics.Int64 (TextValue b) k literal e is l = absurd cc
  basic_holds basics.Uint8 (TextValue b) k literal e is l = absurd cc
  basic_holds basics.Uint16 (TextValue b) k literal e is l = absurd cc
  basic_holds basics.Uint32 (TextValue b) k literal e is l = absurd cc
  basic_holds basics.Uint64 (TextValue b) k literal e is l = absurd cc
  basic_holds basics.Int8 (BoolValue b) k literal e is l = absurd cc
  basic_holds basics.Int16 (BoolValue b) k literal e is l = absurd cc
  basic_holds basics.Int32 (BoolValue b) k literal e is l = absurd cc
  basic_holds basics.Int64 (BoolValue b) k literal e is l = absurd cc
  basic_holds basics.Uint8 (BoolValue b) k literal e is l = absurd cc
  basic_holds basics.Uint16 (BoolValue b) k literal e is l = absurd cc
  basic_holds basics.Uint32 (BoolValue b) k literal e is l = absurd cc
  basic_holds basics.Uint64 (BoolValue b) k literal e is l = absurd cc
  basic_holds basics.Int8 FloatValue k literal e is l = absurd cc
  basic_holds basics.Int16 FloatValue k literal e is l = absurd cc
  basic_holds basics.Int32 FloatValue k literal e is l = absurd cc
  basic_holds basics.Int64 FloatValue k literal e is l = absurd cc
  basic_holds basics.Uint8 FloatValue k literal e is l = absurd cc
  basic_holds basics.Uint16 FloatValue k literal e is l = absurd cc
  basic_holds basics.Uint32 FloatValue k literal e is l = absurd cc
  basic_holds basics.Uint64 FloatValue k literal e is l = absurd cc

-- where the values of a scope are tested
abbrev pub site_of : Scope → Site
site_of scope = record { consts = scope.consts; names = scope.names; file = scope.file }

-- what a default of a type of another name is, where that means an enum, and the default one of its enumerators
abbrev pub NamesHold : (KindTree → Literal → Type 0) → List FileRows → Scope → Type 0
NamesHold Other rows scope =
    (t : Option Target) (nullable : Bool) (k : KindTree) (value : Value) (known : Known) (literal : Literal)
    → option_and_then (meant_kind rows scope nullable) (option_map meant.Target t) ≡ Some k
    → is_enumerator_of scope.consts.files t (meant_by_value (site_of scope) scope.enclosing value) ≡ true
    → known_in scope value ≡ Some known → literal_of known ≡ Some literal → Holds Other k literal

module _ (Other : KindTree → Literal → Type 0) (rows : List FileRows) (scope : Scope) where
  -- a member's default is of the member's kind, which has no flag
  abbrev pub HasDefault : Member → Type 0
  HasDefault member =
      (k : KindTree) (literal : Literal) → kind_in rows scope member.kind ≡ Some k → option_and_then (literal_in scope) member.default ≡ Some literal
      → Holds Other k literal × (has_flag k ≡ false)

  -- a field's row
  pub field_fine : (one : Numbered) (field : DraftField) → (refused_late scope one ≡ []) × HasDefault one.member → field_row rows scope one ≡ Some field
      → IsFine Other field
  field_fine one field quiet is = of (kind_in rows scope one.member.kind) refl is
    where
      of : (o : Option KindTree) → kind_in rows scope one.member.kind ≡ o → option_map (field_with scope one.member) o ≡ Some field → IsFine Other field
      of None found is = absurd cc
      of (Some k) found is =
          let same : field_with scope one.member k ≡ field = cc in
          subst (IsFine Other) same
          (record {
            absent = λ after. late rows scope one k quiet.0 found after;
            given = λ literal e. (quiet.1 k literal found e).0;
            flagless = λ literal e. (quiet.1 k literal found e).1;
          })

-- a default that is let through passes the test of its kind
let_through : (b : Bool) (refusal : Refusal) (rest : List Refusal) → (if b then refusal ∷ [] else rest) ≡ [] → rest ≡ []
let_through true refusal rest e = absurd cc
let_through false refusal rest e = e

-- one that is refused so is none
not_so : (b : Bool) (refusal : Refusal) (rest : List Refusal) → (if b then refusal ∷ [] else rest) ≡ [] → b ≡ false
not_so true refusal rest e = absurd cc
not_so false refusal rest e = refl

-- a flag is that of a bool, an integer or an enum that may be null
flag_is : (k : KindTree) → has_flag k ≡ (is_plain k && may_be_null k)
flag_is (kinds.BoolKind nullable) = refl
flag_is (kinds.IntKind width signed nullable) = refl
flag_is (kinds.EnumKind number nullable) = refl
flag_is (kinds.TextKind nullable) = refl
flag_is (kinds.HandleKind sort nullable) = refl
flag_is (kinds.ArrayKind of count nullable) = refl
flag_is (kinds.MapKind key one nullable) = refl
flag_is (kinds.StructKind number nullable) = refl
flag_is (kinds.UnionKind number nullable) = refl
flag_is (kinds.RemoteKind interface nullable) = refl
flag_is (kinds.ReceiverKind interface nullable) = refl
flag_is (kinds.AssociatedRemoteKind interface nullable) = refl
flag_is (kinds.AssociatedReceiverKind interface nullable) = refl

and_false : (a : Bool) → (a && false) ≡ false
and_false true = refl
and_false false = refl

-- a kind that may have a default has no flag
no_flag : (rows : List FileRows) (scope : Scope) (base : BaseTree) (nullable : Bool) (k : KindTree) → kind_of_base rows scope base nullable ≡ Some k
    → (nullable && not (is_string (basic_of_base base))) ≡ false → has_flag k ≡ false
no_flag rows scope base nullable k found asked = flag_is k ∙ go nullable refl
  where
    go : (b : Bool) → nullable ≡ b → (is_plain k && may_be_null k) ≡ false
    go false is = ap (λ (n : Bool). is_plain k && n) (base_null rows scope base nullable k found ∙ is) ∙ and_false (is_plain k)
    go true is =
        let string = text_only nullable (is_string (basic_of_base base)) is asked in
        ap (λ (p : Bool). p && may_be_null k) (string_text rows scope base nullable k found (basic_of_base base) refl string)

-- what is no name means no enum
no_enum : (things : List FileThings) (v : Option Target) (refusal : Refusal) → where_true (not (is_enumerator_of things None v)) refusal ≡ [] → ⊥
no_enum things v refusal e = absurd cc

module _ (Other : KindTree → Literal → Type 0) (rows : List FileRows) (scope : Scope) (names_hold : NamesHold Other rows scope) where
  unnamed : (f : Field) (value : Value) (literal : Literal) (k : KindTree) → meant_by_base (site_of scope) scope.enclosing f.kind.base ≡ None
      → refused_enum_default (site_of scope) scope.enclosing f value ≡ [] → Holds Other k literal
  unnamed f value literal k means e =
      let v = meant_by_value (site_of scope) scope.enclosing value in
      let none : where_true (not (is_enumerator_of scope.consts.files None v)) (wrong_literal scope.file f.name) ≡ [] =
      sym (ap (λ (o : Option Target). where_true (not (is_enumerator_of scope.consts.files o v)) (wrong_literal scope.file f.name)) means) ∙ e in
      absurd (no_enum scope.consts.files v (wrong_literal scope.file f.name) none)

  base_holds : (f : Field) (value : Value) (known : Known) (literal : Literal) → known_in scope value ≡ Some known → literal_of known ≡ Some literal
      → (base : BaseTree) → (meant_by_base (site_of scope) scope.enclosing f.kind.base ≡ meant_by_base (site_of scope) scope.enclosing base)
      → (nullable : Bool) (k : KindTree) → kind_of_base rows scope base nullable ≡ Some k
      → refused_default_by (site_of scope) scope.enclosing f value (basic_of_base base) ≡ [] → Holds Other k literal
  base_holds f value known literal knows l (Named name) means nullable k is e = go (basic_of_parts name.parts) e is
    where
      t : Option Target
      t = look_up scope.names scope.file scope.enclosing (dotted name.parts)

      v : Option Target
      v = meant_by_value (site_of scope) scope.enclosing value

      enumerated : where_true (not (is_enumerator_of scope.consts.files (meant_by_base (site_of scope) scope.enclosing f.kind.base) v))
          (wrong_literal scope.file f.name) ≡ [] → is_enumerator_of scope.consts.files t v ≡ true
      enumerated e =
          let at = ap (λ (o : Option Target). where_true (not (is_enumerator_of scope.consts.files o v)) (wrong_literal scope.file f.name)) means in
          true_of (is_enumerator_of scope.consts.files t v) (none_where (not (is_enumerator_of scope.consts.files t v)) _ (sym at ∙ e))

      go : (b : Option Basic) → refused_default_by (site_of scope) scope.enclosing f value b ≡ []
          → option_and_then (meant_kind rows scope nullable) (option_or (option_map meant.Basic b) (option_map meant.Target t)) ≡ Some k
          → Holds Other k literal
      go None e is = names_hold t nullable k value known literal is (enumerated e) knows l
      go (Some basic) e is =
          let at : ℕ = place_of_value value in
          let one = sym (ap (refused_default_as scope.file f.name at basic) knows) ∙ e in
          basic_holds Other scope.file f.name at nullable basic known k literal one is l
  base_holds f value known literal knows l (ArrayOf of inner count) means nullable k is e = unnamed f value literal k means e
  base_holds f value known literal knows l (MapOf key of_key one of_value) means nullable k is e = unnamed f value literal k means e
  base_holds f value known literal knows l (HandleOf sort) means nullable k is e = unnamed f value literal k means e
  base_holds f value known literal knows l (PendingOf sort interface) means nullable k is e = unnamed f value literal k means e

  -- the default of a field of which nothing is refused is of its kind
  pub field_default : (f : Field) (k : KindTree) (literal : Literal) → kind_of_base rows scope f.kind.base f.kind.nullable ≡ Some k
      → refused_default (site_of scope) scope.enclosing f f.default ≡ [] → option_and_then (literal_in scope) f.default ≡ Some literal
      → Holds Other k literal × (has_flag k ≡ false)
  field_default f k literal is e given = of f.default e given
    where
      known_of : (value : Value) (o : Option Known) → known_in scope value ≡ o → refused_default (site_of scope) scope.enclosing f (Some value) ≡ []
          → option_and_then literal_of o ≡ Some literal → Holds Other k literal × (has_flag k ≡ false)
      known_of value None knows e given = absurd cc
      known_of value (Some known) knows e given =
          let basic = basic_of_base f.kind.base in
          let tested = let_through (f.kind.nullable && not (is_string basic)) (wrong_literal scope.file f.name)
          (refused_default_by (site_of scope) scope.enclosing f value basic) e in
          let asked = not_so (f.kind.nullable && not (is_string basic)) (wrong_literal scope.file f.name)
          (refused_default_by (site_of scope) scope.enclosing f value basic) e in (
            base_holds f value known literal knows given f.kind.base refl f.kind.nullable k is tested,
            no_flag rows scope f.kind.base f.kind.nullable k is asked,
          )

      of : (o : Option Value) → refused_default (site_of scope) scope.enclosing f o ≡ [] → option_and_then (literal_in scope) o ≡ Some literal
          → Holds Other k literal × (has_flag k ≡ false)
      of None e given = absurd cc
      of (Some value) e given = known_of value (known_in scope value) refl e given

-- ## Enumerators

-- the number of an enumerator is one of 32 bits
held_fits : (z : ℤ) → in_bits true 32 (held_signed z) ≡ true
held_fits (pos n) = of (nat_lt 2147483647 n) refl
  where
    of : (v : Bool) → nat_lt 2147483647 n ≡ v → in_bits true 32 (int_max (negsuc 2147483647) (cond v (pos 2147483647) (pos n))) ≡ true
    of true e = refl
    of false e = let most : n ≤ 2147483647 = grind (arith, nat_tests) in le-leb n 2147483647 most
held_fits (negsuc n) = of (nat_lt 2147483647 n) refl
  where
    of : (v : Bool) → nat_lt 2147483647 n ≡ v → in_bits true 32 (cond v (negsuc 2147483647) (negsuc n)) ≡ true
    of true e = refl
    of false e = let most : n ≤ 2147483647 = grind (arith, nat_tests) in ap (λ (b : Bool). b && true) (le-leb n 2147483647 most)

whole_fits : (next : ℤ) (known : Known) → in_bits true 32 next ≡ true → in_bits true 32 (whole_or next known) ≡ true
whole_fits next (NumberValue n) h = held_fits n
whole_fits next (TextValue b) h = h
whole_fits next (BoolValue b) h = h
whole_fits next FloatValue h = h

number_fits : (next : ℤ) (o : Option Known) → in_bits true 32 next ≡ true → in_bits true 32 (option_map_or (whole_or next) o next) ≡ true
number_fits next None h = h
number_fits next (Some known) h = whole_fits next known h

-- so is that of each
pub values_fit : (scope : Scope) (next : ℤ) (es : List Enumerator) → in_bits true 32 next ≡ true
    → AllByRecursion (λ (v : Valued). in_bits true 32 v.number ≡ true) (valued_from scope next es)
values_fit scope next [] h = tt
values_fit scope next (e ∷ es) h = (
  number_fits next (option_and_then (known_in scope) e.value) h,
  values_fit scope (held_signed (number_at scope next e.value +ℤ pos 1)) es (held_fits (number_at scope next e.value +ℤ pos 1)),
)
