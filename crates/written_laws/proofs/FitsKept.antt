-- Literals of which nothing is refused fit their kinds.
use Rattle.std.proofs.Common.{◌≡◌, ℕ, List, [], refl, sym, ◌∙◌, ap, subst}
use Rattle.std.specs.Prelude.{ℤ, Bool, true, false, not, Option, Some, None, option_and_then}
use Rattle.std.specs.Option.{option_map, option_or}
use Rattle.std.proofs.lemmas.Option.{none-some, same_Some}
use Rattle.mojom_ast.specs.TypeTrees.{BaseTree, Named, ArrayOf, MapOf, HandleOf, PendingOf}
use Rattle.mojom_ast.specs.declared.names.Identifier.{Identifier}
use Rattle.mojom_files.specs.declared.basic.Basic.{Basic}
use Rattle.mojom_files.specs.declared.basic.Basic.TheVariants as basics
use Rattle.mojom_files.specs.declared.refusal.Refusal.{Refusal}
use Rattle.mojom_files.specs.Refusals.{where_true}
use Rattle.mojom_files.specs.Names.{dotted}
use Rattle.module_resolver.specs.LookUp.{look_up, sort_of}
use Rattle.const_meanings.specs.Known.{Known, TextValue, BoolValue, NumberValue, FloatValue}
use Rattle.const_eval.specs.Kinds.{basic_of_base, refused_value, basic_of_parts}
use Rattle.mj_schema.specs.KindTrees.{KindTree, BoolKind, IntKind, TextKind, EnumKind, HandleKind, ArrayKind, MapKind, StructKind, UnionKind}
use Rattle.mj_schema.specs.Sizes.{bits_of}
use Rattle.mj_schema.specs.declared.kind.Width.{Width}
use Rattle.mj_schema.specs.declared.kind.Width.TheVariants.{Bits8, Bits16, Bits32, Bits64}
use Rattle.mj_schema.specs.declared.rows.Literal.{Literal}
use Rattle.mj_schema.specs.declared.rows.Literal.TheVariants as literals
use Rattle.draft_rows.specs.declared.counts.FileRows.{FileRows}
use Rattle.kind_scope.specs.declared.meant.Meant.TheVariants as meant
use Rattle.kind_scope.specs.Scopes.{Scope, meant_in}
use Rattle.draft_rows.specs.Kinds.{basic_kind, meant_kind, kind_of_base, row_kind, rows_before_target, sort_kind, interface_number, handle_sort, pending_kind, count_of, with_value}
use Rattle.schema_laws.proofs.Quiet.{none_where}
use Rattle.written_laws.specs.Values.{known_of}
use Rattle.mojom_ast.specs.declared.types.PendingSort.{PendingSort}
use Rattle.mojom_ast.specs.declared.types.PendingSort.TheVariants as pending
use Rattle.module_resolver.specs.declared.target.Target.{Target}
use Rattle.module_resolver.specs.declared.target.DefinitionSort.{DefinitionSort}
use Rattle.module_resolver.specs.declared.target.DefinitionSort.TheVariants as sorts
use Rattle.draft_rows.specs.declared.counts.Counts.{Counts}
use Rattle.draft_rows.specs.Rows.{literal_of}
use Rattle.mj_schema.specs.Sound.{in_bits}
use Rattle.written_laws.specs.Fits.{Fits, is_basic}

-- the values of basic kinds

pub true_of : (b : Bool) → not b ≡ false → b ≡ true
true_of true e = refl
true_of false e = absurd cc

-- it fits a kind that is found
fits_found : (kind k : KindTree) (l : Literal) → ◌≡◌ {A = Option KindTree} (Some kind) (Some k) → Fits kind l → Fits k l
fits_found kind k l e is = subst (λ (t : KindTree). Fits t l) (same_Some kind k e) is

-- a number fits a width where it isn't refused for it
fits_whole : (width : Width) (sign nullable : Bool) (k : KindTree) (number : ℤ)
    → ◌≡◌ {A = Option KindTree} (Some (IntKind width sign nullable)) (Some k) → (refusal : Refusal)
    → where_true (not (in_bits sign (bits_of width) number)) refusal ≡ [] → Fits k (literals.Whole number)
fits_whole width sign nullable k number e refusal quiet =
    fits_found (IntKind width sign nullable) k (literals.Whole number) e
    (true_of (in_bits sign (bits_of width) number) (none_where (not (in_bits sign (bits_of width) number)) refusal quiet))

-- a literal of which nothing is refused fits
pub fits_basic : (file : ℕ) (name : Identifier) (at : ℕ) (nullable : Bool) (b : Basic) (k : KindTree) (l : Literal) → basic_kind nullable b ≡ Some k
    → refused_value file name at b (known_of l) ≡ [] → Fits k l
fits_basic file name at nullable basics.Bool k (literals.Bool value) e quiet = fits_found (BoolKind nullable) k (literals.Bool value) e tt
fits_basic file name at nullable basics.Bool k (literals.Whole number) e quiet = absurd cc
fits_basic file name at nullable basics.Bool k (literals.Text bytes) e quiet = absurd cc
fits_basic file name at nullable basics.Text k (literals.Text bytes) e quiet = fits_found (TextKind nullable) k (literals.Text bytes) e tt
fits_basic file name at nullable basics.Text k (literals.Bool value) e quiet = absurd cc
fits_basic file name at nullable basics.Text k (literals.Whole number) e quiet = absurd cc
fits_basic file name at nullable basics.Float k l e quiet = absurd (none-some k e)
fits_basic file name at nullable basics.Double k l e quiet = absurd (none-some k e)
fits_basic file name at nullable basics.Int8 k (literals.Whole number) e quiet = fits_whole Bits8 true nullable k number e _ quiet
fits_basic file name at nullable basics.Int8 k (literals.Bool value) e quiet = absurd cc
fits_basic file name at nullable basics.Int8 k (literals.Text bytes) e quiet = absurd cc
fits_basic file name at nullable basics.Int16 k (literals.Whole number) e quiet = fits_whole Bits16 true nullable k number e _ quiet
fits_basic file name at nullable basics.Int16 k (literals.Bool value) e quiet = absurd cc
fits_basic file name at nullable basics.Int16 k (literals.Text bytes) e quiet = absurd cc
fits_basic file name at nullable basics.Int32 k (literals.Whole number) e quiet = fits_whole Bits32 true nullable k number e _ quiet
fits_basic file name at nullable basics.Int32 k (literals.Bool value) e quiet = absurd cc
fits_basic file name at nullable basics.Int32 k (literals.Text bytes) e quiet = absurd cc
fits_basic file name at nullable basics.Int64 k (literals.Whole number) e quiet = fits_whole Bits64 true nullable k number e _ quiet
fits_basic file name at nullable basics.Int64 k (literals.Bool value) e quiet = absurd cc
fits_basic file name at nullable basics.Int64 k (literals.Text bytes) e quiet = absurd cc
fits_basic file name at nullable basics.Uint8 k (literals.Whole number) e quiet = fits_whole Bits8 false nullable k number e _ quiet
fits_basic file name at nullable basics.Uint8 k (literals.Bool value) e quiet = absurd cc
fits_basic file name at nullable basics.Uint8 k (literals.Text bytes) e quiet = absurd cc
fits_basic file name at nullable basics.Uint16 k (literals.Whole number) e quiet = fits_whole Bits16 false nullable k number e _ quiet
fits_basic file name at nullable basics.Uint16 k (literals.Bool value) e quiet = absurd cc
fits_basic file name at nullable basics.Uint16 k (literals.Text bytes) e quiet = absurd cc
fits_basic file name at nullable basics.Uint32 k (literals.Whole number) e quiet = fits_whole Bits32 false nullable k number e _ quiet
fits_basic file name at nullable basics.Uint32 k (literals.Bool value) e quiet = absurd cc
fits_basic file name at nullable basics.Uint32 k (literals.Text bytes) e quiet = absurd cc
fits_basic file name at nullable basics.Uint64 k (literals.Whole number) e quiet = fits_whole Bits64 false nullable k number e _ quiet
fits_basic file name at nullable basics.Uint64 k (literals.Bool value) e quiet = absurd cc
fits_basic file name at nullable basics.Uint64 k (literals.Text bytes) e quiet = absurd cc

-- the kind of a type that is a basic one
pub basic_found : (rows : List FileRows) (scope : Scope) (base : BaseTree) (nullable : Bool) (b : Basic) (k : KindTree) → basic_of_base base ≡ Some b
    → kind_of_base rows scope base nullable ≡ Some k → basic_kind nullable b ≡ Some k
basic_found rows scope (Named name) nullable b k is e =
    let meaning : meant_in scope name.parts ≡ Some (meant.Basic b) =
    ap (λ (o : Option Basic). option_or (option_map meant.Basic o)
    (option_map meant.Target (look_up scope.names scope.file scope.enclosing (dotted name.parts)))) is in
    sym (ap (option_and_then (meant_kind rows scope nullable)) meaning) ∙ e
basic_found rows scope (ArrayOf of inner count) nullable b k is e = absurd cc
basic_found rows scope (MapOf key of_key value of_value) nullable b k is e = absurd cc
basic_found rows scope (HandleOf sort) nullable b k is e = absurd cc
basic_found rows scope (PendingOf sort interface) nullable b k is e = absurd cc

-- no kind of a definition is basic

row_basic : (nullable : Bool) (sort : DefinitionSort) (counts : Option Counts) (k : KindTree) → option_and_then (row_kind nullable sort) counts ≡ Some k
    → is_basic k ≡ false
row_basic nullable sort None k e = absurd (none-some k e)
row_basic nullable sorts.Struct (Some counts) k e = subst (λ (t : KindTree). is_basic t ≡ false) (same_Some (StructKind counts.structs nullable) k e) refl
row_basic nullable sorts.Union (Some counts) k e = subst (λ (t : KindTree). is_basic t ≡ false) (same_Some (UnionKind counts.unions nullable) k e) refl
row_basic nullable sorts.Enum (Some counts) k e = subst (λ (t : KindTree). is_basic t ≡ false) (same_Some (EnumKind counts.enums nullable) k e) refl
row_basic nullable sorts.Interface (Some counts) k e = absurd (none-some k e)
row_basic nullable sorts.Const (Some counts) k e = absurd (none-some k e)

sort_basic : (rows : List FileRows) (nullable : Bool) (target : Target) (sort : Option DefinitionSort) (k : KindTree)
    → option_and_then (sort_kind rows nullable target) sort ≡ Some k → is_basic k ≡ false
sort_basic rows nullable target None k e = absurd (none-some k e)
sort_basic rows nullable target (Some sort) k e = row_basic nullable sort (rows_before_target rows target) k e

target_basic : (rows : List FileRows) (scope : Scope) (nullable : Bool) (target : Option Target) (k : KindTree)
    → option_and_then (meant_kind rows scope nullable) (option_map meant.Target target) ≡ Some k → is_basic k ≡ false
target_basic rows scope nullable None k e = absurd (none-some k e)
target_basic rows scope nullable (Some target) k e = sort_basic rows nullable target (sort_of scope.names target) k e

map_basic : {A : Type 0} (make : A → KindTree) → ((a : A) → is_basic (make a) ≡ false) → (o : Option A) (k : KindTree) → option_map make o ≡ Some k
    → is_basic k ≡ false
map_basic make each None k e = absurd (none-some k e)
map_basic make each (Some a) k e = subst (λ (t : KindTree). is_basic t ≡ false) (same_Some (make a) k e) (each a)

pending_basic : (sort : PendingSort) (nullable : Bool) (interface : ℕ) → is_basic (pending_kind sort nullable interface) ≡ false
pending_basic pending.Remote nullable interface = refl
pending_basic pending.Receiver nullable interface = refl
pending_basic pending.AssociatedRemote nullable interface = refl
pending_basic pending.AssociatedReceiver nullable interface = refl

-- the basic kind of a type
pub record HasBasic (base : BaseTree) : Type 0 where
  pub basic : Basic
  pub is : basic_of_base base ≡ Some basic

not_basic : (base : BaseTree) (k : KindTree) → is_basic k ≡ false → is_basic k ≡ true → HasBasic base
not_basic base k fails holds = let bad : false ≡ true = sym fails ∙ holds in absurd cc

pub has_basic : (rows : List FileRows) (scope : Scope) (base : BaseTree) (nullable : Bool) (k : KindTree) → kind_of_base rows scope base nullable ≡ Some k
    → is_basic k ≡ true → HasBasic base
has_basic rows scope (Named name) nullable k e holds = go (basic_of_parts name.parts) refl
  where
    go : (o : Option Basic) → basic_of_parts name.parts ≡ o → HasBasic (Named name)
    go (Some basic) is = record { basic = basic; is = is }
    go None is =
        let meaning : meant_in scope name.parts ≡ option_map meant.Target (look_up scope.names scope.file scope.enclosing (dotted name.parts)) =
        ap (λ (o : Option Basic). option_or (option_map meant.Basic o)
        (option_map meant.Target (look_up scope.names scope.file scope.enclosing (dotted name.parts)))) is in
        not_basic (Named name) k
        (target_basic rows scope nullable (look_up scope.names scope.file scope.enclosing (dotted name.parts)) k
        (sym (ap (option_and_then (meant_kind rows scope nullable)) meaning) ∙ e)) holds
has_basic rows scope (ArrayOf of inner count) nullable k e holds =
    not_basic (ArrayOf of inner count) k
    (map_basic (λ (t : KindTree). ArrayKind t (count_of count) nullable) (λ t. refl) (kind_of_base rows scope of inner) k e) holds
has_basic rows scope (MapOf key of_key value of_value) nullable k e holds = go (kind_of_base rows scope key of_key) e
  where
    go : (o : Option KindTree) → option_and_then (λ (t : KindTree). with_value nullable t (kind_of_base rows scope value of_value)) o ≡ Some k
        → HasBasic (MapOf key of_key value of_value)
    go None e = absurd (none-some k e)
    go (Some t) e =
        not_basic (MapOf key of_key value of_value) k
        (map_basic (λ (v : KindTree). MapKind t v nullable) (λ v. refl) (kind_of_base rows scope value of_value) k e) holds
has_basic rows scope (HandleOf sort) nullable k e holds =
    not_basic (HandleOf sort) k (subst (λ (t : KindTree). is_basic t ≡ false) (same_Some (HandleKind (handle_sort sort) nullable) k e) refl) holds
has_basic rows scope (PendingOf sort interface) nullable k e holds =
    not_basic (PendingOf sort interface) k
    (map_basic (pending_kind sort nullable) (λ n. pending_basic sort nullable n) (interface_number rows scope interface.parts) k e) holds

-- a value of which nothing is refused is a literal in a row
pub record HasLiteral (known : Known) : Type 0 where
  pub literal : Literal
  pub is : literal_of known ≡ Some literal
  pub same : known ≡ known_of literal

pub has_literal : (file : ℕ) (name : Identifier) (at : ℕ) (b : Basic) (known : Known) → refused_value file name at b known ≡ [] → HasLiteral known
has_literal file name at b (TextValue bytes) e = record { literal = literals.Text bytes; is = refl; same = refl }
has_literal file name at b (BoolValue value) e = record { literal = literals.Bool value; is = refl; same = refl }
has_literal file name at b (NumberValue number) e = record { literal = literals.Whole number; is = refl; same = refl }
has_literal file name at basics.Bool FloatValue e = absurd cc
has_literal file name at basics.Int8 FloatValue e = absurd cc
has_literal file name at basics.Int16 FloatValue e = absurd cc
has_literal file name at basics.Int32 FloatValue e = absurd cc
has_literal file name at basics.Int64 FloatValue e = absurd cc
has_literal file name at basics.Uint8 FloatValue e = absurd cc
has_literal file name at basics.Uint16 FloatValue e = absurd cc
has_literal file name at basics.Uint32 FloatValue e = absurd cc
has_literal file name at basics.Uint64 FloatValue e = absurd cc
has_literal file name at basics.Text FloatValue e = absurd cc
has_literal file name at basics.Float FloatValue e = absurd cc
has_literal file name at basics.Double FloatValue e = absurd cc
