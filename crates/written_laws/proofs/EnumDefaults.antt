-- A default of an enum of which nothing is refused is one of its enumerators.
use Rattle.std.proofs.Common.{◌≡◌, ℕ, List, refl, sym, ◌∙◌, ap, subst}
use Rattle.std.specs.Prelude.{Bool, true, false, ◌==◌, Option, Some, None}
use Rattle.std.specs.Option.{option_map_or}
use Rattle.std.proofs.lemmas.Bool.{and_parts, eqb-true}
use Rattle.std.proofs.lemmas.Option.{same_Some, none-some}
use Rattle.mojom_ast.specs.TypeTrees.{BaseTree, Named, ArrayOf, MapOf, HandleOf, PendingOf}
use Rattle.mojom_ast.specs.declared.names.Identifier.{Identifier}
use Rattle.mojom_ast.specs.declared.names.Value.{Value}
use Rattle.mojom_ast.specs.declared.names.Value.TheVariants as values
use Rattle.mojom_files.specs.declared.basic.Basic.{Basic}
use Rattle.mojom_files.specs.declared.basic.Basic.TheVariants as basics
use Rattle.mojom_files.specs.Names.{dotted}
use Rattle.module_resolver.specs.declared.target.Target.{Target}
use Rattle.module_resolver.specs.declared.target.Target.TheVariants as targets
use Rattle.module_resolver.specs.LookUp.{look_up}
use Rattle.const_eval.specs.Kinds.{basic_of_base}
use Rattle.const_eval.specs.Things.{owner_of}
use Rattle.const_eval.specs.Refused.{meant_by_base, meant_by_value, is_enumerator_of}
use Rattle.mj_schema.specs.KindTrees.{KindTree, BoolKind, IntKind, TextKind}
use Rattle.mj_schema.specs.declared.kind.Width.TheVariants.{Bits8, Bits16, Bits32, Bits64}
use Rattle.draft_rows.specs.declared.counts.FileRows.{FileRows}
use Rattle.kind_scope.specs.Scopes.{Scope}
use Rattle.draft_rows.specs.Kinds.{basic_kind, kind_of_base}
use Rattle.written_laws.specs.Values.{Site}
use Rattle.written_laws.specs.Defaults.{is_enum, NamesEnumerator, IsEnumeratorOf}
use Rattle.written_laws.proofs.FitsKept.{basic_found}

-- a type's name means an enum, and a value's name one of its enumerators
abbrev pub names_one : Site → BaseTree → Value → Bool
names_one site base value =
    is_enumerator_of site.consts.files
    (meant_by_base (record { consts = site.consts; names = site.names; file = site.file }) site.enclosing base)
    (meant_by_value (record { consts = site.consts; names = site.names; file = site.file }) site.enclosing value)

-- a number that passes a test is there
owner_is : (found : Option ℕ) (number : ℕ) → option_map_or (λ (owner : ℕ). owner == number) found false ≡ true → found ≡ Some number
owner_is None number e = absurd cc
owner_is (Some owner) number e = ap (λ (n : ℕ). let o : Option ℕ = Some n in o) (eqb-true owner number e)

names_means : (site : Site) (type value : List Identifier) (one other : Option Target)
    → look_up site.names site.file site.enclosing (dotted type) ≡ one → look_up site.names site.file site.enclosing (dotted value) ≡ other
    → is_enumerator_of site.consts.files one other ≡ true → NamesEnumerator site type value
names_means site type value None other is by e = absurd cc
names_means site type value (Some (targets.Enumerator file number)) other is by e = absurd cc
names_means site type value (Some (targets.Definition file number)) None is by e = absurd cc
names_means site type value (Some (targets.Definition file number)) (Some (targets.Definition other place)) is by e = absurd cc
names_means site type value (Some (targets.Definition file number)) (Some (targets.Enumerator other place)) is by e =
    let parts = and_parts (file == other) (option_map_or (λ (owner : ℕ). owner == number) (owner_of site.consts.files other place) false) e in
    let same : file ≡ other = eqb-true file other parts.0 in
    record {
      file = other;
      definition = number;
      enumerator = place;
      type_means = is ∙ ap (λ (f : ℕ). let o : Option Target = Some (targets.Definition f number) in o) same;
      value_means = by;
      owner = owner_is (owner_of site.consts.files other place) number parts.1;
    }

no_value : (site : Site) (one : Option Target) → is_enumerator_of site.consts.files one None ≡ true → ⊥
no_value site None e = absurd cc
no_value site (Some (targets.Definition file number)) e = absurd cc
no_value site (Some (targets.Enumerator file number)) e = absurd cc

-- a value that is such a one
pub names_enumerator : (site : Site) (base : BaseTree) (value : Value) → names_one site base value ≡ true → IsEnumeratorOf site base value
names_enumerator site (Named type) (values.Name value) e =
    names_means site type.parts value.parts (look_up site.names site.file site.enclosing (dotted type.parts))
    (look_up site.names site.file site.enclosing (dotted value.parts)) refl refl e
names_enumerator site (Named type) (values.String written) e =
    absurd (no_value site (look_up site.names site.file site.enclosing (dotted type.parts)) e)
names_enumerator site (Named type) (values.Bool value span) e =
    absurd (no_value site (look_up site.names site.file site.enclosing (dotted type.parts)) e)
names_enumerator site (Named type) (values.Number negative magnitude span) e =
    absurd (no_value site (look_up site.names site.file site.enclosing (dotted type.parts)) e)
names_enumerator site (ArrayOf of inner count) value e = absurd cc
names_enumerator site (MapOf key of_key other of_other) value e = absurd cc
names_enumerator site (HandleOf sort) value e = absurd cc
names_enumerator site (PendingOf sort interface) value e = absurd cc

-- no kind of a basic name is an enum

basic_no_enum : (nullable : Bool) (b : Basic) (k : KindTree) → basic_kind nullable b ≡ Some k → is_enum k ≡ false
basic_no_enum nullable basics.Bool k e = subst (λ (t : KindTree). is_enum t ≡ false) (same_Some (BoolKind nullable) k e) refl
basic_no_enum nullable basics.Int8 k e = subst (λ (t : KindTree). is_enum t ≡ false) (same_Some (IntKind Bits8 true nullable) k e) refl
basic_no_enum nullable basics.Int16 k e = subst (λ (t : KindTree). is_enum t ≡ false) (same_Some (IntKind Bits16 true nullable) k e) refl
basic_no_enum nullable basics.Int32 k e = subst (λ (t : KindTree). is_enum t ≡ false) (same_Some (IntKind Bits32 true nullable) k e) refl
basic_no_enum nullable basics.Int64 k e = subst (λ (t : KindTree). is_enum t ≡ false) (same_Some (IntKind Bits64 true nullable) k e) refl
basic_no_enum nullable basics.Uint8 k e = subst (λ (t : KindTree). is_enum t ≡ false) (same_Some (IntKind Bits8 false nullable) k e) refl
basic_no_enum nullable basics.Uint16 k e = subst (λ (t : KindTree). is_enum t ≡ false) (same_Some (IntKind Bits16 false nullable) k e) refl
basic_no_enum nullable basics.Uint32 k e = subst (λ (t : KindTree). is_enum t ≡ false) (same_Some (IntKind Bits32 false nullable) k e) refl
basic_no_enum nullable basics.Uint64 k e = subst (λ (t : KindTree). is_enum t ≡ false) (same_Some (IntKind Bits64 false nullable) k e) refl
basic_no_enum nullable basics.Text k e = subst (λ (t : KindTree). is_enum t ≡ false) (same_Some (TextKind nullable) k e) refl
basic_no_enum nullable basics.Float k e = absurd (none-some k e)
basic_no_enum nullable basics.Double k e = absurd (none-some k e)

pub enum_unnamed : (rows : List FileRows) (scope : Scope) (base : BaseTree) (nullable : Bool) (k : KindTree)
    → kind_of_base rows scope base nullable ≡ Some k → is_enum k ≡ true → (o : Option Basic) → basic_of_base base ≡ o → basic_of_base base ≡ None
enum_unnamed rows scope base nullable k found enum None is = is
enum_unnamed rows scope base nullable k found enum (Some b) is =
    let other = basic_no_enum nullable b k (basic_found rows scope base nullable b k is found) in
    let bad : false ≡ true = sym other ∙ enum in
    absurd cc
