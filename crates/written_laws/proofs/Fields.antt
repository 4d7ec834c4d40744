-- The row of a field or a parameter of which nothing is refused is as it is written.
use Rattle.std.proofs.Common.{◌≡◌, ◌<◌, ℕ, List, [], refl, sym, ◌∙◌, ap, subst, inl, inr}
use Rattle.std.specs.Prelude.{◌⊎◌, Bool, true, false, not, ◌&&◌, nat_lt, Option, Some, None, option_and_then}
use Rattle.std.proofs.lemmas.Bool.{lt-ltb}
use Rattle.std.proofs.lemmas.Option.{none-some, same_Some}
use Rattle.mojom_ast.specs.TypeTrees.{BaseTree, TypeTree}
use Rattle.mojom_ast.specs.declared.names.Value.{Value}
use Rattle.mojom_files.specs.declared.refusal.Refusal.{Refusal}
use Rattle.name_refusals.specs.NameRefusals.{refused_uses}
use Rattle.name_refusals.specs.Uses.{uses_in_option, uses_in_value, uses_in_attributes}
use Rattle.mojom_files.specs.declared.basic.Basic.{Basic}
use Rattle.mojom_files.specs.declared.basic.Basic.TheVariants as basics
use Rattle.const_meanings.specs.Known.{Known}
use Rattle.const_eval.specs.Kinds.{basic_of_base, refused_value}
use Rattle.const_eval.specs.Consts.{value_in}
use Rattle.const_eval.specs.Refused.{place_of_value, is_string, refused_lengths, refused_versions}
use Rattle.mj_schema.specs.KindTrees.{KindTree, TextKind}
use Rattle.draft_rows.specs.declared.counts.FileRows.{FileRows}
use Rattle.kind_scope.specs.Scopes.{Scope}
use Rattle.kind_scope.specs.Members.{Member, Numbered}
use Rattle.kind_scope.specs.Scopes.{known_in}
use Rattle.kind_scope.specs.Versions.{version_of}
use Rattle.kind_refusals.specs.OrdinalRefusals.{is_behind, needs_null, refused_late}
use Rattle.draft_rows.specs.Rows.{kind_in, literal_of, literal_in, field_with}
use Rattle.draft_rows.specs.Kinds.{kind_of_base}
use Rattle.schema_laws.proofs.Quiet.{none_where}
use Rattle.schema_laws.proofs.ConstsHaveRows.{literal_is}
use Rattle.written_laws.specs.Values.{known_of, IsDefault}
use Rattle.mj_schema.specs.Sound.{may_be_null, is_plain}
use Rattle.written_laws.specs.Kinds.{IsKind}
use Rattle.written_laws.specs.Fits.{is_basic, FitsDefault}
use Rattle.written_laws.specs.Defaults.{is_enum, HasEnumerator}
use Rattle.written_laws.specs.Rows.{IsField}
use Rattle.written_laws.proofs.Counts.{entry_of}
use Rattle.written_laws.proofs.Values.{IsKnown, literal_known, is_value, version_kept}
use Rattle.written_laws.proofs.EnumDefaults.{names_one, names_enumerator, enum_unnamed}
use Rattle.written_laws.proofs.FitsKept.{fits_basic, basic_found, has_basic, has_literal}
use Rattle.written_laws.proofs.NamedKindsKept.{site_of}
use Rattle.written_laws.proofs.KindsKept.{base_plain, base_null, as_written}

-- the lengths in the type of a member that has one
abbrev pub lengths_in : ℕ → Option TypeTree → List Refusal
lengths_in file None = []
lengths_in file (Some kind) = refused_lengths file kind.base

-- a member of which nothing is refused by itself, where this stands around it
pub record IsQuietMember (scope : Scope) (m : Member) : Type 0 where
  pub lengths : lengths_in scope.file m.kind ≡ []
  pub versions : refused_versions (record { consts = scope.consts; names = scope.names; file = scope.file }) scope.enclosing m.name m.attributes ≡ []
  pub uses : refused_uses scope.names scope.file (uses_in_attributes scope.enclosing m.attributes) ≡ []
  pub default_uses : refused_uses scope.names scope.file (uses_in_option scope.enclosing m.default) ≡ []
  pub default : (value : Value) → m.default ≡ Some value → (type : TypeTree) → m.kind ≡ Some type → (b : Basic) → basic_of_base type.base ≡ Some b
      → (known : Known) → value_in scope.consts scope.names scope.file scope.enclosing value ≡ Some known
      → refused_value scope.file m.name (place_of_value value) b known ≡ []
  pub enumerator : (value : Value) → m.default ≡ Some value → (type : TypeTree) → m.kind ≡ Some type → basic_of_base type.base ≡ None
      → names_one (site_of scope) type.base value ≡ true
  pub plain : (value : Value) → m.default ≡ Some value → (type : TypeTree) → m.kind ≡ Some type
      → (type.nullable && not (is_string (basic_of_base type.base))) ≡ false

-- each value that uses no name that is refused is known there
abbrev pub AllKnown : Scope → Type 0
AllKnown scope = (value : Value) → refused_uses scope.names scope.file (uses_in_value scope.enclosing value) ≡ [] → IsKnown (site_of scope) value

-- the kind of string is no bool, integer or enum
pub string_text : (rows : List FileRows) (scope : Scope) (base : BaseTree) (nullable : Bool) (k : KindTree) → kind_of_base rows scope base nullable ≡ Some k
    → (o : Option Basic) → basic_of_base base ≡ o → is_string o ≡ true → is_plain k ≡ false
string_text rows scope base nullable k found (Some basics.Text) is e =
    subst (λ (t : KindTree). is_plain t ≡ false) (same_Some (TextKind nullable) k (basic_found rows scope base nullable basics.Text k is found)) refl
string_text rows scope base nullable k found None is e = absurd cc
string_text rows scope base nullable k found (Some basics.Bool) is e = absurd cc
string_text rows scope base nullable k found (Some basics.Int8) is e = absurd cc
string_text rows scope base nullable k found (Some basics.Int16) is e = absurd cc
string_text rows scope base nullable k found (Some basics.Int32) is e = absurd cc
string_text rows scope base nullable k found (Some basics.Int64) is e = absurd cc
string_text rows scope base nullable k found (Some basics.Uint8) is e = absurd cc
string_text rows scope base nullable k found (Some basics.Uint16) is e = absurd cc
string_text rows scope base nullable k found (Some basics.Uint32) is e = absurd cc
string_text rows scope base nullable k found (Some basics.Uint64) is e = absurd cc
string_text rows scope base nullable k found (Some basics.Float) is e = absurd cc
string_text rows scope base nullable k found (Some basics.Double) is e = absurd cc

pub text_only : (nullable string : Bool) → nullable ≡ true → (nullable && not string) ≡ false → string ≡ true
text_only true true asked e = refl
text_only true false asked e = absurd cc
text_only false string asked e = absurd cc

module _ (rows : List FileRows) (scope : Scope) where
  -- the kind of a member is that of its type
  pub kind_kept : (m : Member) (k : KindTree) → kind_in rows scope m.kind ≡ Some k → IsQuietMember scope m → IsKind rows (site_of scope) m.kind k
  kind_kept m k is quiet = go m.kind is quiet.lengths
    where
      go : (o : Option TypeTree) → kind_in rows scope o ≡ Some k → lengths_in scope.file o ≡ [] → IsKind rows (site_of scope) o k
      go None is lengths = absurd (none-some k is)
      go (Some type) is lengths = as_written rows scope scope.file type.base type.nullable k is lengths

  none_needed : (v needs : Bool) → (v && needs) ≡ false → v ≡ true → needs ≡ false
  none_needed true needs e is = e
  none_needed false needs e is = absurd cc

  either : (nullable behind : Bool) → (not nullable && behind) ≡ false → (behind ≡ false) ⊎ (nullable ≡ true)
  either true behind e = inr refl
  either false behind e = inl e

  -- a member of a later version is plain or may be null
  later_kept : (one : Numbered) (k : KindTree) → kind_in rows scope one.member.kind ≡ Some k → refused_late scope one ≡ []
      → 0 < version_of scope one.member → (is_plain k ≡ true) ⊎ (may_be_null k ≡ true)
  later_kept one k is late after =
      go one.member.kind is
      (none_needed (nat_lt 0 (version_of scope one.member)) (needs_null scope one.member.kind)
      (none_where (nat_lt 0 (version_of scope one.member) && needs_null scope one.member.kind) _ late) (lt-ltb 0 (version_of scope one.member) after))
    where
      go : (o : Option TypeTree) → kind_in rows scope o ≡ Some k → needs_null scope o ≡ false → (is_plain k ≡ true) ⊎ (may_be_null k ≡ true)
      go None is none = absurd (none-some k is)
      go (Some type) is none = which type is (either type.nullable (is_behind scope type.base) none)
        where
          which : (type : TypeTree) → kind_in rows scope (Some type) ≡ Some k → (is_behind scope type.base ≡ false) ⊎ (type.nullable ≡ true)
              → (is_plain k ≡ true) ⊎ (may_be_null k ≡ true)
          which type is (inl front) = inl (base_plain rows scope type.base type.nullable k is front)
          which type is (inr null) = inr (base_null rows scope type.base type.nullable k is ∙ null)

  -- the default of a field is the one that is written
  default_kept : AllKnown scope → (m : Member) → IsQuietMember scope m → IsDefault (site_of scope) m.default (option_and_then (literal_in scope) m.default)
  default_kept known m quiet = go m.default quiet.default_uses
    where
      go : (written : Option Value) → refused_uses scope.names scope.file (uses_in_option scope.enclosing written) ≡ []
          → IsDefault (site_of scope) written (option_and_then (literal_in scope) written)
      go None uses = refl
      go (Some value) uses =
          let there = known value uses in
          let l = literal_is there.known there.real in
          let row : literal_in scope value ≡ Some l.one = ap (option_and_then literal_of) there.is ∙ l.is in
          subst (IsDefault (site_of scope) (Some value)) (sym row)
          (is_value (site_of scope) value (known_of l.one) (literal_known (known_in scope value) l.one row))

  -- the default of a basic kind fits it
  default_fits : AllKnown scope → (m : Member) (k : KindTree) → kind_in rows scope m.kind ≡ Some k → IsQuietMember scope m → is_basic k ≡ true
      → FitsDefault k (option_and_then (literal_in scope) m.default)
  default_fits known m k is quiet holds = go m.default refl m.kind refl
    where
      go : (v : Option Value) → m.default ≡ v → (t : Option TypeTree) → m.kind ≡ t → FitsDefault k (option_and_then (literal_in scope) v)
      go None written t typed = tt
      go (Some value) written None typed = absurd (none-some k (sym (ap (kind_in rows scope) typed) ∙ is))
      go (Some value) written (Some type) typed =
          let found : kind_of_base rows scope type.base type.nullable ≡ Some k = sym (ap (kind_in rows scope) typed) ∙ is in
          let uses : refused_uses scope.names scope.file (uses_in_value scope.enclosing value) ≡ [] =
          subst (λ (o : Option Value). refused_uses scope.names scope.file (uses_in_option scope.enclosing o) ≡ []) written quiet.default_uses in
          let there = known value uses in
          let b = has_basic rows scope type.base type.nullable k found holds in
          let none = quiet.default value written type typed b.basic b.is there.known there.is in
          let l = has_literal scope.file m.name (place_of_value value) b.basic there.known none in
          let row : literal_in scope value ≡ Some l.literal = ap (option_and_then literal_of) there.is ∙ l.is in
          let fine : refused_value scope.file m.name (place_of_value value) b.basic (known_of l.literal) ≡ [] =
          subst (λ (x : Known). refused_value scope.file m.name (place_of_value value) b.basic x ≡ []) l.same none in
          subst (FitsDefault k) (sym row)
          (fits_basic scope.file m.name (place_of_value value) type.nullable b.basic k l.literal
          (basic_found rows scope type.base type.nullable b.basic k b.is found) fine)

  -- a bool, an integer or an enum that may be null has no default
  none_by_default : (m : Member) (k : KindTree) → kind_in rows scope m.kind ≡ Some k → IsQuietMember scope m → is_plain k ≡ true → may_be_null k ≡ true
      → m.default ≡ None
  none_by_default m k is quiet plain null = go m.default refl m.kind refl
    where
      go : (v : Option Value) → m.default ≡ v → (t : Option TypeTree) → m.kind ≡ t → m.default ≡ None
      go None written t typed = written
      go (Some value) written None typed = absurd (none-some k (sym (ap (kind_in rows scope) typed) ∙ is))
      go (Some value) written (Some type) typed =
          let found : kind_of_base rows scope type.base type.nullable ≡ Some k = sym (ap (kind_in rows scope) typed) ∙ is in
          let asked : type.nullable ≡ true = sym (base_null rows scope type.base type.nullable k found) ∙ null in
          let string = text_only type.nullable (is_string (basic_of_base type.base)) asked (quiet.plain value written type typed) in
          let text = string_text rows scope type.base type.nullable k found (basic_of_base type.base) refl string in
          let bad : false ≡ true = sym text ∙ plain in
          absurd cc

  -- the default of an enum is one of that enum
  enumerator_kept : (m : Member) (k : KindTree) → kind_in rows scope m.kind ≡ Some k → IsQuietMember scope m → is_enum k ≡ true
      → HasEnumerator (site_of scope) m.kind m.default
  enumerator_kept m k is quiet enum = go m.default refl m.kind refl
    where
      go : (v : Option Value) → m.default ≡ v → (t : Option TypeTree) → m.kind ≡ t → HasEnumerator (site_of scope) t v
      go None written None typed = tt
      go None written (Some type) typed = tt
      go (Some value) written None typed = absurd (none-some k (sym (ap (kind_in rows scope) typed) ∙ is))
      go (Some value) written (Some type) typed =
          let found : kind_of_base rows scope type.base type.nullable ≡ Some k = sym (ap (kind_in rows scope) typed) ∙ is in
          let none = enum_unnamed rows scope type.base type.nullable k found enum (basic_of_base type.base) refl in
          names_enumerator (site_of scope) type.base value (quiet.enumerator value written type typed none)

  -- a field of which nothing is refused
  pub field_kept : AllKnown scope → (one : Numbered) (k : KindTree) → kind_in rows scope one.member.kind ≡ Some k → IsQuietMember scope one.member
      → refused_late scope one ≡ [] → IsField rows (site_of scope) (entry_of one.member) (field_with scope one.member k)
  field_kept known one k is quiet late = record {
    name = refl;
    kind = kind_kept one.member k is quiet;
    version = version_kept (site_of scope) known one.member.name one.member.attributes quiet.versions quiet.uses;
    later = λ after. later_kept one k is late after;
    default = default_kept known one.member quiet;
    fits = default_fits known one.member k is quiet;
    enumerator = enumerator_kept one.member k is quiet;
    without = none_by_default one.member k is quiet;
  }
