-- Nothing is refused of any member of a definition of which nothing is refused.
use Rattle.std.proofs.Common.{◌≡◌, ℕ, List, [], ◌∷◌, map, refl, ◌∙◌, ap, subst}
use Rattle.std.specs.Prelude.{Bool, true, false, not, ◌&&◌, if◌then◌else◌, Option, Some, None}
use Rattle.std.proofs.lemmas.Option.{none-some, same_Some}
use Rattle.std.specs.List.{AllByRecursion, flat_map}
use Rattle.mojom_ast.specs.declared.attributes.Attribute.{Attribute}
use Rattle.mojom_ast.specs.declared.definitions.StructMember.{StructMember}
use Rattle.mojom_ast.specs.declared.definitions.StructItem.{StructItem}
use Rattle.mojom_ast.specs.declared.definitions.StructItem.TheVariants as struct_items
use Rattle.mojom_ast.specs.declared.definitions.UnionField.{UnionField}
use Rattle.mojom_ast.specs.declared.definitions.Parameter.{Parameter}
use Rattle.module_resolver.specs.declared.file_names.FileNames.{FileNames}
use Rattle.name_refusals.specs.NameRefusals.{refused_uses}
use Rattle.name_refusals.specs.Uses.{uses_in_option, Use, uses_in_type, uses_in_attributes, uses_in_field, uses_in_struct, uses_in_union, uses_in_parameter}
use Rattle.mojom_ast.specs.TypeTrees.{TypeTree}
use Rattle.mojom_ast.specs.declared.names.Value.{Value}
use Rattle.mojom_ast.specs.declared.definitions.Field.{Field}
use Rattle.mojom_ast.specs.declared.names.Identifier.{Identifier}
use Rattle.mojom_files.specs.declared.basic.Basic.{Basic}
use Rattle.mojom_files.specs.declared.basic.Basic.TheVariants as basics
use Rattle.const_meanings.specs.Known.{Known}
use Rattle.mojom_files.specs.declared.refusal.Refusal.{Refusal}
use Rattle.const_eval.specs.Kinds.{basic_of_base, wrong_literal, refused_value}
use Rattle.const_eval.specs.Consts.{value_in}
use Rattle.const_eval.specs.Refused.{place_of_value, refused_default, refused_default_as, refused_default_by, is_string, Site, refused_lengths, refused_versions, refused_field, refused_struct_member, refused_union_field, refused_parameter}
use Rattle.kind_scope.specs.Scopes.{Scope}
use Rattle.kind_scope.specs.Members.{field_in, field_of, union_field_of, parameter_of}
use Rattle.schema_laws.proofs.Among.{each_append}
use Rattle.schema_laws.proofs.Quiet.{both_empty, none_where}
use Rattle.schema_laws.proofs.Kinded.{uses_apart}
use Rattle.written_laws.proofs.Fields.{IsQuietMember}
use Rattle.written_laws.proofs.NamedKindsKept.{site_of}
use Rattle.written_laws.proofs.EnumDefaults.{names_one}
use Rattle.written_laws.proofs.FitsKept.{true_of}

-- no name is refused of each, where none is of all
pub each_use : {A : Type 0} (names : List FileNames) (file : ℕ) (say : A → List Use) (xs : List A) → refused_uses names file (flat_map say xs) ≡ []
    → AllByRecursion (λ x. refused_uses names file (say x) ≡ []) xs
each_use names file say [] e = tt
each_use names file say (x ∷ xs) e =
    let parts = uses_apart names file (say x) (flat_map say xs) e in (parts.0, each_use names file say xs parts.1)

-- a default of a basic kind of which nothing is refused is a value of that kind
basic_quiet : (file : ℕ) (name : Identifier) (at : ℕ) (b : Basic) (known : Known) → refused_default_as file name at b (Some known) ≡ []
    → refused_value file name at b known ≡ []
basic_quiet file name at basics.Bool known e = e
basic_quiet file name at basics.Int8 known e = e
basic_quiet file name at basics.Int16 known e = e
basic_quiet file name at basics.Int32 known e = e
basic_quiet file name at basics.Int64 known e = e
basic_quiet file name at basics.Uint8 known e = e
basic_quiet file name at basics.Uint16 known e = e
basic_quiet file name at basics.Uint32 known e = e
basic_quiet file name at basics.Uint64 known e = e
basic_quiet file name at basics.Text known e = e
basic_quiet file name at basics.Float known e = absurd cc
basic_quiet file name at basics.Double known e = absurd cc

-- where one is refused by a test, or else others, and nothing is, the test fails, and there are no others
other_one : (test : Bool) (one : Refusal) (others : List Refusal) → (if test then one ∷ [] else others) ≡ [] → (test ≡ false) × (others ≡ [])
other_one true one others e = absurd cc
other_one false one others e = (refl, e)

module _ (scope : Scope) where
  abbrev pub site : Site
  site = record { consts = scope.consts; names = scope.names; file = scope.file }

  -- a default of which nothing is refused is of a kind without `?` or of string, and one of a basic kind is tested as one of that kind
  record IsQuietDefault (f : Field) (value : Value) : Type 0 where
    plain : (f.kind.nullable && not (is_string (basic_of_base f.kind.base))) ≡ false
    tested : refused_default_by site scope.enclosing f value (basic_of_base f.kind.base) ≡ []

  quiet_default : (f : Field) → refused_default site scope.enclosing f f.default ≡ [] → (value : Value) → f.default ≡ Some value → IsQuietDefault f value
  quiet_default f e value written =
      let all : refused_default site scope.enclosing f (Some value) ≡ [] =
      subst (λ (o : Option Value). refused_default site scope.enclosing f o ≡ []) written e in
      let parts = other_one (f.kind.nullable && not (is_string (basic_of_base f.kind.base))) (wrong_literal scope.file f.name)
      (refused_default_by site scope.enclosing f value (basic_of_base f.kind.base)) all in
      record { plain = parts.0; tested = parts.1 }

  default_quiet : (f : Field) → refused_default site scope.enclosing f f.default ≡ [] → (value : Value) → f.default ≡ Some value → (type : TypeTree)
      → ◌≡◌ {A = Option TypeTree} (Some f.kind) (Some type) → (b : Basic) → basic_of_base type.base ≡ Some b → (known : Known)
      → value_in scope.consts scope.names scope.file scope.enclosing value ≡ Some known → refused_value scope.file f.name (place_of_value value) b known ≡ []
  default_quiet f e value written type typed b basic known is =
      let same = same_Some f.kind type typed in
      let of_kind : basic_of_base f.kind.base ≡ Some b = ap (λ (t : TypeTree). basic_of_base t.base) same ∙ basic in
      let tested : refused_default_by site scope.enclosing f value (Some b) ≡ [] =
      subst (λ (o : Option Basic). refused_default_by site scope.enclosing f value o ≡ []) of_kind (quiet_default f e value written).tested in
      basic_quiet scope.file f.name (place_of_value value) b known
      (subst (λ (o : Option Known). refused_default_as scope.file f.name (place_of_value value) b o ≡ []) is tested)

  default_enumerator : (f : Field) → refused_default site scope.enclosing f f.default ≡ [] → (value : Value) → f.default ≡ Some value → (type : TypeTree)
      → ◌≡◌ {A = Option TypeTree} (Some f.kind) (Some type) → basic_of_base type.base ≡ None → names_one (site_of scope) type.base value ≡ true
  default_enumerator f e value written type typed none =
      let same = same_Some f.kind type typed in
      let of_kind : basic_of_base f.kind.base ≡ None = ap (λ (t : TypeTree). basic_of_base t.base) same ∙ none in
      let tested : refused_default_by site scope.enclosing f value None ≡ [] =
      subst (λ (o : Option Basic). refused_default_by site scope.enclosing f value o ≡ []) of_kind (quiet_default f e value written).tested in
      let named : names_one (site_of scope) f.kind.base value ≡ true =
      true_of (names_one (site_of scope) f.kind.base value) (none_where (not (names_one (site_of scope) f.kind.base value)) _ tested) in
      subst (λ (t : TypeTree). names_one (site_of scope) t.base value ≡ true) same named

  default_plain : (f : Field) → refused_default site scope.enclosing f f.default ≡ [] → (value : Value) → f.default ≡ Some value → (type : TypeTree)
      → ◌≡◌ {A = Option TypeTree} (Some f.kind) (Some type) → (type.nullable && not (is_string (basic_of_base type.base))) ≡ false
  default_plain f e value written type typed =
      subst (λ (t : TypeTree). (t.nullable && not (is_string (basic_of_base t.base))) ≡ false) (same_Some f.kind type typed)
      (quiet_default f e value written).plain

  field_quiet : (attributes : List Attribute) (item : StructItem) → refused_field site scope.enclosing attributes item ≡ []
      → refused_uses scope.names scope.file (uses_in_field scope.enclosing attributes item) ≡ []
      → AllByRecursion (IsQuietMember scope) (field_in attributes item)
  field_quiet attributes (struct_items.Field f) values uses =
      let one = both_empty (refused_versions site scope.enclosing f.name attributes) _ values in
      let two = both_empty (refused_lengths scope.file f.kind.base) _ one.1 in
      let used = uses_apart scope.names scope.file (uses_in_attributes scope.enclosing attributes) _ uses in
      let behind = uses_apart scope.names scope.file (uses_in_type scope.enclosing f.kind.base) (uses_in_option scope.enclosing f.default) used.1 in (
        record {
          lengths = two.0;
          versions = one.0;
          uses = used.0;
          default_uses = behind.1;
          default = λ value written type typed b basic known is. default_quiet f two.1 value written type typed b basic known is;
          enumerator = λ value written type typed none. default_enumerator f two.1 value written type typed none;
          plain = λ value written type typed. default_plain f two.1 value written type typed;
        },
        tt,
      )
  field_quiet attributes (struct_items.Const c) values uses = tt
  field_quiet attributes (struct_items.Enum e) values uses = tt

  pub fields_quiet : (members : List StructMember) → AllByRecursion (λ (m : StructMember). refused_struct_member site scope.enclosing m ≡ []) members
      → AllByRecursion (λ (m : StructMember). refused_uses scope.names scope.file (uses_in_struct scope.enclosing m) ≡ []) members
      → AllByRecursion (IsQuietMember scope) (flat_map field_of members)
  fields_quiet [] values uses = tt
  fields_quiet (m ∷ ms) values uses =
      each_append (IsQuietMember scope) (field_of m) (flat_map field_of ms) (field_quiet m.attributes m.item values.0 uses.0)
      (fields_quiet ms values.1 uses.1)

  pub union_fields_quiet : (fields : List UnionField) → AllByRecursion (λ (f : UnionField). refused_union_field site scope.enclosing f ≡ []) fields
      → AllByRecursion (λ (f : UnionField). refused_uses scope.names scope.file (uses_in_union scope.enclosing f) ≡ []) fields
      → AllByRecursion (IsQuietMember scope) (map union_field_of fields)
  union_fields_quiet [] values uses = tt
  union_fields_quiet (f ∷ fs) values uses =
      let one = both_empty (refused_versions site scope.enclosing f.name f.attributes) (refused_lengths scope.file f.kind.base) values.0 in
      let used = uses_apart scope.names scope.file (uses_in_attributes scope.enclosing f.attributes) (uses_in_type scope.enclosing f.kind.base) uses.0 in (
        record {
          lengths = one.1;
          versions = one.0;
          uses = used.0;
          default_uses = refl;
          default = λ value written. absurd (none-some value written);
          enumerator = λ value written. absurd (none-some value written);
          plain = λ value written. absurd (none-some value written);
        },
        union_fields_quiet fs values.1 uses.1,
      )

  pub parameters_quiet : (ps : List Parameter) → AllByRecursion (λ (p : Parameter). refused_parameter site scope.enclosing p ≡ []) ps
      → AllByRecursion (λ (p : Parameter). refused_uses scope.names scope.file (uses_in_parameter scope.enclosing p) ≡ []) ps
      → AllByRecursion (IsQuietMember scope) (map parameter_of ps)
  parameters_quiet [] values uses = tt
  parameters_quiet (p ∷ ps) values uses =
      let one = both_empty (refused_versions site scope.enclosing p.name p.attributes) (refused_lengths scope.file p.kind.base) values.0 in
      let used = uses_apart scope.names scope.file (uses_in_attributes scope.enclosing p.attributes) (uses_in_type scope.enclosing p.kind.base) uses.0 in (
        record {
          lengths = one.1;
          versions = one.0;
          uses = used.0;
          default_uses = refl;
          default = λ value written. absurd (none-some value written);
          enumerator = λ value written. absurd (none-some value written);
          plain = λ value written. absurd (none-some value written);
        },
        parameters_quiet ps values.1 uses.1,
      )
