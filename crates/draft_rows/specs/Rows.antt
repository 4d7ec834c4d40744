-- The rows of definitions, where fields have no places yet.
use Rattle.std.specs.Prelude.{ℕ, ◌+◌, ℤ, pos, negsuc, ◌+ℤ◌, Bool, false, codes, List, [], ◌∷◌, map, find, Option, Some, None, option_and_then}
use Rattle.std.specs.Int.{int_min, int_max}
use Rattle.std.specs.List.{flat_map}
use Rattle.std.specs.Option.{option_map, option_map_or, option_to_list}
use Rattle.mojom_ast.specs.TypeTrees.{TypeTree}
use Rattle.mojom_ast.specs.declared.names.Value.{Value}
use Rattle.mojom_ast.specs.declared.attributes.Attribute.{Attribute}
use Rattle.mojom_ast.specs.declared.definitions.Const.{Const}
use Rattle.mojom_ast.specs.declared.definitions.Enumerator.{Enumerator}
use Rattle.mojom_ast.specs.declared.definitions.Method.{Method}
use Rattle.mojom_ast.specs.declared.definitions.Parameter.{Parameter}
use Rattle.mj_base.specs.Names.{within}
use Rattle.const_eval.specs.Ordinals.{NumberedAs, numbered_by}
use Rattle.const_meanings.specs.Known.{Known, TextValue, BoolValue, NumberValue, FloatValue}
use Rattle.mj_schema.specs.KindTrees.{KindTree}
use Rattle.mj_schema.specs.declared.rows.Literal.{Literal}
use Rattle.mj_schema.specs.declared.rows.Literal.TheVariants as literals
use Rattle.mj_schema.specs.declared.rows.DraftField.{DraftField}
use Rattle.mj_schema.specs.declared.rows.DraftStruct.{DraftStruct}
use Rattle.mj_schema.specs.declared.rows.UnionFieldRow.{UnionFieldRow}
use Rattle.mj_schema.specs.declared.rows.UnionRow.{UnionRow}
use Rattle.mj_schema.specs.declared.rows.MemberRow.{MemberRow}
use Rattle.mj_schema.specs.declared.rows.EnumRow.{EnumRow}
use Rattle.mj_schema.specs.declared.rows.MethodRow.{MethodRow}
use Rattle.mj_schema.specs.declared.rows.InterfaceRow.{InterfaceRow}
use Rattle.mj_schema.specs.declared.rows.ConstRow.{ConstRow}
use Rattle.draft_rows.specs.declared.counts.FileRows.{FileRows}
use Rattle.kind_scope.specs.Scopes.{Scope, known_in}
use Rattle.kind_scope.specs.Members.{Member, Numbered, held, numbered, parameter_of, along_ordinals}
use Rattle.kind_scope.specs.Versions.{version_of}
use Rattle.kind_scope.specs.Attributes.{has_attribute, is_default}
use Rattle.draft_rows.specs.RowCounts.{structs_of}
use Rattle.draft_rows.specs.Kinds.{kind_of}

-- values

-- what a value is in a row; none of float and double
abbrev pub literal_of : Known → Option Literal
literal_of (TextValue bytes) = Some (literals.Text bytes)
literal_of (BoolValue value) = Some (literals.Bool value)
literal_of (NumberValue number) = Some (literals.Whole number)
literal_of FloatValue = None

-- what a value that is written is, where it is one
abbrev pub literal_in : Scope → Value → Option Literal
literal_in scope value = option_and_then literal_of (known_in scope value)

-- the row of a constant of this full name, kind and value
abbrev pub const_with : List ℕ → KindTree → Literal → ConstRow
const_with full kind value = record { name = full; kind = kind; value = value }

-- the row of the constant of this full name: none where its kind or its value is none
abbrev pub const_row : List FileRows → Scope → List ℕ → Const → Option ConstRow
const_row rows scope full c =
    option_and_then (λ (k : KindTree). option_map (const_with full k) (literal_in scope c.value)) (kind_of rows scope c.kind)

-- structs

-- the kind of a member that has a type
abbrev pub kind_in : List FileRows → Scope → Option TypeTree → Option KindTree
kind_in rows scope kind = option_and_then (kind_of rows scope) kind

-- the row of a field of this kind
abbrev pub field_with : Scope → Member → KindTree → DraftField
field_with scope member kind = record {
  name = member.name.text;
  kind = kind;
  min_version = version_of scope member;
  default = option_and_then (literal_in scope) member.default;
}

-- the row of a field: none where its kind is none
abbrev pub field_row : List FileRows → Scope → Numbered → Option DraftField
field_row rows scope one = option_map (field_with scope one.member) (kind_in rows scope one.member.kind)

-- what is found of each, where something is
abbrev pub found_of : {A B : Type 0} → (A → Option B) → List A → List B
found_of look ones = flat_map (λ one. option_to_list (look one)) ones

-- `[Stable]` is among the attributes
abbrev pub is_stable : List Attribute → Bool
is_stable attributes = has_attribute (codes "Stable") attributes

-- the struct of this full name and these members, stable or not: its fields stand along their ordinals
abbrev pub struct_row : List FileRows → Scope → List ℕ → Bool → List Member → DraftStruct
struct_row rows scope full stable members = record {
  name = full;
  fields = found_of (field_row rows scope) (along_ordinals (numbered members));
  stable = stable;
}

-- unions

-- the row of a field of a union of this kind
abbrev pub union_field_with : Numbered → KindTree → UnionFieldRow
union_field_with one kind = record { name = one.member.name.text; tag = one.ordinal; kind = kind }

-- the row of a field of a union: none where its kind is none
abbrev pub union_field_row : List FileRows → Scope → Numbered → Option UnionFieldRow
union_field_row rows scope one = option_map (union_field_with one) (kind_in rows scope one.member.kind)

-- `[Extensible]` is among the attributes
abbrev pub is_extensible : List Attribute → Bool
is_extensible attributes = has_attribute (codes "Extensible") attributes

-- the union of this full name and these fields, which stand as the file has them
abbrev pub union_row : List FileRows → Scope → List ℕ → List Attribute → List Member → UnionRow
union_row rows scope full attributes members = record {
  name = full;
  extensible = is_extensible attributes;
  fields = found_of (union_field_row rows scope) (numbered members);
  stable = is_stable attributes;
}

-- enums

-- a number as a signed integer of 32 bits: what is outside counts as the nearest
abbrev pub held_signed : ℤ → ℤ
held_signed number = int_max (negsuc 2147483647) (int_min number (pos 2147483647))

-- an enumerator and its number
pub record Valued : Type 0 where
  pub enumerator : Enumerator
  pub number : ℤ

-- the number that a value is, or else this one
abbrev pub whole_or : ℤ → Known → ℤ
whole_or next (NumberValue number) = held_signed number
whole_or next _ = next

-- the number of an enumerator: that of the value that is written, or else the next
abbrev pub number_at : Scope → ℤ → Option Value → ℤ
number_at scope next value = option_map_or (whole_or next) (option_and_then (known_in scope) value) next

-- enumerators with their numbers, where the first has this one if no value is written: each other has the one after that of the one before
abbrev pub valued_from : Scope → ℤ → List Enumerator → List Valued
valued_from scope next [] = []
valued_from scope next (e ∷ es) =
    record { enumerator = e; number = number_at scope next e.value }
    ∷ valued_from scope (held_signed (number_at scope next e.value +ℤ pos 1)) es

-- the enumerators of an enum with their numbers
abbrev pub valued : Scope → List Enumerator → List Valued
valued scope enumerators = valued_from scope (pos 0) enumerators

-- the row of an enumerator with its number
abbrev pub member_row : Valued → MemberRow
member_row v = record { name = v.enumerator.name.text; number = v.number }

-- the number of the first enumerator with `[Default]`
abbrev pub default_in : List Valued → Option ℤ
default_in ones = option_map (λ (v : Valued). v.number) (find (λ (v : Valued). is_default v.enumerator) ones)

-- the enum of this full name and these enumerators, which stand as the file has them
abbrev pub enum_row : List ℕ → List Attribute → List Valued → EnumRow
enum_row full attributes ones = record {
  name = full;
  extensible = is_extensible attributes;
  members = map member_row ones;
  default = default_in ones;
  stable = is_stable attributes;
}

-- interfaces

-- a method whose request has this number: its response has the next one
abbrev pub method_row : ℕ → ℕ → Method → MethodRow
method_row ordinal first m = record {
  name = m.name.text;
  ordinal = ordinal;
  request = first;
  response = option_map (λ (parameters : List Parameter). first + 1) m.response;
}

-- methods with their ordinals, where so many structs stand before the first request
abbrev pub rows_of_methods : ℕ → List (NumberedAs Method) → List MethodRow
rows_of_methods first [] = []
rows_of_methods first (one ∷ others) =
    method_row one.ordinal first one.member ∷ rows_of_methods (first + structs_of one.member) others

-- methods, where the first has this ordinal if none is written, and so many structs stand before its request
abbrev pub method_rows : ℕ → ℕ → List Method → List MethodRow
method_rows next first methods = rows_of_methods first (numbered_by held (λ (m : Method). m.ordinal) next methods)

-- the interface of this full name and these methods, which stand as the file has them, where so many structs stand before theirs, and of
-- this version, stable or not
abbrev pub interface_row : List ℕ → ℕ → List Method → ℕ → Bool → InterfaceRow
interface_row full first methods version stable = record {
  name = full;
  methods = method_rows 0 first methods;
  version = version;
  stable = stable;
}

-- the struct of a list of parameters, which no name means, so it isn't stable by itself
abbrev pub parameters_row : List FileRows → Scope → List ℕ → List Parameter → DraftStruct
parameters_row rows scope full parameters = struct_row rows scope full false (map parameter_of parameters)

-- the struct of a response
abbrev pub response_row : List FileRows → Scope → List ℕ → Option (List Parameter) → Option DraftStruct
response_row rows scope full response = option_map (parameters_row rows scope full) response

-- the structs of the method of this full name: that of its request, and then that of its response where it has one
abbrev pub method_structs : List FileRows → Scope → List ℕ → Method → List DraftStruct
method_structs rows scope full m =
    parameters_row rows scope (within full (codes "request")) m.request
    ∷ option_to_list (response_row rows scope (within full (codes "response")) m.response)

-- the structs of the methods of the interface of this full name
abbrev pub structs_of_methods : List FileRows → Scope → List ℕ → List Method → List DraftStruct
structs_of_methods rows scope full methods = flat_map (λ (m : Method). method_structs rows scope (within full m.name.text) m) methods
