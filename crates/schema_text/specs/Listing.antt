-- The text of a schema: its definitions in order, each by its line and below it a line for each of its parts, two blanks further
-- in. A line is words with one blank between them. Definitions go by their full names, their parts by their own.
use Rattle.std.specs.Prelude.{ℕ, Bool, true, false, List, [], ◌∷◌, ◌++◌, codes, decimal, slice_get, Option, Some, None}
use Rattle.std.specs.Fmt.{signed_decimal}
use Rattle.std.specs.List.{flat_map, join_by}
use Rattle.std.specs.Option.{option_map_or}
use Rattle.mojom_print.specs.Words.{string_text, truth_text}
use Rattle.mj_schema.specs.declared.rows.ConstRow.{ConstRow}
use Rattle.mj_schema.specs.declared.rows.DefinitionRow.{DefinitionRow}
use Rattle.mj_schema.specs.declared.rows.EnumRow.{EnumRow}
use Rattle.mj_schema.specs.declared.rows.FieldRow.{FieldRow}
use Rattle.mj_schema.specs.declared.rows.Flag.{Flag}
use Rattle.mj_schema.specs.declared.rows.InterfaceRow.{InterfaceRow}
use Rattle.mj_schema.specs.declared.rows.Literal.{Literal}
use Rattle.mj_schema.specs.declared.rows.Literal.TheVariants as literals
use Rattle.mj_schema.specs.declared.rows.MemberRow.{MemberRow}
use Rattle.mj_schema.specs.declared.rows.MethodRow.{MethodRow}
use Rattle.mj_schema.specs.declared.rows.RowSort.{RowSort}
use Rattle.mj_schema.specs.declared.rows.RowSort.TheVariants as sorts
use Rattle.mj_schema.specs.declared.rows.StructRow.{StructRow}
use Rattle.mj_schema.specs.declared.rows.UnionFieldRow.{UnionFieldRow}
use Rattle.mj_schema.specs.declared.rows.UnionRow.{UnionRow}
use Rattle.mj_schema.specs.declared.rows.VersionRow.{VersionRow}
use Rattle.mj_schema.specs.declared.schema.Schema.{Schema}
use Rattle.mj_schema.specs.KindTrees.{KindTree}
use Rattle.schema_text.specs.KindTexts.{kind_text}

-- words with blanks between them
abbrev pub spaced : List (List ℕ) → List ℕ
spaced words = join_by (λ word. word) (codes " ") words

-- words with blanks between them, and a line feed
abbrev pub line : List (List ℕ) → List ℕ
line words = spaced words ++ codes "\n"

-- true, -5 or "text", a string as in a printed Mojom file
abbrev pub value_text : Literal → List ℕ
value_text (literals.Bool value) = truth_text value
value_text (literals.Whole number) = signed_decimal number
value_text (literals.Text bytes) = string_text bytes

-- the word that says that a union or an enum is extensible
abbrev pub extensible_word : Bool → List (List ℕ)
extensible_word true = codes "extensible" ∷ []
extensible_word false = []

-- const a.N int32 6
unfoldable pub const_text : Schema → ConstRow → List ℕ
const_text schema row = line (codes "const" ∷ row.name ∷ kind_text schema row.kind ∷ value_text row.value ∷ [])

-- a member of an enum:   value A 0
unfoldable pub member_line : MemberRow → List ℕ
member_line member = line (codes "  value" ∷ member.name ∷ signed_decimal member.number ∷ [])

-- enum a.E, or enum a.E extensible, and its members
unfoldable pub enum_text : EnumRow → List ℕ
enum_text row = line (codes "enum" ∷ row.name ∷ extensible_word row.extensible) ++ flat_map member_line row.members

-- what fields of structs and of unions have in common, by an ordinal or a tag:   field 0 a int32
unfoldable pub field_text : Schema → (number : ℕ) (name : List ℕ) → KindTree → List ℕ
field_text schema number name kind = spaced (codes "  field" ∷ decimal number ∷ name ∷ kind_text schema kind ∷ [])

-- a field of a union by its tag:   field 0 a int32
unfoldable pub union_field_line : Schema → UnionFieldRow → List ℕ
union_field_line schema field = line (field_text schema field.tag field.name field.kind ∷ [])

-- union a.U, or union a.U extensible, and its fields
unfoldable pub union_text : Schema → UnionRow → List ℕ
union_text schema row = line (codes "union" ∷ row.name ∷ extensible_word row.extensible) ++ flat_map (union_field_line schema) row.fields

-- a method by its ordinal:   method 0 M
unfoldable pub method_line : MethodRow → List ℕ
method_line method = line (codes "  method" ∷ decimal method.ordinal ∷ method.name ∷ [])

-- interface a.I, and its methods
unfoldable pub interface_text : InterfaceRow → List ℕ
interface_text row = line (codes "interface" ∷ row.name ∷ []) ++ flat_map method_line row.methods

-- where the flag of a field is, its byte and its bit, where it has one: flag 0 3
abbrev pub flag_words : Option Flag → List (List ℕ)
flag_words None = []
flag_words (Some flag) = codes "flag" ∷ decimal flag.offset ∷ decimal flag.bit ∷ []

-- a field of a struct by its ordinal, with its byte, its bit and its version, and its flag:   field 1 b int8? 4 0 1 flag 0 3
unfoldable pub field_line : Schema → FieldRow → List ℕ
field_line schema field =
    line (field_text schema field.ordinal field.name field.kind ∷ decimal field.offset ∷ decimal field.bit ∷ decimal field.min_version ∷ flag_words field.flag)

-- a version of a struct, with how many fields and bytes it has:   version 1 2 16
unfoldable pub version_line : VersionRow → List ℕ
version_line row = line (codes "  version" ∷ decimal row.version ∷ decimal row.fields ∷ decimal row.bytes ∷ [])

-- struct a.S, its fields and its versions
unfoldable pub struct_text : Schema → StructRow → List ℕ
struct_text schema row =
    line (codes "struct" ∷ row.name ∷ []) ++ (flat_map (field_line schema) row.fields ++ flat_map version_line row.versions)

-- the definition of a sort and a number; one that isn't there has no lines
abbrev pub row_text : Schema → RowSort → ℕ → List ℕ
row_text schema sorts.Struct number = option_map_or (struct_text schema) (slice_get schema.structs number) []
row_text schema sorts.Union number = option_map_or (union_text schema) (slice_get schema.unions number) []
row_text schema sorts.Enum number = option_map_or enum_text (slice_get schema.enums number) []
row_text schema sorts.Interface number = option_map_or interface_text (slice_get schema.interfaces number) []
row_text schema sorts.Const number = option_map_or (const_text schema) (slice_get schema.consts number) []

-- a definition
abbrev pub definition_text : Schema → DefinitionRow → List ℕ
definition_text schema definition = row_text schema definition.sort definition.number

-- the whole text
abbrev pub listing : Schema → List ℕ
listing schema = flat_map (definition_text schema) schema.order
