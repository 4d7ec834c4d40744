-- What holds of the rows of a schema by themselves, as files are refused where it doesn't: literals are of their kinds, names of members
-- differ, what a version may lack can be absent, no list is too long, and the order of definitions has each row once.
use Rattle.std.specs.Prelude.{ℕ, ℤ, pos, neg_ℤ, ◌+◌, ◌-◌, ◌^◌, ◌==◌, ◌&&◌, ◌||◌, not, int_le, nat_le, Bool, true, false, List, [], ◌∷◌, length, map, slice_get, Option, Some, None, if◌then◌else◌}
use Rattle.std.specs.List.{list_all, list_any, flat_map}
use Rattle.std.specs.Option.{option_map_or}
use Rattle.std.specs.Ordering.{int_eq}
use Rattle.std.specs.Str.{is_utf8}
use Rattle.mj_base.specs.Texts.{are_distinct}
use Rattle.mj_base.specs.declared.limits.TheConstants.{MAX_FIELDS, MAX_UNION_FIELDS, MAX_ENUMERATORS, MAX_METHODS}
use Rattle.mj_schema.specs.KindTrees as kinds
use Rattle.mj_schema.specs.KindTrees.{KindTree}
use Rattle.mj_schema.specs.Parts.{has_flag}
use Rattle.mj_schema.specs.Sizes.{bits_of}
use Rattle.mj_schema.specs.declared.rows.ConstRow.{ConstRow}
use Rattle.mj_schema.specs.declared.rows.DefinitionRow.{DefinitionRow}
use Rattle.mj_schema.specs.declared.rows.DraftField.{DraftField}
use Rattle.mj_schema.specs.declared.rows.DraftStruct.{DraftStruct}
use Rattle.mj_schema.specs.declared.rows.EnumRow.{EnumRow}
use Rattle.mj_schema.specs.declared.rows.InterfaceRow.{InterfaceRow}
use Rattle.mj_schema.specs.declared.rows.Literal.{Literal}
use Rattle.mj_schema.specs.declared.rows.Literal.TheVariants as literals
use Rattle.mj_schema.specs.declared.rows.MemberRow.{MemberRow}
use Rattle.mj_schema.specs.declared.rows.MethodRow.{MethodRow}
use Rattle.mj_schema.specs.declared.rows.RowSort.{RowSort}
use Rattle.mj_schema.specs.declared.rows.RowSort.TheVariants as sorts
use Rattle.mj_schema.specs.declared.rows.UnionFieldRow.{UnionFieldRow}
use Rattle.mj_schema.specs.declared.rows.UnionRow.{UnionRow}

-- literals

-- a number of so many bits, with a sign or without
abbrev pub in_bits : Bool → ℕ → ℤ → Bool
in_bits true bits number = int_le (neg_ℤ (pos (2 ^ (bits - 1)))) number && int_le number (pos (2 ^ (bits - 1) - 1))
in_bits false bits number = int_le (pos 0) number && int_le number (pos (2 ^ bits - 1))

-- a literal of a basic kind: a bool, a number of so many bits, or a text
abbrev pub is_of_kind : KindTree → Literal → Bool
is_of_kind (kinds.BoolKind nullable) (literals.Bool value) = true
is_of_kind (kinds.IntKind width signed nullable) (literals.Whole number) = in_bits signed (bits_of width) number
is_of_kind (kinds.TextKind nullable) (literals.Text bytes) = true
is_of_kind _ _ = false

-- the enum is there, and a member of it has this number
abbrev pub has_number : Option EnumRow → ℤ → Bool
has_number None number = false
has_number (Some row) number = list_any (λ (member : MemberRow). int_eq member.number number) row.members

-- a literal that a field may have by default: one of its basic kind, or the number of a member of its enum
abbrev pub is_default_of : List EnumRow → KindTree → Literal → Bool
is_default_of enums (kinds.EnumKind number nullable) (literals.Whole value) = has_number (slice_get enums number) value
is_default_of enums kind literal = is_of_kind kind literal

-- a field has no default, or one of its kind; a bool, an integer or an enum that may be null has none
abbrev pub has_default : List EnumRow → KindTree → Option Literal → Bool
has_default enums kind None = true
has_default enums kind (Some literal) = not (has_flag kind) && is_default_of enums kind literal

-- the value of a constant is one of its kind, which is basic
abbrev pub has_value : ConstRow → Bool
has_value row = is_of_kind row.kind row.value

-- versions

-- it may be null
abbrev pub may_be_null : KindTree → Bool
may_be_null (kinds.BoolKind nullable) = nullable
may_be_null (kinds.IntKind width signed nullable) = nullable
may_be_null (kinds.EnumKind number nullable) = nullable
may_be_null (kinds.TextKind nullable) = nullable
may_be_null (kinds.HandleKind sort nullable) = nullable
may_be_null (kinds.ArrayKind of count nullable) = nullable
may_be_null (kinds.MapKind key value nullable) = nullable
may_be_null (kinds.StructKind number nullable) = nullable
may_be_null (kinds.UnionKind number nullable) = nullable
may_be_null (kinds.RemoteKind interface nullable) = nullable
may_be_null (kinds.ReceiverKind interface nullable) = nullable
may_be_null (kinds.AssociatedRemoteKind interface nullable) = nullable
may_be_null (kinds.AssociatedReceiverKind interface nullable) = nullable

-- a bool, an integer or an enum
abbrev pub is_plain : KindTree → Bool
is_plain (kinds.BoolKind nullable) = true
is_plain (kinds.IntKind width signed nullable) = true
is_plain (kinds.EnumKind number nullable) = true
is_plain _ = false

-- a field of a later version than 0 may be null, unless it is a bool, an integer or an enum
abbrev pub can_be_absent : DraftField → Bool
can_be_absent field = field.min_version == 0 || (is_plain field.kind || may_be_null field.kind)

-- members

-- a field of a struct
abbrev pub is_sound_field : List EnumRow → DraftField → Bool
is_sound_field enums field = can_be_absent field && has_default enums field.kind field.default

-- a struct: at most 4,096 fields, whose names differ
abbrev pub is_sound_struct : List EnumRow → DraftStruct → Bool
is_sound_struct enums row =
    nat_le (length row.fields) MAX_FIELDS
    && (are_distinct (map (λ (field : DraftField). field.name) row.fields) && list_all (is_sound_field enums) row.fields)

-- a union: at most 4,096 fields, whose names differ
abbrev pub is_sound_union : UnionRow → Bool
is_sound_union row =
    nat_le (length row.fields) MAX_UNION_FIELDS && are_distinct (map (λ (field : UnionFieldRow). field.name) row.fields)

-- an enum: at most 4,096 members, whose names differ and whose numbers have 32 bits
abbrev pub is_sound_enum : EnumRow → Bool
is_sound_enum row =
    nat_le (length row.members) MAX_ENUMERATORS
    && (are_distinct (map (λ (member : MemberRow). member.name) row.members)
    && list_all (λ (member : MemberRow). in_bits true 32 member.number) row.members)

-- an interface: at most 4,096 methods, whose names differ
abbrev pub is_sound_interface : InterfaceRow → Bool
is_sound_interface row =
    nat_le (length row.methods) MAX_METHODS && are_distinct (map (λ (method : MethodRow). method.name) row.methods)

-- the order of definitions

-- whether two sorts of rows are the same
abbrev pub same_sort : RowSort → RowSort → Bool
same_sort sorts.Struct sorts.Struct = true
same_sort sorts.Union sorts.Union = true
same_sort sorts.Enum sorts.Enum = true
same_sort sorts.Interface sorts.Interface = true
same_sort sorts.Const sorts.Const = true
same_sort _ _ = false

-- the number of a row, where it is one of this sort
abbrev pub number_in : RowSort → DefinitionRow → List ℕ
number_in sort row = if same_sort sort row.sort then row.number ∷ [] else []

-- the numbers of the rows of this sort, as the order has them
abbrev pub numbers_in : RowSort → List DefinitionRow → List ℕ
numbers_in sort order = flat_map (number_in sort) order

-- the numbers are k, k + 1 and so on, up to the one before n
abbrev pub are_counted : ℕ → ℕ → List ℕ → Bool
are_counted k n [] = k == n
are_counted k n (number ∷ numbers) = (number == k) && are_counted (k + 1) n numbers

-- the order has each of so many rows of this sort once, by their numbers
abbrev pub is_listed : List DefinitionRow → RowSort → ℕ → Bool
is_listed order sort count = are_counted 0 count (numbers_in sort order)

-- the order has each row once
abbrev pub are_listed : List DraftStruct → List UnionRow → List EnumRow → List InterfaceRow → List ConstRow → List DefinitionRow → Bool
are_listed structs unions enums interfaces consts order =
    is_listed order sorts.Struct (length structs)
    && (is_listed order sorts.Union (length unions)
    && (is_listed order sorts.Enum (length enums)
    && (is_listed order sorts.Interface (length interfaces) && is_listed order sorts.Const (length consts))))

-- all rows; of a struct it speaks of what files say, wherever its fields lie
unfoldable pub are_sound : List DraftStruct → List UnionRow → List EnumRow → List InterfaceRow → List ConstRow → List DefinitionRow → Bool
are_sound structs unions enums interfaces consts order =
    list_all (is_sound_struct enums) structs
    && (list_all is_sound_union unions
    && (list_all is_sound_enum enums
    && (list_all is_sound_interface interfaces
    && (list_all has_value consts && are_listed structs unions enums interfaces consts order))))

-- texts

-- a literal that is a text is UTF-8
abbrev pub is_text : Literal → Bool
is_text (literals.Text bytes) = is_utf8 bytes
is_text (literals.Bool value) = true
is_text (literals.Whole number) = true

-- the texts of a struct's defaults are UTF-8
abbrev pub has_texts : DraftStruct → Bool
has_texts row = list_all (λ (field : DraftField). option_map_or is_text field.default true) row.fields

-- all texts, of defaults and of constants, are UTF-8
unfoldable pub are_texts : List DraftStruct → List ConstRow → Bool
are_texts structs consts = list_all has_texts structs && list_all (λ (row : ConstRow). is_text row.value) consts
