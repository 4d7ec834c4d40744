-- Why a pair of rows is broken, and which pairs follow from it.
use Rattle.std.specs.Prelude.{ℕ, List, [], ◌∷◌, Option, Some, None, slice_get}
use Rattle.std.specs.List.{flat_map}
use Rattle.std.specs.Option.{option_map}
use Rattle.mj_schema.specs.declared.rows.EnumRow.{EnumRow}
use Rattle.mj_schema.specs.declared.rows.FieldRow.{FieldRow}
use Rattle.mj_schema.specs.declared.rows.InterfaceRow.{InterfaceRow}
use Rattle.mj_schema.specs.declared.rows.MethodRow.{MethodRow}
use Rattle.mj_schema.specs.declared.rows.StructRow.{StructRow}
use Rattle.mj_schema.specs.declared.rows.UnionFieldRow.{UnionFieldRow}
use Rattle.mj_schema.specs.declared.rows.UnionRow.{UnionRow}
use Rattle.mj_schema.specs.declared.schema.Schema.{Schema}
use Rattle.wire_model.specs.Rows.{kind_of_tag}
use Rattle.compat_model.specs.declared.pair.Pair.{Pair}
use Rattle.compat_model.specs.declared.pair.Pair.TheVariants.{Structs, Unions, Enums, Interfaces}
use Rattle.compat_model.specs.declared.reason.Change.{Change}
use Rattle.compat_model.specs.declared.reason.Change.TheVariants as changes
use Rattle.compat_model.specs.declared.reason.Reason.{Reason}
use Rattle.compat_model.specs.Kinds.{named_in}
use Rattle.compat_model.specs.Members.{method_at, ordinals_of, tags_of}
use Rattle.compat_model.specs.Changes.{struct_change, union_change, enum_change, interface_change}

-- what is made of two things, where both are there, and else this
abbrev pub of_both : {A B : Type 0} → B → (A → A → B) → Option A → Option A → B
of_both other f (Some a) (Some b) = f a b
of_both other f _ _ = other

-- ## Why a pair is broken

-- the full name that goes with a change, of those of the older row and of the newer
abbrev pub name_for : List ℕ → List ℕ → Change → List ℕ
name_for older newer (changes.EarlyField ordinal) = newer
name_for older newer _ = older

-- a change with its name
abbrev pub named : List ℕ → List ℕ → Change → Reason
named older newer change = record { change = change; name = name_for older newer change }

-- why two structs are broken, where they are
abbrev pub struct_reason : List (Option ℕ) → StructRow → StructRow → Option Reason
struct_reason namesakes a b = option_map (named a.name b.name) (struct_change namesakes a b)

-- why two unions are broken, where they are
abbrev pub union_reason : List (Option ℕ) → UnionRow → UnionRow → Option Reason
union_reason namesakes a b = option_map (named a.name b.name) (union_change namesakes a b)

-- why two enums are broken, where they are
abbrev pub enum_reason : EnumRow → EnumRow → Option Reason
enum_reason a b = option_map (named a.name b.name) (enum_change a b)

-- why two interfaces are broken, where they are
abbrev pub interface_reason : InterfaceRow → InterfaceRow → Option Reason
interface_reason a b = option_map (named a.name b.name) (interface_change a b)

-- why a pair is broken, where it is, by the interfaces of one name in the two schemas
abbrev pub pair_reason : Schema → Schema → List (Option ℕ) → Pair → Option Reason
pair_reason old new namesakes (Structs i j) = of_both None (struct_reason namesakes) (slice_get old.structs i) (slice_get new.structs j)
pair_reason old new namesakes (Unions i j) = of_both None (union_reason namesakes) (slice_get old.unions i) (slice_get new.unions j)
pair_reason old new namesakes (Enums i j) = of_both None enum_reason (slice_get old.enums i) (slice_get new.enums j)
pair_reason old new namesakes (Interfaces i j) = of_both None interface_reason (slice_get old.interfaces i) (slice_get new.interfaces j)

-- ## Which pairs follow

-- those of the fields of one ordinal
abbrev pub field_pairs : List FieldRow → FieldRow → List Pair
field_pairs newer field = of_both [] named_in (Some field.kind) (option_map (λ (other : FieldRow). other.kind) (slice_get newer field.ordinal))

-- those of the fields of two structs, in the order of the older one
abbrev pub struct_pairs : StructRow → StructRow → List Pair
struct_pairs a b = flat_map (field_pairs b.fields) a.fields

-- those of what the two unions hold under a tag
abbrev pub tag_pairs : List UnionFieldRow → List UnionFieldRow → ℕ → List Pair
tag_pairs older newer tag = of_both [] named_in (kind_of_tag older tag) (kind_of_tag newer tag)

-- those of what two unions hold, in the order of the tags
abbrev pub union_pairs : UnionRow → UnionRow → List Pair
union_pairs a b = flat_map (tag_pairs a.fields b.fields) (tags_of a.fields)

-- the structs of a response in each of the two
abbrev pub response_pair : ℕ → ℕ → List Pair
response_pair i j = Structs i j ∷ []

-- the structs of the parameters of two methods, and those of their responses
abbrev pub message_pairs : MethodRow → MethodRow → List Pair
message_pairs m n = Structs m.request n.request ∷ of_both [] response_pair m.response n.response

-- those of the methods of one ordinal
abbrev pub method_pairs : List MethodRow → List MethodRow → ℕ → List Pair
method_pairs older newer ordinal = of_both [] message_pairs (method_at older ordinal) (method_at newer ordinal)

-- those of the methods of two interfaces, in the order of the ordinals
abbrev pub interface_pairs : InterfaceRow → InterfaceRow → List Pair
interface_pairs a b = flat_map (method_pairs a.methods b.methods) (ordinals_of a.methods)

-- the pairs that follow from a pair, in order
abbrev pub follows : Schema → Schema → Pair → List Pair
follows old new (Structs i j) = of_both [] struct_pairs (slice_get old.structs i) (slice_get new.structs j)
follows old new (Unions i j) = of_both [] union_pairs (slice_get old.unions i) (slice_get new.unions j)
follows old new (Enums i j) = []
follows old new (Interfaces i j) = of_both [] interface_pairs (slice_get old.interfaces i) (slice_get new.interfaces j)
