-- What a newer row changes so that it doesn't read what the older one writes: the members are looked at in the order of their ordinals, tags
-- or numbers, and all for one change before the next. The first of these changes is the one that counts.
use Rattle.std.specs.Prelude.{ℕ, ℤ, ◌==◌, nat_lt, List, is_some, if◌then◌else◌, Option, Some, None, option_and_then, slice_get}
use Rattle.std.specs.Option.{option_or}
use Rattle.mj_schema.specs.KindTrees.{KindTree}
use Rattle.mj_schema.specs.declared.rows.EnumRow.{EnumRow}
use Rattle.mj_schema.specs.declared.rows.FieldRow.{FieldRow}
use Rattle.mj_schema.specs.declared.rows.InterfaceRow.{InterfaceRow}
use Rattle.mj_schema.specs.declared.rows.MethodRow.{MethodRow}
use Rattle.mj_schema.specs.declared.rows.StructRow.{StructRow}
use Rattle.mj_schema.specs.declared.rows.UnionFieldRow.{UnionFieldRow}
use Rattle.mj_schema.specs.declared.rows.UnionRow.{UnionRow}
use Rattle.wire_model.specs.Marks.{is_known}
use Rattle.wire_model.specs.Rows.{kind_of_tag, newest_version}
use Rattle.compat_model.specs.declared.reason.Change.{Change}
use Rattle.compat_model.specs.declared.reason.Change.TheVariants as changes
use Rattle.compat_model.specs.Kinds.{is_kept, is_same, kinds_fit}
use Rattle.compat_model.specs.Members.{first_found, method_at, numbers_of, ordinals_of, tags_of, unless}

-- ## Structs, whose fields stand along their ordinals

-- the newer struct lacks the field
abbrev pub field_gone : List FieldRow → FieldRow → Option Change
field_gone newer field = unless (is_some (slice_get newer field.ordinal)) (changes.FieldGone field.ordinal)

-- the kinds of the two fields don't fit
abbrev pub field_changed : List (Option ℕ) → List FieldRow → FieldRow → Option Change
field_changed namesakes newer field =
    option_and_then (λ (other : FieldRow). unless (kinds_fit namesakes field.kind other.kind) (changes.KindChanged field.ordinal))
    (slice_get newer field.ordinal)

-- the two fields are there since different versions
abbrev pub field_moved : List FieldRow → FieldRow → Option Change
field_moved newer field =
    option_and_then (λ (other : FieldRow). unless (other.min_version == field.min_version) (changes.VersionChanged field.ordinal))
    (slice_get newer field.ordinal)

-- a field of the newer struct that the older one lacks, since a version that isn't above the older one's newest
abbrev pub field_early : ℕ → List FieldRow → FieldRow → Option Change
field_early newest older field =
    if is_some (slice_get older field.ordinal) then None else unless (nat_lt newest field.min_version) (changes.EarlyField field.ordinal)

-- what breaks two structs: a field that is gone, then one whose kind doesn't fit, then one of another version, then one that comes too early
abbrev pub struct_change : List (Option ℕ) → StructRow → StructRow → Option Change
struct_change namesakes a b =
    option_or (option_or (option_or (first_found (field_gone b.fields) a.fields) (first_found (field_changed namesakes b.fields) a.fields))
    (first_found (field_moved b.fields) a.fields)) (first_found (field_early (newest_version a.versions) a.fields) b.fields)

-- ## Unions

-- the newer union lacks the tag
abbrev pub tag_gone : List UnionFieldRow → ℕ → Option Change
tag_gone newer tag = unless (is_some (kind_of_tag newer tag)) (changes.TagGone tag)

-- two kinds under a tag don't fit
abbrev pub held_changed : List (Option ℕ) → ℕ → Option KindTree → Option KindTree → Option Change
held_changed namesakes tag (Some k) (Some l) = unless (kinds_fit namesakes k l) (changes.KindChanged tag)
held_changed namesakes tag _ _ = None

-- what the two unions hold under the tag doesn't fit
abbrev pub tag_changed : List (Option ℕ) → List UnionFieldRow → List UnionFieldRow → ℕ → Option Change
tag_changed namesakes older newer tag = held_changed namesakes tag (kind_of_tag older tag) (kind_of_tag newer tag)

-- what breaks two unions: that the newer isn't extensible any more, then a tag that is gone, then one whose kind doesn't fit
abbrev pub union_change : List (Option ℕ) → UnionRow → UnionRow → Option Change
union_change namesakes a b =
    option_or (option_or (unless (is_kept a.extensible b.extensible) changes.ExtensibleGone) (first_found (tag_gone b.fields) (tags_of a.fields)))
    (first_found (tag_changed namesakes a.fields b.fields) (tags_of a.fields))

-- ## Enums

-- the newer enum has no member of the number, and isn't extensible
abbrev pub member_gone : EnumRow → ℤ → Option Change
member_gone newer number = unless (is_known (Some newer) number) (changes.MemberGone number)

-- what breaks two enums: that the newer isn't extensible any more, then a number that is gone
abbrev pub enum_change : EnumRow → EnumRow → Option Change
enum_change a b = option_or (unless (is_kept a.extensible b.extensible) changes.ExtensibleGone) (first_found (member_gone b) (numbers_of a.members))

-- ## Interfaces

-- the newer interface lacks the method
abbrev pub method_gone : List MethodRow → ℕ → Option Change
method_gone newer ordinal = unless (is_some (method_at newer ordinal)) (changes.MethodGone ordinal)

-- one of two methods has a response, the other none
abbrev pub reply_changed : ℕ → Option MethodRow → Option MethodRow → Option Change
reply_changed ordinal (Some m) (Some n) = unless (is_same (is_some m.response) (is_some n.response)) (changes.ResponseChanged ordinal)
reply_changed ordinal _ _ = None

-- of the two methods of the ordinal
abbrev pub response_changed : List MethodRow → List MethodRow → ℕ → Option Change
response_changed older newer ordinal = reply_changed ordinal (method_at older ordinal) (method_at newer ordinal)

-- what breaks two interfaces: a method that is gone, then a response that came or went
abbrev pub interface_change : InterfaceRow → InterfaceRow → Option Change
interface_change a b =
    option_or (first_found (method_gone b.methods) (ordinals_of a.methods)) (first_found (response_changed a.methods b.methods) (ordinals_of a.methods))
