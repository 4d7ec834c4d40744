use Rattle.std.proofs.Common.{None, false, length, refl, sym, ap, ◌∙◌}
use Rattle.mj_schema.specs.KindTrees.{ArrayKind, MapKind, StructKind, UnionKind, kind_view}
use Rattle.wire_model.specs.Marks.{visit}
use Rattle.wire_model.specs.Values as values
use Rattle.wire_view.specs.PartValues.{object_in}
use Rattle.wire_view.specs.Parts.{plain}
use Rattle.wire_view.proofs.KindsOf.{like, like_part}
use Rattle.wire_view.proofs.Targets.{text_there, plain_array, plain_map, plain_struct, pointed_union, same_text, same_array, same_map, same_struct, same_union}
use Rattle.wire_view.proofs.cells.object_at.Goals as goal

-- strings

pub string_at-requires-clause-within : goal.string_at-requires-clause-within
string_at-requires-clause-within c =
    let bytes = c.args.bytes.now in
    (text_there (length bytes) (visit c.args.left c.args.schema.now bytes) c.args.schema.now bytes c.args.at (kind_view c.args.kind.now) c.in-Text.nullable refl
    (ap kind_view c.in-Text.is) c.requires).within

pub string_at-requires-clause-valid : goal.string_at-requires-clause-valid
string_at-requires-clause-valid c =
    let bytes = c.args.bytes.now in
    (text_there (length bytes) (visit c.args.left c.args.schema.now bytes) c.args.schema.now bytes c.args.at (kind_view c.args.kind.now) c.in-Text.nullable refl
    (ap kind_view c.in-Text.is) c.requires).valid

pub returns-in-Text-clause-value : goal.returns-in-Text-clause-value
returns-in-Text-clause-value c =
    let bytes = c.args.bytes.now in
    same_text (values.value c.args.left c.args.schema.now bytes) c.args.schema.now bytes c.args.at (kind_view c.args.kind.now) c.in-Text.nullable
    c.string_at.result.bytes.now (ap kind_view c.in-Text.is) c.string_at.ensures

-- arrays

pub array_at-requires : goal.array_at-requires
array_at-requires c =
    let bytes = c.args.bytes.now in
    rw c.deref.ensures (plain_array (length bytes) (visit c.args.left c.args.schema.now bytes) c.args.schema.now bytes c.args.at (kind_view c.args.kind.now)
    (kind_view c.in-Array.of.value) c.in-Array.count c.in-Array.nullable (ap kind_view c.in-Array.is) c.requires)

pub returns-in-Array-clause-value : goal.returns-in-Array-clause-value
returns-in-Array-clause-value c =
    let bytes = c.args.bytes.now in
    let array = rw c.deref.ensures at c.array_at.ensures.value in
    array
    ∙ same_array (values.value c.args.left c.args.schema.now bytes) c.args.schema.now bytes c.args.at (kind_view c.args.kind.now)
    (kind_view c.in-Array.of.value)
    c.in-Array.count c.in-Array.nullable (ap kind_view c.in-Array.is)

pub returns-in-Array-clause-kind : goal.returns-in-Array-clause-kind
returns-in-Array-clause-kind c =
    let array = rw c.deref.ensures at c.array_at.ensures.kind in
    like c.args.schema.now (ArrayKind (kind_view c.in-Array.of.value) None false) (kind_view c.args.kind.now) c.array_at.result
    (sym (ap plain (ap kind_view c.in-Array.is))) array

-- maps

pub map_at-requires : goal.map_at-requires
map_at-requires c =
    let bytes = c.args.bytes.now in
    rw (c.deref-in-Map.ensures, c.deref-in-Map-2.ensures)
    (plain_map (length bytes) (visit c.args.left c.args.schema.now bytes) c.args.schema.now bytes c.args.at (kind_view c.args.kind.now)
    (kind_view c.in-Map.key.value) (kind_view c.in-Map.value.value) c.in-Map.nullable (ap kind_view c.in-Map.is) c.requires)

pub returns-in-Map-clause-value : goal.returns-in-Map-clause-value
returns-in-Map-clause-value c =
    let bytes = c.args.bytes.now in
    let map = rw (c.deref-in-Map.ensures, c.deref-in-Map-2.ensures) at c.map_at.ensures.value in
    map
    ∙ same_map (values.value c.args.left c.args.schema.now bytes) c.args.schema.now bytes c.args.at (kind_view c.args.kind.now) (kind_view c.in-Map.key.value)
    (kind_view c.in-Map.value.value) c.in-Map.nullable (ap kind_view c.in-Map.is)

pub returns-in-Map-clause-kind : goal.returns-in-Map-clause-kind
returns-in-Map-clause-kind c =
    let map = rw (c.deref-in-Map.ensures, c.deref-in-Map-2.ensures) at c.map_at.ensures.kind in
    like c.args.schema.now (MapKind (kind_view c.in-Map.key.value) (kind_view c.in-Map.value.value) false) (kind_view c.args.kind.now) c.map_at.result
    (sym (ap plain (ap kind_view c.in-Map.is))) map

-- structs

pub struct_at-requires : goal.struct_at-requires
struct_at-requires c =
    let bytes = c.args.bytes.now in
    plain_struct (length bytes) (visit c.args.left c.args.schema.now bytes) c.args.schema.now bytes c.args.at (kind_view c.args.kind.now) c.in-Struct.number
    c.in-Struct.nullable (ap kind_view c.in-Struct.is) c.requires

pub returns-in-Struct-clause-value : goal.returns-in-Struct-clause-value
returns-in-Struct-clause-value c =
    let bytes = c.args.bytes.now in
    c.struct_at.ensures.value
    ∙ same_struct (values.value c.args.left c.args.schema.now bytes) c.args.schema.now bytes c.args.at (kind_view c.args.kind.now) c.in-Struct.number
    c.in-Struct.nullable (ap kind_view c.in-Struct.is)

pub returns-in-Struct-clause-kind : goal.returns-in-Struct-clause-kind
returns-in-Struct-clause-kind c =
    like_part c.args.schema.now (StructKind c.in-Struct.number false) (kind_view c.args.kind.now) (object_in c.struct_at.result)
    (sym (ap plain (ap kind_view c.in-Struct.is))) c.struct_at.ensures.kind

-- unions

pub inline_at-requires-clause-within : goal.inline_at-requires-clause-within
inline_at-requires-clause-within c =
    let bytes = c.args.bytes.now in
    (pointed_union (length bytes) (visit c.args.left c.args.schema.now bytes) c.args.schema.now bytes c.args.at (kind_view c.args.kind.now) c.in-Union.number
    c.in-Union.nullable (ap kind_view c.in-Union.is) c.requires).0

pub inline_at-requires-clause-readable : goal.inline_at-requires-clause-readable
inline_at-requires-clause-readable c =
    let bytes = c.args.bytes.now in
    (pointed_union (length bytes) (visit c.args.left c.args.schema.now bytes) c.args.schema.now bytes c.args.at (kind_view c.args.kind.now) c.in-Union.number
    c.in-Union.nullable (ap kind_view c.in-Union.is) c.requires).1

pub returns-in-Union-clause-value : goal.returns-in-Union-clause-value
returns-in-Union-clause-value c =
    let bytes = c.args.bytes.now in
    c.inline_at.ensures.value
    ∙ same_union (values.value c.args.left c.args.schema.now bytes) c.args.schema.now bytes c.args.at (kind_view c.args.kind.now) c.in-Union.number
    c.in-Union.nullable (ap kind_view c.in-Union.is)

pub returns-in-Union-clause-kind : goal.returns-in-Union-clause-kind
returns-in-Union-clause-kind c =
    like_part c.args.schema.now (UnionKind c.in-Union.number false) (kind_view c.args.kind.now) (object_in c.inline_at.result)
    (sym (ap plain (ap kind_view c.in-Union.is))) c.inline_at.ensures.kind
