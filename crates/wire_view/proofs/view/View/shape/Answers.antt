use Rattle.std.proofs.Common.{length}
use Rattle.wire_model.specs.Marks.{visit}
use Rattle.wire_model.specs.Values.{value}
use Rattle.wire_view.proofs.Sorts.{struct_shape, array_shape, map_shape, union_shape}
use Rattle.wire_view.proofs.Standing.{map_readable}
use Rattle.wire_view.proofs.view.View.shape.Goals as goal

pub returns-in-Struct : goal.returns-in-Struct
returns-in-Struct c =
    let v = c.args.self.now in
    struct_shape (value v.left v.schema.now v.bytes.now) v.schema.now v.bytes.now v.at v.on v.whole c.in-Struct.field-0 c.in-Struct.is

pub returns-in-Array : goal.returns-in-Array
returns-in-Array c =
    let v = c.args.self.now in
    array_shape (value v.left v.schema.now v.bytes.now) v.schema.now v.bytes.now v.at v.on v.whole c.in-Array.field-0 c.in-Array.is

pub returns-in-Map : goal.returns-in-Map
returns-in-Map c =
    let v = c.args.self.now in
    map_shape (length v.bytes.now) v.left v.schema.now v.bytes.now v.at v.on c.in-Map.field-0 c.in-Map.field-1 c.in-Map.is
    (map_readable (length v.bytes.now) (visit v.left v.schema.now v.bytes.now) v.schema.now v.bytes.now v.at v.on v.readable c.in-Map.field-0 c.in-Map.field-1
    c.in-Map.is)

pub returns-in-Union : goal.returns-in-Union
returns-in-Union c =
    let v = c.args.self.now in
    union_shape (value v.left v.schema.now v.bytes.now) v.schema.now v.bytes.now v.at v.on v.whole c.in-Union.field-0 c.in-Union.is
