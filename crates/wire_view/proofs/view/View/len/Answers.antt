use Rattle.std.proofs.Common.{◌+◌, length, sym, ap, ◌∙◌, arith}
use Rattle.mj_base.specs.Bytes.{number32}
use Rattle.mj_schema.specs.KindTrees.{kind_view}
use Rattle.wire_model.specs.Marks.{visit}
use Rattle.wire_model.specs.Rows.{row_for}
use Rattle.wire_model.specs.Values.{value}
use Rattle.wire_view.specs.Parts.{how_many}
use Rattle.wire_view.proofs.Counts.{few, count_fields, count_elements}
use Rattle.wire_view.proofs.Kept.{the_row, found, fields_are, tree_is}
use Rattle.wire_view.proofs.Standing.{array_readable, union_readable, array_tree, map_tree, found_tree}
use Rattle.wire_view.proofs.view.View.len.Goals as goal

pub overflow_add-self : goal.overflow_add-self
overflow_add-self c =
    let v = c.args.self.now in
    let r = (array_readable (length v.bytes.now) (visit v.left v.schema.now v.bytes.now) v.schema.now v.bytes.now v.at v.on v.readable c.in-Array.field-0
    c.in-Array.is).within in
    omega (arith, r)

pub le32-requires : goal.le32-requires
le32-requires c =
    let v = c.args.self.now in
    let r = (array_readable (length v.bytes.now) (visit v.left v.schema.now v.bytes.now) v.schema.now v.bytes.now v.at v.on v.readable c.in-Array.field-0
    c.in-Array.is).within in
    omega (arith, r)

pub members-requires : goal.members-requires
members-requires c =
    let v = c.args.self.now in
    (union_readable (length v.bytes.now) (visit v.left v.schema.now v.bytes.now) v.schema.now v.bytes.now v.at v.on v.readable c.in-Union.number
    c.in-Union.is).0

pub overflow_cast-result : goal.overflow_cast-result
overflow_cast-result c =
    let v = c.args.self.now in
    let few' = few v.schema.now c.in-Struct.field-0 (the_row v c.in-Struct.field-0 c.in-Struct.is) (found v c.in-Struct.field-0 c.in-Struct.is) in
    omega (arith, few', ap length (fields_are v c.in-Struct.field-0 c.in-Struct.is))

pub returns-in-Struct : goal.returns-in-Struct
returns-in-Struct c =
    let v = c.args.self.now in
    let next = value v.left v.schema.now v.bytes.now in
    let row = the_row v c.in-Struct.field-0 c.in-Struct.is in
    ap length (fields_are v c.in-Struct.field-0 c.in-Struct.is)
    ∙ sym (count_fields next v.schema.now v.bytes.now (v.at + 8) (row_for row.versions (number32 v.bytes.now (v.at + 4))).fields row.fields)
    ∙ ap how_many (tree_is v c.in-Struct.field-0 c.in-Struct.is)

pub returns-in-Array : goal.returns-in-Array
returns-in-Array c =
    let v = c.args.self.now in
    let next = value v.left v.schema.now v.bytes.now in
    c.le32.ensures
    ∙ sym (count_elements next v.schema.now v.bytes.now (v.at + 8) (kind_view c.in-Array.field-0.now) 0 (number32 v.bytes.now (v.at + 4)))
    ∙ ap how_many (array_tree next v.schema.now v.bytes.now v.at v.on c.in-Array.field-0 c.in-Array.is)

pub returns-in-Map : goal.returns-in-Map
returns-in-Map c =
    let v = c.args.self.now in
    ap how_many (map_tree (value v.left v.schema.now v.bytes.now) v.schema.now v.bytes.now v.at v.on c.in-Map.field-0 c.in-Map.field-1 c.in-Map.is)

pub returns-in-Union : goal.returns-in-Union
returns-in-Union c =
    let v = c.args.self.now in
    c.members.ensures
    ∙ ap how_many (found_tree (value v.left v.schema.now v.bytes.now) v.schema.now v.bytes.now v.at v.on c.in-Union.number c.in-Union.is v.whole)
