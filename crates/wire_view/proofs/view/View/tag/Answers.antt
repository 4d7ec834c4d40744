use Rattle.std.proofs.Common.{ℕ, Some, length, ap, ◌∙◌, arith}
use Rattle.std.specs.Prelude.{slice_get}
use Rattle.wire_model.specs.Marks.{visit}
use Rattle.wire_model.specs.Values.{value}
use Rattle.wire_view.specs.Parts.{tag_of, is_object}
use Rattle.wire_view.specs.Views.{tree_of}
use Rattle.wire_view.proofs.Members.{tag_found}
use Rattle.wire_view.proofs.ObjectFacts.{struct_tag}
use Rattle.wire_view.proofs.Sorts.{struct_shape}
use Rattle.wire_view.proofs.Standing.{union_readable, array_tree, map_tree, found_tree}
use Rattle.wire_view.proofs.view.View.tag.Goals as goal

pub overflow_add-self : goal.overflow_add-self
overflow_add-self c =
    let v = c.args.self.now in
    let r = (union_readable (length v.bytes.now) (visit v.left v.schema.now v.bytes.now) v.schema.now v.bytes.now v.at v.on v.readable c.in-Union.field-0
    c.in-Union.is).0 in
    omega (arith, r)

pub le32-requires : goal.le32-requires
le32-requires c =
    let v = c.args.self.now in
    let r = (union_readable (length v.bytes.now) (visit v.left v.schema.now v.bytes.now) v.schema.now v.bytes.now v.at v.on v.readable c.in-Union.field-0
    c.in-Union.is).0 in
    omega (arith, r)

pub returns-in-Union : goal.returns-in-Union
returns-in-Union c =
    let v = c.args.self.now in
    let next = value v.left v.schema.now v.bytes.now in
    let tree = found_tree next v.schema.now v.bytes.now v.at v.on c.in-Union.field-0 c.in-Union.is v.whole in
    ap (λ (tag : ℕ). Some tag) c.le32.ensures
    ∙ tag_found next v.bytes.now v.at (slice_get v.schema.now.unions c.in-Union.field-0) (ap is_object tree ∙ v.whole)
    ∙ ap tag_of tree

pub returns-in-Struct : goal.returns-in-Struct
returns-in-Struct c =
    let v = c.args.self.now in
    let shape = struct_shape (value v.left v.schema.now v.bytes.now) v.schema.now v.bytes.now v.at v.on v.whole c.in-Struct.field-0 c.in-Struct.is in
    struct_tag (tree_of v) shape.0 shape.1

pub returns-in-Array : goal.returns-in-Array
returns-in-Array c =
    let v = c.args.self.now in
    ap tag_of (array_tree (value v.left v.schema.now v.bytes.now) v.schema.now v.bytes.now v.at v.on c.in-Array.field-0 c.in-Array.is)

pub returns-in-Map : goal.returns-in-Map
returns-in-Map c =
    let v = c.args.self.now in
    ap tag_of (map_tree (value v.left v.schema.now v.bytes.now) v.schema.now v.bytes.now v.at v.on c.in-Map.field-0 c.in-Map.field-1 c.in-Map.is)
