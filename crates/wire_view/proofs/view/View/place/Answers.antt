use Rattle.std.proofs.Common.{length, ap, arith}
use Rattle.wire_model.specs.Marks.{visit}
use Rattle.wire_model.specs.Trees.{Tree}
use Rattle.wire_model.specs.Values.{value}
use Rattle.wire_view.specs.Parts.{part}
use Rattle.wire_view.proofs.PartKinds.{moved, array_kind, map_kind, union_kind}
use Rattle.wire_view.proofs.Standing.{array_readable, map_readable, union_readable, array_tree, map_tree, found_tree, union_sized}
use Rattle.wire_view.proofs.view.View.place.Goals as goal

-- structs

pub field_place-requires : goal.field_place-requires
field_place-requires c = (c.in-Struct.field-0, c.in-Struct.is)

pub returns-in-Struct : goal.returns-in-Struct
returns-in-Struct c = c.field_place.ensures.place

-- arrays

pub overflow_add-self : goal.overflow_add-self
overflow_add-self c =
    let v = c.args.self.now in
    let r = (array_readable (length v.bytes.now) (visit v.left v.schema.now v.bytes.now) v.schema.now v.bytes.now v.at v.on v.readable c.in-Array.of
    c.in-Array.is).within in
    omega (arith, r)

pub le32-count-requires : goal.le32-count-requires
le32-count-requires c =
    let v = c.args.self.now in
    let r = (array_readable (length v.bytes.now) (visit v.left v.schema.now v.bytes.now) v.schema.now v.bytes.now v.at v.on v.readable c.in-Array.of
    c.in-Array.is).within in
    omega (arith, r)

pub element_place-requires-clause-counted : goal.element_place-requires-clause-counted
element_place-requires-clause-counted c = c.le32-count.ensures

pub element_place-requires-clause-within : goal.element_place-requires-clause-within
element_place-requires-clause-within c =
    let v = c.args.self.now in
    (array_readable (length v.bytes.now) (visit v.left v.schema.now v.bytes.now) v.schema.now v.bytes.now v.at v.on v.readable c.in-Array.of
    c.in-Array.is).within

pub element_place-requires-clause-readable : goal.element_place-requires-clause-readable
element_place-requires-clause-readable c =
    let v = c.args.self.now in
    (array_readable (length v.bytes.now) (visit v.left v.schema.now v.bytes.now) v.schema.now v.bytes.now v.at v.on v.readable c.in-Array.of
    c.in-Array.is).content

pub returns-in-Array : goal.returns-in-Array
returns-in-Array c =
    let v = c.args.self.now in
    let next = value v.left v.schema.now v.bytes.now in
    moved (length v.bytes.now) (visit v.left v.schema.now v.bytes.now) next v.schema.now v.bytes.now c.element_place.result _ _ _ _
    (ap (λ (t : Tree). part t c.args.i) (array_tree next v.schema.now v.bytes.now v.at v.on c.in-Array.of c.in-Array.is))
    (array_kind v.schema.now v.on c.args.i c.in-Array.of c.in-Array.is) c.element_place.ensures.place

-- maps

pub list_place-requires-clause-within : goal.list_place-requires-clause-within
list_place-requires-clause-within c =
    let v = c.args.self.now in
    (map_readable (length v.bytes.now) (visit v.left v.schema.now v.bytes.now) v.schema.now v.bytes.now v.at v.on v.readable c.in-Map.key c.in-Map.one
    c.in-Map.is).within

pub list_place-requires-clause-keys : goal.list_place-requires-clause-keys
list_place-requires-clause-keys c =
    let v = c.args.self.now in
    (map_readable (length v.bytes.now) (visit v.left v.schema.now v.bytes.now) v.schema.now v.bytes.now v.at v.on v.readable c.in-Map.key c.in-Map.one
    c.in-Map.is).keys

pub list_place-requires-clause-values : goal.list_place-requires-clause-values
list_place-requires-clause-values c =
    let v = c.args.self.now in
    (map_readable (length v.bytes.now) (visit v.left v.schema.now v.bytes.now) v.schema.now v.bytes.now v.at v.on v.readable c.in-Map.key c.in-Map.one
    c.in-Map.is).values

pub returns-in-Map : goal.returns-in-Map
returns-in-Map c =
    let v = c.args.self.now in
    let next = value v.left v.schema.now v.bytes.now in
    moved (length v.bytes.now) (visit v.left v.schema.now v.bytes.now) next v.schema.now v.bytes.now c.list_place.result _ _ _ _
    (ap (λ (t : Tree). part t c.args.i) (map_tree next v.schema.now v.bytes.now v.at v.on c.in-Map.key c.in-Map.one c.in-Map.is))
    (map_kind v.schema.now v.on c.args.i c.in-Map.key c.in-Map.one c.in-Map.is) c.list_place.ensures

-- unions

pub member_place-requires-clause-within : goal.member_place-requires-clause-within
member_place-requires-clause-within c =
    let v = c.args.self.now in
    (union_readable (length v.bytes.now) (visit v.left v.schema.now v.bytes.now) v.schema.now v.bytes.now v.at v.on v.readable c.in-Union.number
    c.in-Union.is).0

pub member_place-requires-clause-readable : goal.member_place-requires-clause-readable
member_place-requires-clause-readable c =
    let v = c.args.self.now in
    let next = value v.left v.schema.now v.bytes.now in
    (union_readable (length v.bytes.now) (visit v.left v.schema.now v.bytes.now) v.schema.now v.bytes.now v.at v.on v.readable c.in-Union.number
    c.in-Union.is).1
    (union_sized next v.schema.now v.bytes.now v.at v.on c.in-Union.number c.in-Union.is v.whole)

pub returns-in-Union : goal.returns-in-Union
returns-in-Union c =
    let v = c.args.self.now in
    let next = value v.left v.schema.now v.bytes.now in
    moved (length v.bytes.now) (visit v.left v.schema.now v.bytes.now) next v.schema.now v.bytes.now c.member_place.result _ _ _ _
    (ap (λ (t : Tree). part t c.args.i) (found_tree next v.schema.now v.bytes.now v.at v.on c.in-Union.number c.in-Union.is v.whole))
    (union_kind v.schema.now v.on c.args.i c.in-Union.number c.in-Union.is) c.member_place.ensures
