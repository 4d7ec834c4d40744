use Rattle.std.proofs.Common.{◌≡◌, ◌+◌, true, false, length, sym, ap, ◌∙◌}
use Rattle.mj_base.specs.Bytes.{number32}
use Rattle.mj_schema.specs.KindTrees.{kind_view}
use Rattle.wire_model.specs.Marks.{visit}
use Rattle.wire_model.specs.Trees.{Tree}
use Rattle.wire_model.specs.Values.{value}
use Rattle.wire_view.specs.Ons.{on_kind}
use Rattle.wire_view.specs.Parts.{how_many, is_array, part}
use Rattle.wire_view.specs.declared.on.On.{On}
use Rattle.wire_view.proofs.Counts.{count_elements}
use Rattle.wire_view.proofs.PartKinds.{moved, array_kind}
use Rattle.wire_view.proofs.Standing.{array_readable, array_tree}
use Rattle.wire_view.proofs.array_view.ArrayView.place.Goals as goal

pub element_place-requires-clause-counted : goal.element_place-requires-clause-counted
element_place-requires-clause-counted c =
    let v = c.args.self.now.view in
    let next = value v.left v.schema.now v.bytes.now in
    c.args.self.now.counted
    ∙ sym (ap how_many (array_tree next v.schema.now v.bytes.now v.at v.on c.in-Array.of c.in-Array.is))
    ∙ count_elements next v.schema.now v.bytes.now (v.at + 8) (kind_view c.in-Array.of.now) 0 (number32 v.bytes.now (v.at + 4))

pub element_place-requires-clause-within : goal.element_place-requires-clause-within
element_place-requires-clause-within c =
    let v = c.args.self.now.view in
    (array_readable (length v.bytes.now) (visit v.left v.schema.now v.bytes.now) v.schema.now v.bytes.now v.at v.on v.readable c.in-Array.of
    c.in-Array.is).within

pub element_place-requires-clause-readable : goal.element_place-requires-clause-readable
element_place-requires-clause-readable c =
    let v = c.args.self.now.view in
    (array_readable (length v.bytes.now) (visit v.left v.schema.now v.bytes.now) v.schema.now v.bytes.now v.at v.on v.readable c.in-Array.of
    c.in-Array.is).content

pub returns-clause-place : goal.returns-clause-place
returns-clause-place c =
    let v = c.args.self.now.view in
    let next = value v.left v.schema.now v.bytes.now in
    moved (length v.bytes.now) (visit v.left v.schema.now v.bytes.now) next v.schema.now v.bytes.now c.element_place.result _ _ _ _
    (ap (λ (t : Tree). part t c.args.j) (array_tree next v.schema.now v.bytes.now v.at v.on c.in-Array.of c.in-Array.is))
    (array_kind v.schema.now v.on c.args.j c.in-Array.of c.in-Array.is) c.element_place.ensures.place

pub returns-clause-own : goal.returns-clause-own
returns-clause-own c = c.element_place.ensures.own

-- it is of an array

pub unreachable-requires : goal.unreachable-requires
unreachable-requires c =
    let no : false ≡ true = sym (ap (λ (o : On). is_array (on_kind o)) c.in-Struct.is) ∙ c.args.self.now.stands in
    cc

pub unreachable-requires-in-Map : goal.unreachable-requires-in-Map
unreachable-requires-in-Map c =
    let no : false ≡ true = sym (ap (λ (o : On). is_array (on_kind o)) c.in-Map.is) ∙ c.args.self.now.stands in
    cc

pub unreachable-requires-in-Union : goal.unreachable-requires-in-Union
unreachable-requires-in-Union c =
    let no : false ≡ true = sym (ap (λ (o : On). is_array (on_kind o)) c.in-Union.is) ∙ c.args.self.now.stands in
    cc
