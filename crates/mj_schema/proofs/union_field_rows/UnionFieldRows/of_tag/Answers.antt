use Rattle.std.proofs.Common.{List, arith, map, ◌∙◌, ap, subst, sym}
use Rattle.std.specs.Prelude.{◌==◌, find, option_and_then, slice_get}
use Rattle.std.proofs.lemmas.Int.{ints}
use Rattle.mj_schema.proofs.KeyedRows.{field_at}
use Rattle.mj_schema.specs.Places.{AreOrdered, tag_of}
use Rattle.mj_schema.specs.declared.places.KeyPlace.{KeyPlace}
use Rattle.mj_schema.specs.declared.rows.UnionFieldRow.{UnionFieldRow}
use Rattle.mj_schema.proofs.union_field_rows.UnionFieldRows.of_tag.Goals as goal

pub returns : goal.returns
returns c =
    let rows = c.self.inside.rows.items in
    let are = subst (λ (l : List KeyPlace). AreOrdered (map tag_of rows) l) (sym c.as_slice-places.ensures.value) c.self.invariant in
    c.row_at.ensures
    ∙ ap (λ (l : List UnionFieldRow). option_and_then (slice_get l) c.place_of-place.result) c.as_slice.ensures.value
    ∙ field_at rows c.as_slice-places.result.now _ c.args.tag c.place_of-place.result c.place_of-place.ensures are
    (omega (arith, ints, c.from-key.ensures))
    ∙ ap (find (λ (field : UnionFieldRow). field.tag == c.args.tag)) c.self.view_is
