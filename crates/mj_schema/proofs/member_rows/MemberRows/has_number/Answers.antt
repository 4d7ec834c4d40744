use Rattle.std.proofs.Common.{List, arith, map, ◌∙◌, ap, subst, sym}
use Rattle.std.specs.List.{list_any}
use Rattle.std.specs.Ordering.{int_eq}
use Rattle.std.proofs.lemmas.Int.{ints}
use Rattle.mj_schema.proofs.KeyedRows.{has_at}
use Rattle.mj_schema.specs.Places.{AreOrdered, number_of}
use Rattle.mj_schema.specs.declared.places.KeyPlace.{KeyPlace}
use Rattle.mj_schema.specs.declared.rows.MemberRow.{MemberRow}
use Rattle.mj_schema.proofs.member_rows.MemberRows.has_number.Goals as goal

pub returns : goal.returns
returns c =
    let rows = c.self.inside.rows.items in
    let are = subst (λ (l : List KeyPlace). AreOrdered (map number_of rows) l) (sym c.as_slice-places.ensures.value) c.self.invariant in
    c.is_some.ensures
    ∙ has_at rows c.as_slice-places.result.now _ c.args.number c.place_of-place.result c.place_of-place.ensures are
    (omega (arith, ints, c.from-key.ensures))
    ∙ ap (λ (members : List MemberRow). list_any (λ (member : MemberRow). int_eq member.number c.args.number) members) c.self.view_is
