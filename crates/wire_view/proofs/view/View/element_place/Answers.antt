use Rattle.std.proofs.Common.{◌≡◌, ◌+◌, ◌*◌, ◌<◌, ◌≤◌, ap, ◌∙◌, arith}
use Rattle.mj_base.specs.Bytes.{number32}
use Rattle.mj_schema.specs.KindTrees.{kind_view}
use Rattle.mj_schema.specs.Sizes.{size_of}
use Rattle.wire_model.specs.Values.{value}
use Rattle.wire_view.proofs.Fields.{element_found}
use Rattle.wire_view.proofs.Nths.{nth_past}
use Rattle.wire_view.proofs.view.View.element_place.Goals as goal

pub returns-then-i-count-clause-place : goal.returns-then-i-count-clause-place
returns-then-i-count-clause-place c =
    let v = c.args.self.now in
    let lt : c.args.i < number32 v.bytes.now (v.at + 4) = omega (arith, c.if-i-count.true, c.requires.counted) in
    let place-is : c.from.result * c.slot_size.result ≡ c.args.i * size_of (kind_view c.args.of.now) =
    ap (λ j. j * c.slot_size.result) c.from.ensures ∙ ap (λ s. c.args.i * s) c.slot_size.ensures.value in
    element_found v.left v.schema.now v.bytes.now v.at c.args.i _ (kind_view c.args.of.now) lt place-is c.requires.within c.requires.readable

pub returns-else-i-count-clause-place : goal.returns-else-i-count-clause-place
returns-else-i-count-clause-place c =
    let v = c.args.self.now in
    let le : number32 v.bytes.now (v.at + 4) ≤ c.args.i = omega (arith, c.if-i-count.false, c.requires.counted) in
    nth_past (value v.left v.schema.now v.bytes.now) v.schema.now v.bytes.now (v.at + 8) (kind_view c.args.of.now) 0 (number32 v.bytes.now (v.at + 4))
    c.args.i le
