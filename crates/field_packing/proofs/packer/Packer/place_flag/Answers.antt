use Rattle.std.proofs.Common.{◌≡◌, ◌+◌, ◌*◌, ◌/◌, ◌%◌, true, Bool, ◌∙◌, sym, subst, arith}
use Rattle.std.specs.Prelude.{Some}
use Rattle.mj_schema.specs.Parts.{FLAG_KIND, has_flag}
use Rattle.mj_schema.specs.Layout.{IsFlagPlaced}
use Rattle.field_packing.proofs.Cuts.{end_below}
use Rattle.field_packing.proofs.Cutting.{rest_sorted, place_near}
use Rattle.field_packing.proofs.Packed.{placed, holes_below}
use Rattle.field_packing.proofs.packer.Packer.place_flag.Goals as goal

pub take_bits-requires-clause-holes : goal.take_bits-requires-clause-holes
take_bits-requires-clause-holes c = holes_below 0 c.args.self.now.holes.items c.args.self.now.end _ c.requires.sorted (omega (arith, c.requires.end))

pub returns-in_ok-at-clause-least : goal.returns-in_ok-at-clause-least
returns-in_ok-at-clause-least c taken tracks =
    let hs = c.args.self.now.holes.items in
    let end = c.args.self.now.end in
    let at = c.in_ok-at.at in
    let whole : 8 * (at / 8) + at % 8 ≡ at = omega arith in
    let on = placed FLAG_KIND (at / 8) (at % 8) taken hs c.take_bits.new.self.holes.items end c.take_bits.new.self.end (omega arith) (omega arith) (omega arith)
    (whole ∙ c.in_ok-at.ensures.place) c.in_ok-at.ensures.rest c.in_ok-at.ensures.end tracks in
    let has : true ≡ has_flag c.args.kind.now = sym c.if-has_flag.true ∙ c.has_flag.ensures in
    (subst (λ (b : Bool). IsFlagPlaced taken b (Some (record { offset = at / 8; bit = at % 8 }))) has on.0, on.1)

pub returns-in_ok-at-clause-sorted : goal.returns-in_ok-at-clause-sorted
returns-in_ok-at-clause-sorted c =
    rw (c.in_ok-at.ensures.rest, c.in_ok-at.ensures.end)
    (rest_sorted 1 1 (omega arith) (omega arith) 0 c.args.self.now.holes.items c.args.self.now.end c.requires.sorted)

pub returns-in_ok-at-clause-end : goal.returns-in_ok-at-clause-end
returns-in_ok-at-clause-end c =
    omega (arith, c.in_ok-at.ensures.end, end_below 1 1 c.args.self.now.end c.args.self.now.holes.items (omega arith))

pub returns-in_ok-at-clause-near : goal.returns-in_ok-at-clause-near
returns-in_ok-at-clause-near c =
    let below = place_near 1 1 (omega arith) (omega arith) 0 c.args.self.now.holes.items c.args.self.now.end c.requires.sorted in
    omega (arith, below, c.in_ok-at.ensures.place, end_below 1 1 c.args.self.now.end c.args.self.now.holes.items (omega arith))
