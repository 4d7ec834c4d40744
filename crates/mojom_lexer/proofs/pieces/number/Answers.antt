use Rattle.std.proofs.Common.{arith, refl, sym, ◌∙◌}
use Rattle.mojom_lexer.proofs.Standing.{slice_len, number_room, number_is, number_stands, leading_zero, too_long}
use Rattle.mojom_lexer.proofs.pieces.number.Goals as goal

pub slice_bounds-number-end : goal.slice_bounds-number-end
slice_bounds-number-end c =
    slice_len c.args.bytes.now c.number_len-len.result (number_room c.args.bytes.now c.number_len-len.result c.requires c.number_len-len.ensures)

pub returns-then-has_leading_zero-clause-refused : goal.returns-then-has_leading_zero-clause-refused
returns-then-has_leading_zero-clause-refused c =
    let leads = sym c.has_leading_zero.ensures ∙ c.if-has_leading_zero.true in
    λ _. (leading_zero c.args.bytes.now c.number_len-len.result c.requires c.number_len-len.ensures leads, refl)

pub number_value-requires : goal.number_value-requires
number_value-requires c = number_is c.args.bytes.now c.number_len-len.result c.requires c.number_len-len.ensures

pub returns-in-Some-clause-ok : goal.returns-in-Some-clause-ok
returns-in-Some-clause-ok c =
    let leads = sym c.has_leading_zero.ensures ∙ c.if-has_leading_zero.false in
    let worth = c.in-Some.ensures.some in
    number_stands c.args.bytes.now c.number_len-len.result c.in-Some.value c.requires c.number_len-len.ensures leads worth (omega arith)

pub returns-in-None-clause-refused : goal.returns-in-None-clause-refused
returns-in-None-clause-refused c =
    let leads = sym c.has_leading_zero.ensures ∙ c.if-has_leading_zero.false in
    λ _. (too_long c.args.bytes.now c.number_len-len.result c.requires c.number_len-len.ensures leads c.in-None.ensures.none, refl)
