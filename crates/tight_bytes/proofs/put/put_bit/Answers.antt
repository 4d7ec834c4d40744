use Rattle.std.proofs.Common.{◌∙◌, ap, ◌∷◌, []}
use Rattle.wire_model.specs.Bytes.{write}
use Rattle.tight_bytes.proofs.Cells.{place_of, bit_of, set_write}
use Rattle.tight_bytes.proofs.put.put_bit.Goals as goal

pub returns-then-flag : goal.returns-then-flag
returns-then-flag c =
    let place = place_of c.args.offset c.args.bit c.requires.bit in
    let bit = bit_of c.args.offset c.args.bit c.requires.bit in
    rw (c.if-flag.true, place, bit) (set_write c.args.out.now c.args.offset c.with_bit.result c.requires.room
    ∙ ap (λ b. write c.args.out.now c.args.offset (b ∷ [])) c.with_bit.ensures)
