use Rattle.std.proofs.Common.{◌≡◌, ◌*◌, ◌/◌, ◌%◌, ◌^◌, arith}
use Rattle.tight_bytes.proofs.Cells.{small_power, bit_room}
use Rattle.tight_bytes.proofs.put.with_bit.Goals as goal

pub overflow_add-result : goal.overflow_add-result
overflow_add-result c =
    let p = small_power c.args.bit c.requires in
    let one : 1 * 2 ^ c.args.bit % 256 ≡ 2 ^ c.args.bit = omega (arith, p) in
    let free : c.args.byte / 2 ^ c.args.bit % 2 ≡ 0 = rw one at c.if-byte-one-eq0.true in
    let room = bit_room c.args.byte c.args.bit (omega (arith, c.ranges.byte.fits)) c.requires free in
    omega (arith, p, room)
