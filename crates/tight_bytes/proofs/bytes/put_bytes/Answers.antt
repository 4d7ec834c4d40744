use Rattle.std.proofs.Common.{◌≡◌, ◌+◌, ◌-◌, length, sym, ap, ◌∙◌, arith}
use borrow.Rule.Slice.PartMut.{put_mid}
use Rattle.tight_bytes.proofs.Writes.{write_put}
use Rattle.tight_bytes.proofs.bytes.put_bytes.Goals as goal

pub returns : goal.returns
returns c =
    let xs = c.args.out.now in
    let bs = c.args.bytes.now in
    let at = c.args.at in
    let n : at + length bs - at ≡ length bs = omega arith in
    let is : c.copy_from_slice.new.self ≡ bs = c.copy_from_slice.ensures.after in
    ap (λ m. put_mid at m xs c.copy_from_slice.new.self) n ∙ ap (put_mid at (length bs) xs) is ∙ sym (write_put xs at bs c.requires)
