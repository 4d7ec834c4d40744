use Rattle.std.proofs.Common.{◌≡◌, ◌+◌, ◌-◌, ◌%◌, length, arith}
use Rattle.std.proofs.lemmas.Result.{IfOk-equal}
use Rattle.mj_base.specs.Bytes.{rounded8}
use Rattle.tight_bytes.proofs.Emitting.{text_is}
use Rattle.tight_bytes.proofs.emit.emit_text.Goals as goal

pub returns : goal.returns
returns c =
    let n = length c.args.text.now in
    let padding : 7 - (n + 7) % 8 ≡ rounded8 n - n = omega arith in
    IfOk-equal c.push_zeros.result _ _ _ c.push_zeros.ensures
    (text_is c.args.out.now.items c.args.text.now c.begin_text.new.out.items (7 - (n + 7) % 8) c.in_ok-begin_text.ensures padding)
