use Rattle.std.proofs.Common.{sym, ◌∙◌, ap}
use Rattle.hex.specs.Hex.{encode_lower}
use Rattle.script_forms.proofs.Hexes.{never_empty, spelled_again, spelled_otherwise, not_read}
use Rattle.script_forms.proofs.numbers.hex_bytes.Goals as goal

pub returns-then-is_empty : goal.returns-then-is_empty
returns-then-is_empty c = never_empty c.args.word.now (sym c.is_empty.ensures ∙ c.if-is_empty.true)

pub returns-then-eq-2 : goal.returns-then-eq-2
returns-then-eq-2 c =
    rw c.from_vec.ensures
    (spelled_again c.args.word.now c.in-Ok.bytes.items c.as_bytes.result.now (sym c.is_empty.ensures ∙ c.if-is_empty.false) c.in-Ok.ensures.ok
    (c.as_bytes.ensures.value ∙ (c.in_ok-spelled-in-Ok.ensures ∙ ap encode_lower c.as_slice-in-Ok.ensures.value)) c.if-eq-2.ensures)

pub returns-else-eq-2 : goal.returns-else-eq-2
returns-else-eq-2 c =
    spelled_otherwise c.args.word.now c.in-Ok.bytes.items c.as_bytes.result.now (rw c.as_slice.ensures at c.if-eq.ensures) c.in-Ok.ensures.ok
    (c.as_bytes.ensures.value ∙ (c.in_ok-spelled-in-Ok.ensures ∙ ap encode_lower c.as_slice-in-Ok.ensures.value)) c.if-eq-2.ensures

pub returns-else-is_memory : goal.returns-else-is_memory
returns-else-is_memory c =
    not_read c.args.word.now c.in-Err.error (rw c.as_slice.ensures at c.if-eq.ensures)
    (λ e. let yes = c.is_memory.ensures.1 e in let no = c.if-is_memory.false in cc) c.in-Err.ensures.err
