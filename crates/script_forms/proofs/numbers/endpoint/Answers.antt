use Rattle.std.proofs.Common.{◌∙◌, sym, arith}
use Rattle.script_forms.proofs.Endpoints.{no_parts, no_name, no_number, word_is}
use Rattle.script_words.proofs.Slices.{parts_are}
use Rattle.script_forms.proofs.numbers.endpoint.Goals as goal

pub returns-in_default : goal.returns-in_default
returns-in_default c = no_parts c.args.word.now (λ a b e. c.in_default.ensures.none a b (parts_are _ _ _ c.as_slice.ensures.value c.in_ok-parts.ensures ∙ e))

pub returns-then-not-is_name : goal.returns-then-not-is_name
returns-then-not-is_name c =
    let h = sym (parts_are _ _ _ c.as_slice.ensures.value c.in_ok-parts.ensures) ∙ c.in-Some.ensures.some in
    no_name c.args.word.now c.in-Some.name.now c.in-Some.digits.now h (sym c.is_name.ensures ∙ c.if-not-is_name.true)

pub returns-in-Some-2 : goal.returns-in-Some-2
returns-in-Some-2 c =
    let h = sym (parts_are _ _ _ c.as_slice.ensures.value c.in_ok-parts.ensures) ∙ c.in-Some.ensures.some in
    let d = rw c.in-Some-2.is at c.in_ok-id.ensures in
    (word_is c.args.word.now c.in-Some.name.now c.in-Some.digits.now c.in-Some-2.id h d, sym c.is_name.ensures ∙ c.if-not-is_name.false, omega arith)

pub returns : goal.returns
returns c =
    let h = sym (parts_are _ _ _ c.as_slice.ensures.value c.in_ok-parts.ensures) ∙ c.in-Some.ensures.some in
    no_number c.args.word.now c.in-Some.name.now c.in-Some.digits.now h (rw c.in-None.is at c.in_ok-id.ensures)
