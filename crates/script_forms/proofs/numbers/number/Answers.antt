use Rattle.std.proofs.Common.{◌∙◌, sym, subst, ap, arith, ◌≡◌}
use Rattle.std.specs.Prelude.{decimal}
use Rattle.std.proofs.lemmas.Fmt.{parse-decimal, IsAscii-decimal}
use Rattle.std.proofs.lemmas.Str.{IsUtf8-from_ascii}
use Rattle.std.specs.Str.{IsAscii}
use Rattle.script_words.proofs.Parts.{never_false}
use Rattle.script_forms.proofs.numbers.number.Goals as goal

pub returns-in-Ok-parse : goal.returns-in-Ok-parse
returns-in-Ok-parse c n h e =
    let r = parse-decimal 32 n c.in-Ok.text.now c.parse.result h (omega arith) (c.in-Ok.ensures.cases.0 ∙ e) c.parse.ensures.value.0 in
    let same : c.in-Ok-parse.n ≡ n = cc in
    never_false c.as_bytes.result.now c.args.word.now
    (c.as_bytes.ensures.value ∙ c.in_ok-spelled-in-Ok-parse.ensures.ok ∙ ap decimal same ∙ sym e) c.if-eq.ensures

pub returns-in-Ok : goal.returns-in-Ok
returns-in-Ok c n h e =
    let r = parse-decimal 32 n c.in-Ok.text.now c.parse.result h (omega arith) (c.in-Ok.ensures.cases.0 ∙ e) c.parse.ensures.value.0 in cc

pub returns : goal.returns
returns c n h e = c.in-Err.ensures.cases.0 (IsUtf8-from_ascii c.args.word.now (subst IsAscii (sym e) (IsAscii-decimal n (omega arith))))
