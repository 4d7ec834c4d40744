use Rattle.std.proofs.Common.{◌∙◌, sym, subst, ap, ◌≡◌}
use Rattle.std.specs.Prelude.{ℤ}
use Rattle.std.specs.Fmt.{signed_decimal}
use Rattle.std.specs.Int.{w64, cast_signed, cast_unsigned}
use Rattle.std.specs.Str.{IsAscii}
use Rattle.std.proofs.lemmas.Int.{to_z-of_z}
use Rattle.std.proofs.lemmas.Str.{IsUtf8-from_ascii}
use Rattle.script_words.proofs.Parts.{never_false}
use Rattle.script_forms.proofs.Moments.{moment_is_ascii, read_moment}
use Rattle.script_forms.proofs.numbers.moment.Goals as goal

pub returns-in-Ok-parse : goal.returns-in-Ok-parse
returns-in-Ok-parse c z h e =
    let r = read_moment z c.in-Ok.text.now c.parse.result h (c.in-Ok.ensures.cases.0 ∙ e) c.parse.ensures.value.0 in
    let same : c.in-Ok-parse.at ≡ z = cc in
    never_false c.as_bytes.result.now c.args.word.now
    (c.as_bytes.ensures.value ∙ c.in_ok-spelled-in-Ok-parse.ensures.ok
    ∙ ap (λ (y : ℤ). signed_decimal (cast_signed w64 (cast_unsigned w64 y))) same ∙ ap signed_decimal (to_z-of_z w64 z h) ∙ sym e) c.if-eq.ensures

pub returns-in-Ok : goal.returns-in-Ok
returns-in-Ok c z h e =
    let r = read_moment z c.in-Ok.text.now c.parse.result h (c.in-Ok.ensures.cases.0 ∙ e) c.parse.ensures.value.0 in cc

pub returns : goal.returns
returns c z h e = c.in-Err.ensures.cases.0 (IsUtf8-from_ascii c.args.word.now (subst IsAscii (sym e) (moment_is_ascii z h)))
