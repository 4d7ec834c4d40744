use Rattle.std.proofs.Common.{refl}
use Rattle.std.proofs.lemmas.Result.{err_from_is_err_and}
use Rattle.mojom_lexer.proofs.Standing.{open_string, string_stands, bad_escape}
use Rattle.mojom_lexer.proofs.pieces.string.Goals as goal

pub returns-in_default-clause-refused : goal.returns-in_default-clause-refused
returns-in_default-clause-refused c = λ _. let found = open_string c.args.bytes.now c.requires.begins c.in_default.ensures in (found.0, found.1, refl)

pub returns-in_err-text-clause-refused : goal.returns-in_err-text-clause-refused
returns-in_err-text-clause-refused c =
    let p = err_from_is_err_and c.from_residual.result c.from_residual.ensures.1 in
    let bad = c.in_err-text.ensures.refused in
    rw (p.1, p.2) (bad_escape c.args.bytes.now c.args.at c.in-Some.len c.in_err-text.field-0.0 c.requires.begins c.in-Some.ensures bad)

pub returns-clause-ok : goal.returns-clause-ok
returns-clause-ok c = string_stands c.args.bytes.now c.in_ok-text.text c.in-Some.len c.requires.begins c.in-Some.ensures c.in_ok-text.ensures.ok
