use Rattle.std.proofs.Common.{inl, refl, sym, ◌∙◌, arith}
use Rattle.mojom_lexer.proofs.SignFronts.{bad_slash}
use Rattle.mojom_lexer.proofs.Standing.{line_stands, block_room, block_stands, open_comment}
use Rattle.mojom_lexer.proofs.pieces.comment.Goals as goal

pub returns-then-starts_with-clause-ok : goal.returns-then-starts_with-clause-ok
returns-then-starts_with-clause-ok c =
    line_stands c.args.bytes.now c.run_len.result c.requires.begins (sym c.starts_with.ensures.value ∙ c.if-starts_with.true) c.run_len.ensures

pub returns-then-not-starts_with-clause-refused : goal.returns-then-not-starts_with-clause-refused
returns-then-not-starts_with-clause-refused c =
    let no_line = sym c.starts_with.ensures.value ∙ c.if-starts_with.false in
    let no_block = sym c.starts_with-2.ensures.value ∙ c.if-not-starts_with.true in
    inl (bad_slash c.args.bytes.now c.requires.begins no_line no_block, refl)

pub overflow_add-result : goal.overflow_add-result
overflow_add-result c =
    let begins = sym c.starts_with-2.ensures.value ∙ c.if-not-starts_with.false in
    let room = block_room c.args.bytes.now c.in-Some.len begins c.in-Some.ensures in
    let fits = c.requires.fits in
    omega arith

pub returns-in-Some-clause-ok : goal.returns-in-Some-clause-ok
returns-in-Some-clause-ok c = block_stands c.args.bytes.now c.in-Some.len (sym c.starts_with-2.ensures.value ∙ c.if-not-starts_with.false) c.in-Some.ensures

pub returns-in-None-clause-refused : goal.returns-in-None-clause-refused
returns-in-None-clause-refused c =
    let begins = sym c.starts_with-2.ensures.value ∙ c.if-not-starts_with.false in
    let found = open_comment c.args.bytes.now begins c.in-None.ensures in
    (found.0, found.1, refl)
