use Rattle.std.proofs.Common.{sym, ◌∙◌}
use Rattle.std.proofs.lemmas.Result.{err_from_is_err_and}
use Rattle.mojom_parser.proofs.Openings.{reads_empty, reads_no_attributes, reads_module, reads_other}
use Rattle.mojom_parser.proofs.file.file.Goals as goal

pub returns-then-not-begins_file : goal.returns-then-not-begins_file
returns-then-not-begins_file c =
    rw (c.new.ensures, c.new-then-not-begins_file.ensures) (reads_empty c.args.tokens.now (sym c.begins_file.ensures ∙ c.if-not-begins_file.true))

pub returns-in_err-attributes : goal.returns-in_err-attributes
returns-in_err-attributes c =
    let p = err_from_is_err_and c.from_residual.result c.from_residual.ensures.1 in
    rw (p.1, p.2) (reads_no_attributes c.args.tokens.now c.in_err-attributes.field-0.0 (sym c.begins_file.ensures ∙ c.if-not-begins_file.false)
    c.in_err-attributes.ensures)

pub returns-then-is_keyword : goal.returns-then-is_keyword
returns-then-is_keyword c =
    rw (reads_module c.args.tokens.now c.in_ok-attributes.attributes c.in_ok-attributes.rest.now (sym c.begins_file.ensures ∙ c.if-not-begins_file.false)
    c.in_ok-attributes.ensures
    (sym c.is_keyword.ensures ∙ c.if-is_keyword.true)) c.with_module.ensures

pub returns : goal.returns
returns c =
    rw (reads_other c.args.tokens.now c.in_ok-attributes.attributes c.in_ok-attributes.rest.now (sym c.begins_file.ensures ∙ c.if-not-begins_file.false)
    c.in_ok-attributes.ensures
    (sym c.is_keyword.ensures ∙ c.if-is_keyword.false)) c.without_module.ensures
