use Rattle.std.proofs.Common.{List, [], Ok, sym, ap, ◌∙◌}
use Rattle.std.proofs.lemmas.Result.{err_from_is_err_and}
use Rattle.mj_base.specs.declared.limits.TheConstants.{MAX_NESTED_TYPES}
use Rattle.mojom_ast.specs.declared.definitions.Definition.{Definition}
use Rattle.mojom_ast.specs.Trees.{make_import}
use Rattle.grammar_laws.specs.steps.Factored.{statements}
use Rattle.mojom_parser.specs.steps.Reading.{with_imports}
use Rattle.mojom_parser.proofs.Statements.{goes_on, ends, halts, is_done, step_off, step_end, step_definitions, end_definitions, step_import, end_import}
use Rattle.mojom_parser.proofs.file.statements.Goals as goal

pub returns-then-not-begins_statement : goal.returns-then-not-begins_statement
returns-then-not-begins_statement c =
    halts c.args.limit c.loop.imports.items c.args.limit c.loop.counter c.loop.rest.now c.loop.rest.now []
    (with_imports c.args.imports.items ((statements c.args.limit c.args.limit MAX_NESTED_TYPES).read c.args.tokens.now)) c.loop-test.true
    (step_off c.args.limit c.loop.rest.now (sym c.begins_statement.ensures ∙ c.if-not-begins_statement.true)) c.loop.invariant
    ∙ ap (λ (ds : List Definition). Ok ((c.loop.imports.items, ds), c.loop.rest.now)) (sym c.new.ensures.items)

pub returns-in_err-attributes : goal.returns-in_err-attributes
returns-in_err-attributes c =
    let p = err_from_is_err_and c.from_residual.result c.from_residual.ensures.1 in
    rw (p.1, p.2) (ends c.args.limit c.in_err-attributes.field-0.0 c.loop.imports.items c.args.limit c.loop.counter c.loop.rest.now
    (with_imports c.args.imports.items ((statements c.args.limit c.args.limit MAX_NESTED_TYPES).read c.args.tokens.now)) c.loop-test.true
    (step_end c.args.limit c.loop.rest.now c.in_err-attributes.field-0.0
    (sym c.begins_statement.ensures ∙ c.if-not-begins_statement.false) c.in_err-attributes.ensures) c.loop.invariant)

pub returns-in_err-definitions : goal.returns-in_err-definitions
returns-in_err-definitions c =
    let p = err_from_is_err_and c.from_residual-in_err-definitions.result c.from_residual-in_err-definitions.ensures.1 in
    rw (p.1, p.2) (ends c.args.limit c.in_err-definitions.field-0.0 c.loop.imports.items c.args.limit c.loop.counter c.loop.rest.now
    (with_imports c.args.imports.items ((statements c.args.limit c.args.limit MAX_NESTED_TYPES).read c.args.tokens.now)) c.loop-test.true
    (end_definitions c.args.limit c.loop.rest.now c.in_ok-attributes.attributes c.in_ok-attributes.after.now c.in_err-definitions.field-0.0
    (sym c.begins_statement.ensures ∙ c.if-not-begins_statement.false) c.in_ok-attributes.ensures
    (sym c.begins_item.ensures ∙ c.if-begins_item.true) c.in_err-definitions.ensures) c.loop.invariant)

pub returns-then-begins_item : goal.returns-then-begins_item
returns-then-begins_item c =
    halts c.args.limit c.loop.imports.items c.args.limit c.loop.counter c.loop.rest.now c.in_ok-definitions.end.now c.in_ok-definitions.definitions.items
    (with_imports c.args.imports.items ((statements c.args.limit c.args.limit MAX_NESTED_TYPES).read c.args.tokens.now)) c.loop-test.true
    (step_definitions c.args.limit c.loop.rest.now c.in_ok-attributes.attributes c.in_ok-attributes.after.now c.in_ok-definitions.definitions.items
    c.in_ok-definitions.end.now (sym c.begins_statement.ensures ∙ c.if-not-begins_statement.false) c.in_ok-attributes.ensures
    (sym c.begins_item.ensures ∙ c.if-begins_item.true) c.in_ok-definitions.ensures) c.loop.invariant

pub returns-in_err-path : goal.returns-in_err-path
returns-in_err-path c =
    let p = err_from_is_err_and c.from_residual-in_err-path.result c.from_residual-in_err-path.ensures.1 in
    rw (p.1, p.2) (ends c.args.limit c.in_err-path.field-0.0 c.loop.imports.items c.args.limit c.loop.counter c.loop.rest.now
    (with_imports c.args.imports.items ((statements c.args.limit c.args.limit MAX_NESTED_TYPES).read c.args.tokens.now)) c.loop-test.true
    (end_import c.args.limit c.loop.rest.now c.in_ok-attributes.attributes c.in_ok-attributes.after.now c.in_err-path.field-0.0
    (sym c.begins_statement.ensures ∙ c.if-not-begins_statement.false) c.in_ok-attributes.ensures
    (sym c.begins_item.ensures ∙ c.if-begins_item.false) c.in_err-path.ensures) c.loop.invariant)

pub loop-preserved : goal.loop-preserved
loop-preserved c =
    rw c.in_ok-push.ensures.items (goes_on c.args.limit c.loop.imports.items c.args.limit c.loop.counter c.loop.rest.now
    (make_import (c.in_ok-attributes.attributes, c.in_ok-path.path)) c.in_ok-path.next.now
    (with_imports c.args.imports.items ((statements c.args.limit c.args.limit MAX_NESTED_TYPES).read c.args.tokens.now)) c.loop-test.true
    (step_import c.args.limit c.loop.rest.now c.in_ok-attributes.attributes c.in_ok-attributes.after.now c.in_ok-path.path c.in_ok-path.next.now
    (sym c.begins_statement.ensures ∙ c.if-not-begins_statement.false) c.in_ok-attributes.ensures
    (sym c.begins_item.ensures ∙ c.if-begins_item.false) c.in_ok-path.ensures) c.loop.invariant)

pub returns : goal.returns
returns c =
    is_done c.args.limit c.loop.imports.items c.args.limit c.loop.counter c.loop.rest.now
    (with_imports c.args.imports.items ((statements c.args.limit c.args.limit MAX_NESTED_TYPES).read c.args.tokens.now)) c.loop-test.false
    c.loop.invariant
    ∙ ap (λ (ds : List Definition). Ok ((c.loop.imports.items, ds), c.loop.rest.now)) (sym c.new-2.ensures.items)
