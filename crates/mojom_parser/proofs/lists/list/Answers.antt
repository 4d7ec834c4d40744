use Rattle.std.proofs.Common.{length, sym, ◌∙◌}
use Rattle.std.proofs.lemmas.Result.{err_from_is_err_and}
use Rattle.mojom_ast.specs.Lang.{commas}
use Rattle.mojom_parser.proofs.Loops.{starts_empty, commas_halt, commas_fail, commas_last, commas_go_on, commas_done}
use Rattle.mojom_parser.proofs.lists.list.Goals as goal

pub loop-init : goal.loop-init
loop-init g c = starts_empty (λ n. commas n g.L.Listed.rule) _ (length c.args.tokens.now) c.args.tokens.now c.new-items.ensures.items

pub returns-then-not-begins : goal.returns-then-not-begins
returns-then-not-begins g c =
    commas_halt g.L.Listed.rule g.L.Listed.not_null c.loop.invariant c.loop-test.true (sym c.begins.ensures ∙ c.if-not-begins.true)

pub returns-in_err-item : goal.returns-in_err-item
returns-in_err-item g c =
    let p = err_from_is_err_and c.from_residual.result c.from_residual.ensures.1 in
    rw (p.1, p.2) (commas_fail g.L.Listed.rule g.L.Listed.not_null c.loop.invariant c.loop-test.true (sym c.begins.ensures ∙ c.if-not-begins.false) _
    c.in_err-item.ensures)

pub returns-then-not-is_symbol : goal.returns-then-not-is_symbol
returns-then-not-is_symbol g c =
    commas_last g.L.Listed.rule g.L.Listed.not_null c.loop.invariant c.loop-test.true (sym c.begins.ensures ∙ c.if-not-begins.false) _ _ c.in_ok-item.ensures
    (sym c.is_symbol.ensures ∙ c.if-not-is_symbol.true) _ c.in_ok-push.ensures.items

pub loop-preserved : goal.loop-preserved
loop-preserved g c =
    commas_go_on g.L.Listed.rule g.L.Listed.not_null c.loop.invariant c.loop-test.true (sym c.begins.ensures ∙ c.if-not-begins.false) _ _ c.in_ok-item.ensures
    (sym c.is_symbol.ensures ∙ c.if-not-is_symbol.false) _ _ c.in_ok-next.ensures _ c.in_ok-push.ensures.items

pub returns : goal.returns
returns g c = commas_done g.L.Listed.rule c.loop.invariant c.loop-test.false
