use Rattle.std.proofs.Common.{sym, ◌∙◌}
use Rattle.std.proofs.lemmas.Result.{err_from_is_err_and}
use Rattle.mojom_ast.specs.Lang.{times}
use Rattle.mojom_parser.specs.steps.Reading.{with_front}
use Rattle.mojom_parser.proofs.Loops.{starts, times_halt, times_fail, times_go_on, times_done}
use Rattle.mojom_parser.proofs.lists.at_most.Goals as goal

pub loop-init : goal.loop-init
loop-init g c = starts (λ n. times n g.L.Listed.rule) c.args.front.items c.args.limit c.args.tokens.now

pub returns-then-not-begins : goal.returns-then-not-begins
returns-then-not-begins g c =
    times_halt g.L.Listed.rule g.L.Listed.not_null c.loop.invariant c.loop-test.true (sym c.begins.ensures ∙ c.if-not-begins.true)

pub returns-in_err-item : goal.returns-in_err-item
returns-in_err-item g c =
    let p = err_from_is_err_and c.from_residual.result c.from_residual.ensures.1 in
    rw (p.1, p.2) (times_fail g.L.Listed.rule g.L.Listed.not_null
    {total = with_front c.args.front.items ((times c.args.limit g.L.Listed.rule).read c.args.tokens.now)}
    c.loop.invariant c.loop-test.true (sym c.begins.ensures ∙ c.if-not-begins.false) _ c.in_err-item.ensures)

pub loop-preserved : goal.loop-preserved
loop-preserved g c =
    times_go_on g.L.Listed.rule g.L.Listed.not_null c.loop.invariant c.loop-test.true (sym c.begins.ensures ∙ c.if-not-begins.false) _ _ c.in_ok-item.ensures _
    c.in_ok-push.ensures.items

pub returns : goal.returns
returns g c = times_done g.L.Listed.rule c.loop.invariant c.loop-test.false
