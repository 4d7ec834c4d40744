use Rattle.std.proofs.Common.{get_or, sym, ◌∙◌}
use Rattle.mojom_lexer.proofs.Runs.{run_goes, run_stops, run_ends}
use Rattle.mojom_lexer.proofs.bytes.run_len.Goals as goal

pub returns-then-not-passes : goal.returns-then-not-passes
returns-then-not-passes g c =
    run_stops g.test c.args.bytes.now c.loop-len.len c.loop-len-test.true
    (sym (c.requires.1.1 (get_or c.args.bytes.now c.loop-len.len 0) c.passes.result c.passes.ensures) ∙ c.if-not-passes.true) c.loop-len.invariant

pub loop-len-preserved : goal.loop-len-preserved
loop-len-preserved g c =
    run_goes g.test c.args.bytes.now c.loop-len.len c.loop-len-test.true
    (sym (c.requires.1.1 (get_or c.args.bytes.now c.loop-len.len 0) c.passes.result c.passes.ensures) ∙ c.if-not-passes.false) c.loop-len.invariant

pub returns : goal.returns
returns g c = run_ends g.test c.args.bytes.now c.loop-len.len c.loop-len.auto.len-end c.loop-len-test.false c.loop-len.invariant
