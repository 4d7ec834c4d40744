use Rattle.std.proofs.Common.{sym, ◌∙◌}
use Rattle.mojom_lexer.proofs.Closes.{close_on}
use Rattle.mojom_lexer.specs.steps.Scans.{before_close}
use Rattle.mojom_lexer.proofs.comments.before_close.Goals as goal

pub loop-len-preserved : goal.loop-len-preserved
loop-len-preserved c =
    close_on c.args.bytes.now c.loop-len.len (before_close c.args.bytes.now) c.loop-len-test.true
    (sym c.starts_with.ensures.value ∙ c.if-starts_with.false) c.loop-len.invariant
