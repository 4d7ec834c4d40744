use Rattle.history_audit.proofs.Differing.{bytes_end, differs_here, same_all, same_first, same_more, text_ends}
use Rattle.history_audit.proofs.texts.first_difference.Goals as goal

pub returns-then-at-text-clause-differs : goal.returns-then-at-text-clause-differs
returns-then-at-text-clause-differs c =
    text_ends c.args.bytes.now c.args.text.now c.loop-at.line c.loop-at.at c.loop-at.invariant.so c.loop-at-test.true c.if-at-text.true
