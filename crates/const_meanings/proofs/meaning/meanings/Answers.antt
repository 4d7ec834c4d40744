use Rattle.std.proofs.Common.{◌∙◌, arith, length-append}
use Rattle.const_meanings.proofs.Reaching.{each_more}
use Rattle.const_meanings.proofs.meaning.meanings.Goals as goal

pub loop-number-preserved : goal.loop-number-preserved
loop-number-preserved c = rw c.in_ok-push.ensures.items (record {
  count = length-append c.loop-number.meanings.items _ ∙ omega (arith, c.loop-number.invariant.count);
  each = each_more
      c.args.things.now
      c.loop-number.number
      c.loop-number.meanings.items
      c.meaning_of.result
      c.loop-number.invariant.count
      c.loop-number.invariant.each
      c.meaning_of.ensures;
})
