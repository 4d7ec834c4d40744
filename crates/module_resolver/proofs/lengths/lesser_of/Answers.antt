use Rattle.std.proofs.Common.{rules}
use Rattle.module_resolver.proofs.LesserLengths.{lesser_more, lesser_whole}
use Rattle.module_resolver.proofs.lengths.lesser_of.Goals as goal

pub loop-len-preserved : goal.loop-len-preserved
loop-len-preserved c =
    lesser_more c.args.marks.now c.loop-len.lesser.items c.push.new.self.items c.loop-len.len c.loop-len.last c.last_marked-last.result _
    c.loop-len-test.true (search rules) c.last_marked-last.ensures c.in_ok-push.ensures.items c.loop-len.invariant

pub returns : goal.returns
returns c = lesser_whole c.args.marks.now c.loop-len.lesser.items c.loop-len.len c.loop-len.last (search rules) c.loop-len.invariant
