use Rattle.std.proofs.Common.{arith}
use Rattle.const_eval.proofs.Steps.{ordinal_step}
use Rattle.const_eval.proofs.ordinals.check_ordinals.Goals as goal

pub check_uint32-requires : goal.check_uint32-requires
check_uint32-requires c = omega (arith, c.ordinal_or-ordinal.ensures.small, c.loop-member.invariant.small)

pub overflow_add-next : goal.overflow_add-next
overflow_add-next c = record { fits = omega (arith, c.ordinal_or-ordinal.ensures.small, c.loop-member.invariant.small) }

pub loop-member-preserved : goal.loop-member-preserved
loop-member-preserved c = record {
  small = omega (arith, c.ordinal_or-ordinal.ensures.small, c.loop-member.invariant.small);
  best = ordinal_step
      c.args.file
      c.loop-member.next
      c.loop-member.best
      c.check_uint32.new.best
      _
      c.args.members.now
      c.loop-member.member-index
      c.member-item.result
      _
      c.ordinal_or-ordinal.result
      c.place_of_ordinal.result
      c.loop-member-test.true
      c.member-item.is
      c.ordinal_or-ordinal.ensures.value
      c.place_of_ordinal.ensures
      c.loop-member.invariant.best
      c.check_uint32.ensures;
}
