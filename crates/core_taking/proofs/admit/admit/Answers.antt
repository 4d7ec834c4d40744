use Rattle.std.proofs.Common.{arith}
use Rattle.core_state.specs.Routers.{found_at}
use Rattle.core_taking.proofs.Admitting.{all_admitted, next_admitted}
use Rattle.core_taking.proofs.admit.admit.Goals as goal

pub loop-at-preserved : goal.loop-at-preserved
loop-at-preserved c = λ named slot.
    next_admitted (found_at c.args.endpoints.now c.args.end) named c.args.slots.now c.args.ids.now c.loop-at.at c.endpoint_for-endpoint.result
    c.loop-at.seen c.admit_one.new.seen c.loop-at.admitted c.admit_one.new.admitted (omega (arith, c.loop-at-test.true)) slot
    c.endpoint_for-endpoint.ensures (λ done e now. c.in_ok-admit_one.ensures named done e now) (c.loop-at.invariant named slot)

pub returns : goal.returns
returns c = λ named slot.
    all_admitted (found_at c.args.endpoints.now c.args.end) named c.args.ids.now c.loop-at.at c.loop-at.seen c.loop-at.admitted
    (omega (arith, c.loop-at-test.false)) (c.loop-at.invariant named slot)
